-- Where work on a goal begins.
use Rattle.std.specs.Prelude.{◌≡◌, ℕ, ◌<◌, ◌⊎◌, List, [], ◌∷◌, take}
use Rattle.sets.specs.Sets.{Has, Inside, Marks}
use Rattle.problem.specs.Actions.{Among}
use Rattle.problem.specs.Firm.{Task}
use Rattle.problem.specs.Runs.{Goal}
use Rattle.problem.specs.declared.rows.EffectRow.{EffectRow}
use Rattle.regression.specs.Reaching.{Reaches}
use Rattle.regression.specs.Nodes.{Pair, Lies}
use Rattle.regression.specs.Stacks.{part_of, Orderly}
use Rattle.regression.specs.declared.node.Node.{Node}
use Rattle.regression.specs.declared.found.Part.{Part}

-- the effect adds an atom that the goal needs, or deletes one that it avoids
abbrev pub Useful : Goal → EffectRow → Type 0
Useful q e = (k : ℕ) × ((Has e.add k × Has q.need k) ⊎ (Has e.delete k × Has q.avoid k))

-- one of the effects is useful
abbrev pub Helps : Goal → List EffectRow → Type 0
Helps q es = (e : EffectRow) × Among e es × Useful q e

-- r is where work on the goal begins: nothing is chosen or asked, the candidates are the actions that help, and every step that leads
-- into the goal has a lean part that lies there
pub record Root (t : Task) (q : Goal) (r : Node) : Type 0 where
  pub chosen : r.chosen ≡ 0
  pub need : r.region.need ≡ 0
  pub avoid : r.region.avoid ≡ 0
  pub candidates : Marks r.candidates (λ i. (i < t.count) × Helps q (t.at i).effects)
  pub orderly : Orderly t q (r ∷ [])
  pub parts : (s step : ℕ) → Reaches t q s step → (part : ℕ) × Inside part step × Pair t q s part × Lies r s part

-- the part that begins at start has one node, a root; the nodes below are as they were
pub record Begun (t : Task) (q : Goal) (before after : List Node) (start : ℕ) (part : Part) : Type 0 where
  pub root : Node
  pub is_root : Root t q root
  pub from : part.start ≡ start
  pub nodes : part_of after part.start part.count ≡ root ∷ []
  pub below : take start after ≡ take start before
