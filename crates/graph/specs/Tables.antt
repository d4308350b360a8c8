-- Levels, and what their nodes do, as rows of masks.
use Rattle.std.specs.Prelude.{ℕ, ◌<◌, ◌≤◌, ◌⊎◌, List, map, bit_or, slice_index_or}
use Rattle.sets.specs.Sets.{Has, Marks, minus}
use Rattle.problem.specs.Actions.{adds, deletes}
use Rattle.problem.specs.Firm.{Task}
use Rattle.graph.specs.Turning.{row, Both}
use Rattle.graph.specs.Levels.{Level, Node, action, noop, Needs, SureAdd, SureDelete, Supports, Clash}
use Rattle.graph.specs.declared.layer.Layer.{Layer}
use Rattle.graph.specs.declared.table.Move.{Move}
use Rattle.graph.specs.declared.table.Nodes.{Nodes}

-- the level that a layer stands for
abbrev pub level_of : Layer → Level
level_of y = record { fact = λ f. Has y.facts f; exclusive = λ f g. Has (row y.exclusive.now f) g }

-- an atom that the node needs or surely adds
abbrev pub Uses : Task → Node → ℕ → Type 0
Uses t x f = Needs t x f ⊎ SureAdd t x f

-- the move of the action k, and the sets of all moves
abbrev pub move_at : List Move → ℕ → Move
move_at moves k = slice_index_or moves k (record { needs = 0; uses = 0; deletes = 0 })

abbrev pub needs_of : List Move → List ℕ
needs_of = map (λ (m : Move). m.needs)

abbrev pub uses_of : List Move → List ℕ
uses_of = map (λ (m : Move). m.uses)

abbrev pub deletes_of : List Move → List ℕ
deletes_of = map (λ (m : Move). m.deletes)

-- the state that has all atoms
abbrev pub every : ℕ
every = 18446744073709551615

-- the move of the action k as it is worked out, by what fires in the empty state and in the one that has all atoms
abbrev pub sure_add_of : Task → ℕ → ℕ
sure_add_of t k = minus (adds 0 (t.at k).effects) (deletes every (t.at k).effects)

abbrev pub sure_delete_of : Task → ℕ → ℕ
sure_delete_of t k = minus (deletes 0 (t.at k).effects) (adds every (t.at k).effects)

abbrev pub move_is : Task → ℕ → Move
move_is t k = record {
  needs = (t.at k).precondition;
  uses = bit_or (t.at k).precondition (sure_add_of t k);
  deletes = sure_delete_of t k;
}

-- the move says what the action k needs, uses and surely deletes
pub record MoveOf (t : Task) (k : ℕ) (m : Move) : Type 0 where
  pub needs : Marks m.needs (Needs t (action k))
  pub uses : Marks m.uses (Uses t (action k))
  pub deletes : Marks m.deletes (SureDelete t (action k))

-- the moves are those of the actions of the task
pub record MovesOf (t : Task) (moves : List Move) : Type 0 where
  pub few : t.count ≤ 64
  pub each : (k : ℕ) → k < t.count → MoveOf t k (move_at moves k)

-- the rows say what each action supports
abbrev pub SupportsOf : Task → Level → List ℕ → Type 0
SupportsOf t l rows = (k : ℕ) → Marks (row rows k) (Supports t l (action k))

-- the sets have a member in common
abbrev pub Meet : ℕ → ℕ → Type 0
Meet a b = (f : ℕ) × Has a f × Has b f

-- the action j uses of deletes, surely deletes of uses, or needs of barred
abbrev pub Touches : List Move → ℕ → ℕ → ℕ → ℕ → Type 0
Touches moves uses deletes barred j =
    Meet (move_at moves j).uses deletes ⊎ (Meet (move_at moves j).deletes uses ⊎ Meet (move_at moves j).needs barred)

-- the nodes are those of which P holds
pub record NodesOf (t : Task) (P : Node → Type 0) (s : Nodes) : Type 0 where
  pub actions : (j : ℕ) → j < t.count → Both (Has s.actions j) (P (action j))
  pub noops : (g : ℕ) → g < 64 → Both (Has s.noops g) (P (noop g))

-- the nodes of the row k
abbrev pub nodes_at : List Nodes → ℕ → Nodes
nodes_at rows k = slice_index_or rows k (record { actions = 0; noops = 0 })

-- the rows say what clashes with each action
abbrev pub ClashesOf : Task → Level → List Nodes → Type 0
ClashesOf t l rows = (k : ℕ) → k < t.count → NodesOf t (Clash t l (action k)) (nodes_at rows k)

-- y clashes with the no-op of f, if f is a fact
abbrev pub Stopped : Task → Level → ℕ → Node → Type 0
Stopped t l f y = l.fact f → Clash t l (noop f) y

-- y clashes with each supporter of f
abbrev pub Beaten : Task → Level → ℕ → Node → Type 0
Beaten t l f y = (x : Node) → Supports t l x f → Clash t l x y
