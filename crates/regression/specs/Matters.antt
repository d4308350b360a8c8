-- Which atoms the outcome of a step can turn on.
use Rattle.std.specs.Prelude.{ℕ, ◌≢◌, ◌⊎◌, List}
use Rattle.sets.specs.Sets.{Has}
use Rattle.problem.specs.Actions.{Action, Among}
use Rattle.problem.specs.Runs.{Goal}
use Rattle.problem.specs.declared.rows.EffectRow.{EffectRow}

-- the goal names the atom k
abbrev pub GoalNames : Goal → ℕ → Type 0
GoalNames q k = Has q.need k ⊎ Has q.avoid k

-- the effect adds or deletes k
abbrev pub Changes : EffectRow → ℕ → Type 0
Changes e k = Has e.add k ⊎ Has e.delete k

-- the action's precondition, or a condition, an add or a delete of its effects, names k
abbrev pub ActionNames : Action → ℕ → Type 0
ActionNames a k = Has a.precondition k ⊎ ((e : EffectRow) × Among e a.effects × (Has e.condition k ⊎ Changes e k))

-- the effect changes an atom of the goal
abbrev pub Serves : EffectRow → Goal → Type 0
Serves e q = (k : ℕ) × Changes e k × GoalNames q k

-- the effect changes an atom that the action names, or its condition has one that the action changes
abbrev pub Touches : EffectRow → Action → Type 0
Touches e a = (k : ℕ) × ((Changes e k × ActionNames a k) ⊎ (Has e.condition k × ((f : EffectRow) × Among f a.effects × Changes f k)))

-- an effect of the step changes an atom of the set
abbrev pub Stirs : (ℕ → Action) → ℕ → ℕ → Type 0
Stirs at step set = (j : ℕ) × Has step j × ((e : EffectRow) × Among e (at j).effects × ((k : ℕ) × Changes e k × Has set k))

-- x stands in the condition of an effect of the step that changes an atom of the set
abbrev pub Sways : (ℕ → Action) → ℕ → ℕ → ℕ → Type 0
Sways at step set x =
    (j : ℕ) × Has step j × ((e : EffectRow) × Among e (at j).effects × Has e.condition x × ((k : ℕ) × Changes e k × Has set k))

-- x stands in the condition of one of the effects, which an effect of the step changes, or in the condition of such an effect of the step
abbrev pub Stirred : (ℕ → Action) → List EffectRow → ℕ → ℕ → Type 0
Stirred at es step x =
    (e : EffectRow) × Among e es × ((Has e.condition x × Stirs at step e.condition) ⊎ Sways at step e.condition x)

-- x stands in the condition of an effect of the step that changes an atom of the goal
abbrev pub Serving : (ℕ → Action) → ℕ → Goal → ℕ → Type 0
Serving at step q x = (j : ℕ) × Has step j × ((e : EffectRow) × Among e (at j).effects × Has e.condition x × Serves e q)

-- x stands in the condition of an effect of the action i that touches the action a
abbrev pub Rubs : (ℕ → Action) → ℕ → Action → ℕ → Type 0
Rubs at i a x = (e : EffectRow) × Among e (at i).effects × Has e.condition x × Touches e a

-- x stands in the condition of an effect of i that touches one of the others, or the other way round
abbrev pub Rubbed : (ℕ → Action) → ℕ → ℕ → ℕ → Type 0
Rubbed at i others x = (j : ℕ) × Has others j × (Rubs at i (at j) x ⊎ Rubs at j (at i) x)

-- x stands in a precondition of the step, or in the condition of an effect of the step that touches another action of the step
abbrev pub Concerns : (ℕ → Action) → ℕ → ℕ → Type 0
Concerns at step x =
    (i : ℕ) × Has step i × (Has (at i).precondition x ⊎ ((j : ℕ) × Has step j × (j ≢ i) × Rubs at i (at j) x))

-- x is an atom of the goal, or of the condition of an effect of the step that changes the goal's atoms, or concerns the step's firmness:
-- no other effect is ever asked about
abbrev pub Matters : (ℕ → Action) → ℕ → Goal → ℕ → Type 0
Matters at step q x = (GoalNames q x ⊎ Serving at step q x) ⊎ Concerns at step x
