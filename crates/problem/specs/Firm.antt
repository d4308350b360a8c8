-- Firm steps, over every order of their actions.
use Rattle.std.specs.Prelude.{◌≡◌, ℕ, ◌<◌, ◌≤◌, ◌⊎◌, List, [], ◌∷◌, count_ones}
use Rattle.sets.specs.Sets.{Has}
use Rattle.problem.specs.Actions.{Action, result_of, MayRun, FireAlike}

-- a planning task: the numbers of its atoms and hands, its first state, the number of its actions, and the action of each number
pub record Task : Type 0 where
  pub atoms : ℕ
  pub hands : ℕ
  pub first : ℕ
  pub count : ℕ
  pub at : ℕ → Action

-- a set of actions of the task, at most one a hand
pub record Step (t : Task) (step : ℕ) : Type 0 where
  pub known : (k : ℕ) → Has step k → k < t.count
  pub few : count_ones step ≤ t.hands

-- k stands in the list
abbrev pub In : ℕ → List ℕ → Type 0
In k [] = ⊥
In k (x ∷ xs) = (k ≡ x) ⊎ In k xs

-- no number stands in the list twice
abbrev pub Distinct : List ℕ → Type 0
Distinct [] = Unit {0}
Distinct (x ∷ xs) = (In x xs → ⊥) × Distinct xs

-- the list is an order of the step: each action of the step stands in it, once, and nothing else does
pub record OrderOf (step : ℕ) (order : List ℕ) : Type 0 where
  pub once : Distinct order
  pub all : (k : ℕ) → Has step k → In k order
  pub only : (k : ℕ) → In k order → Has step k

-- in the state t the action can take its turn: it may run, and it fires what it fires in s
abbrev pub Turn : Action → ℕ → ℕ → Type 0
Turn a s t = MayRun a t × FireAlike a.effects s t

-- from the state t the actions take their turns in this order, each firing what it fires in s, and the last leaves the state end
abbrev pub Runs : (ℕ → Action) → ℕ → ℕ → List ℕ → ℕ → Type 0
Runs at s t [] end = t ≡ end
Runs at s t (k ∷ ks) end = Turn (at k) s t × Runs at s (result_of (at k) t) ks end

-- in every order the actions of step run from s, and end in end
abbrev pub Firm : (ℕ → Action) → ℕ → ℕ → ℕ → Type 0
Firm at s step end = (order : List ℕ) → OrderOf step order → Runs at s s order end

-- the step is firm in s, and ends in end
pub record FirmStep (t : Task) (s step end : ℕ) : Type 0 where
  pub allowed : Step t step
  pub firm : Firm t.at s step end
