-- Orders by their first member, as the search through all orders meets them.
use Rattle.std.specs.Prelude.{◌≡◌, ℕ, ◌^◌, List, [], ◌∷◌}
use Rattle.sets.specs.Sets.{Has, minus}
use Rattle.problem.specs.Actions.{Action}
use Rattle.problem.specs.Firm.{Runs}

-- a member of step, and then an order of the others
abbrev pub Order : ℕ → List ℕ → Type 0
Order step [] = step ≡ 0
Order step (k ∷ ks) = Has step k × Order (minus step (2 ^ k)) ks

-- from t, every order of step runs and ends in end
abbrev pub EveryOrder : (ℕ → Action) → ℕ → ℕ → ℕ → ℕ → Type 0
EveryOrder at s t step end = (seq : List ℕ) → Order step seq → Runs at s t seq end

-- from t, so does every order whose first member is not in left
abbrev pub EachFirst : (ℕ → Action) → ℕ → ℕ → ℕ → ℕ → ℕ → Type 0
EachFirst at s t step left end = (k : ℕ) → Has step k → (Has left k → ⊥) → (seq : List ℕ) → Order (minus step (2 ^ k)) seq → Runs at s t (k ∷ seq) end
