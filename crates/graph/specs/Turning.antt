-- Rows of masks, and the same relation the other way round.
use Rattle.std.specs.Prelude.{◌≡◌, ℕ, List, slice_index}
use Rattle.sets.specs.Sets.{bit}

-- each follows from the other
abbrev pub Both : Type 0 → Type 0 → Type 0
Both A B = (A → B) × (B → A)

-- the row k
abbrev pub row : List ℕ → ℕ → ℕ
row rows k = slice_index rows k

-- f is in the row k just where k is in the row f of the others
abbrev pub Turned : List ℕ → List ℕ → Type 0
Turned others rows = (f k : ℕ) → bit (row others f) k ≡ bit (row rows k) f
