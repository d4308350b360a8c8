-- The first place, from a given one on, of which a fact holds.
use Rattle.std.specs.Prelude.{◌≡◌, ℕ, ◌+◌, ◌<◌, ◌≤◌, List, length, Some, None, Option, MatchOption, slice_index_or}
use Rattle.std.specs.Borrow.{Bor}

module _ {E : Type 0} where
  -- P holds of the row at i
  abbrev pub Holds : (E → Type 0) → List E → ℕ → Type 0
  Holds P rows i = (i < length rows) × ((d : E) → P (slice_index_or rows i d))

  -- the least place from start on at which P holds, or none if there is no such place
  abbrev pub First : (E → Type 0) → List E → ℕ → Option ℕ → Type 0
  First P rows start (Some i) = (start ≤ i) × Holds P rows i × ((k : ℕ) → k < i → start ≤ k → Holds P rows k → ⊥)
  First P rows start None = (k : ℕ) → start ≤ k → Holds P rows k → ⊥

  -- P holds of some row
  abbrev pub Somewhere : (E → Type 0) → List E → Type 0
  Somewhere P rows = (i : ℕ) × Holds P rows i

  -- what a look at the rows of which P holds, from one place on, gives, and the place from which the next look goes on
  abbrev pub NextFitting : (E → Type 0) → List E → ℕ → Option (Bor E) → ℕ → Type 0
  NextFitting P rows from r to = MatchOption r (First P rows from None) (λ e. (i : ℕ) × First P rows from (Some i) × ((d : E) → e.now ≡ slice_index_or rows i d) × (to ≡ i + 1))
