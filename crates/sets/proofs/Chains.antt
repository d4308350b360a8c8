-- What `all` along a range or a slice decides.
use Rattle.std.proofs.Common.{◌≡◌, ◌∙◌, ℕ, ◌<◌, Bool, true, false, List, length, slice_index_or, Decides, MatchBool, refl, subst, arith}
use Rattle.std.specs.List.{range_with_len, AllWithin, HoldsAt}
use Rattle.std.proofs.lemmas.List.FromFn.{length-range_with_len, get_or-range_with_len}
use Rattle.std.proofs.lemmas.Bool.{false≢true}

-- the number at k, in a list of all numbers below n
below_at : (n k : ℕ) → k < n → slice_index_or (range_with_len 0 n) k 0 ≡ k
below_at n k lt = get_or-range_with_len 0 n k 0 lt ∙ omega arith

-- what `all` says of the numbers below n
pub all_below_decides :
    (n : ℕ) (P : ℕ → Type 0) (r : Bool)
    → MatchBool r (AllWithin P (range_with_len 0 n) 0 (length (range_with_len 0 n)))
    ((k : ℕ) × (k < length (range_with_len 0 n)) × HoldsAt (λ x. P x → ⊥) (range_with_len 0 n) k)
    → Decides r ((k : ℕ) → k < n → P k)
all_below_decides n P true h = (
  (λ _ k lt. subst P (below_at n k lt) (h k 0 (omega arith) (omega (arith, lt, length-range_with_len 0 n)))),
  λ _. refl,
)
all_below_decides n P false h = (
  (λ e. absurd (false≢true e)),
  λ all.
      let lt : h.0 < n = omega (arith, h.1, length-range_with_len 0 n) in
      absurd (subst (λ (x : ℕ). P x → ⊥) (below_at n h.0 lt) (h.2 0) (all h.0 lt)),
)

-- what `all` says of the rows of a list
pub all_rows_decide :
    {X : Type 0} (xs : List X) (d : X) (P : X → Type 0) (r : Bool)
    → MatchBool r (AllWithin P xs 0 (length xs)) ((k : ℕ) × (k < length xs) × HoldsAt (λ x. P x → ⊥) xs k)
    → Decides r ((k : ℕ) → k < length xs → P (slice_index_or xs k d))
all_rows_decide xs d P true h = ((λ _ k lt. h k d (omega arith) lt), λ _. refl)
all_rows_decide xs d P false h = ((λ e. absurd (false≢true e)), λ all. absurd (h.2 d (all h.0 h.1)))
