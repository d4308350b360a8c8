-- What holds among the rows when one more is put behind them.
use Rattle.std.proofs.Common.{◌≡◌, ℕ, min, Bool, ◌⊎◌, List, [], ◌∷◌, ◌++◌, length, take, is_some, Some, None, Decides, Option, sym, refl, ap, ◌∙◌, subst, inl, inr, ⊎_elim, arith}
use native.Mathlib.Decide.{dec_le}
use Rattle.std.proofs.lemmas.List.{length_push, get_or_push, get_or_append_left, take_all}
use Rattle.std.proofs.lemmas.Bool.{cases_lt, false≢true}
use Rattle.sets.specs.Search.{Somewhere, First}

module _ {E : Type 0} (P : E → Type 0) (xs : List E) (x : E) where
  pub somewhere_old : Somewhere P xs → Somewhere P (xs ++ x ∷ [])
  somewhere_old h = (h.0, (omega (arith, h.1.0, length_push xs x), λ d. subst P (sym (get_or_append_left xs (x ∷ []) d h.0 h.1.0)) (h.1.1 d)))

  pub somewhere_new : P x → Somewhere P (xs ++ x ∷ [])
  somewhere_new p = (length xs, (omega (arith, length_push xs x), λ d. subst P (sym (get_or_push xs x d (length xs) (omega arith))) p))

  pub somewhere_push : Somewhere P (xs ++ x ∷ []) → Somewhere P xs ⊎ P x
  somewhere_push h =
      ⊎_elim
      (λ lt. inl (h.0, (lt, λ d. subst P (get_or_append_left xs (x ∷ []) d h.0 lt) (h.1.1 d))))
      (λ ge. inr (subst P (get_or_push xs x x h.0 (omega (arith, h.1.0, length_push xs x))) (h.1.1 x)))
      (cases_lt h.0 (length xs))

module _ {E : Type 0} (P : E → Type 0) where
  -- what a search from the start answers says whether `P` holds of some row
  pub first_decides : (rows : List E) (r : Option ℕ) → First P rows 0 r → Decides (is_some r) (Somewhere P rows)
  first_decides rows (Some i) h = (λ _. (i, h.1), λ _. refl)
  first_decides rows None h = (λ e. absurd (false≢true e), λ a. absurd (h a.0 (omega arith) a.1))

  pub found_decides : (rows xs : List E) (r : Option ℕ) (b : Bool) → rows ≡ xs → b ≡ is_some r → First P rows 0 r → Decides b (Somewhere P xs)
  found_decides rows xs r b e f h = rw (f, ← e) (first_decides rows r h)

-- no more can be taken than there is
pub take_min : {A : Type 0} (n : ℕ) (l : List A) → take (min n (length l)) l ≡ take n l
take_min n l = elim (dec_le n (length l)) [
  | yes le ↦ (let e : min n (length l) ≡ n = omega arith in ap (λ (x : ℕ). take x l) e)
  | no gt ↦ (let e : min n (length l) ≡ length l = omega arith in
      ap (λ (x : ℕ). take x l) e ∙ take_all (length l) l (omega arith) ∙ sym (take_all n l (omega arith)))
]
