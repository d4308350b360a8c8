-- One turn of the walk through all orders of a step.
use Rattle.std.proofs.Common.{◌≡◌, ℕ, ◌^◌, ◌<◌, List, [], ◌∷◌, Some, sym, refl, subst, subst₂, arith}
use native.Mathlib.Decide.{ℕ_discrete}
use lib.Count.{ones, count_trailing_zeros}
use Rattle.sets.proofs.Bits.{bit_digit, bit_minus}
use Rattle.sets.proofs.Members.{ones_minus, low_lt, minus_lt, not_in_none, inside_lt}
use Rattle.sets.specs.Sets.{Has, Inside, minus, Takes}
use Rattle.sets.proofs.Walking.{took_in, left_in, others_left, left_is}
use Rattle.problem.specs.Actions.{Action, result_of}
use Rattle.problem.specs.Firm.{Turn, Runs}
use Rattle.problem.specs.Orders.{Order, EveryOrder, EachFirst}
use Rattle.problem.proofs.Listed.{some_order}

-- the lowest of what is left to place
module _ (left step : ℕ) (sub : Inside left step) (lt : step < 2 ^ 64) (ne : left ≡ 0 → ⊥) where
  pub left_lt : left < 2 ^ 64
  left_lt = inside_lt left step sub lt

  pub left_pos : 0 < left
  left_pos = omega arith

  pub pick_lt : count_trailing_zeros 64 left < 64
  pick_lt = low_lt left left_pos left_lt

-- the next of what is left to place
module _ (left step k t : ℕ) (sub : Inside left step) (h : Takes left (Some k) t) where
  pub pick_in : Has step k
  pick_in = sub k (took_in left k t h)

  pub fewer : ones (minus step (2 ^ k)) < ones step
  fewer = omega (arith, ones_minus step k pick_in)

  pub still_in : Inside t step
  still_in j g = sub j (left_in left k t h j g)

pub minus_in : (step j : ℕ) → Inside (minus step j) step
minus_in step j k h = omega (arith, h, bit_minus step j k, bit_digit step k)

module _ (at : ℕ → Action) (s t step end : ℕ) where
  pub none_sound : step ≡ 0 → t ≡ end → EveryOrder at s t step end
  none_sound e q [] o = q
  none_sound e q (k ∷ ks) o = absurd (not_in_none step k e o.0)

  pub none_complete : step ≡ 0 → EveryOrder at s t step end → t ≡ end
  none_complete e f = f [] e

  pub each_none : EachFirst at s t step step end
  each_none k h no-k = absurd (no-k h)

  pub each_all : (left : ℕ) → left ≡ 0 → (step ≡ 0 → ⊥) → EachFirst at s t step left end → EveryOrder at s t step end
  each_all left e ne f [] o = absurd (ne o)
  each_all left e ne f (k ∷ ks) o = f k o.0 (not_in_none left k e) ks o.1

  pub no_turn : (k : ℕ) → step < 2 ^ 64 → Has step k → (Turn (at k) s t → ⊥) → EveryOrder at s t step end → ⊥
  no_turn k lt h no_t f =
      let o = some_order (ones (minus step (2 ^ k))) (minus step (2 ^ k)) (minus_lt step (2 ^ k) lt) refl in
      no_t (f (k ∷ o.0) (h, o.1)).0

  -- after the turn of k: the state next, and rest of the step
  pub no_rest : (k next rest : ℕ) → next ≡ result_of (at k) t → rest ≡ minus step (2 ^ k) → Has step k
      → (EveryOrder at s next rest end → ⊥) → EveryOrder at s t step end → ⊥
  no_rest k next rest en er h no_r f =
      no_r (subst₂ (λ (x y : ℕ). EveryOrder at s x y end) (sym en) (sym er) (λ seq o. (f (k ∷ seq) (h, o)).1))

  pub each_more : (left k rest next less : ℕ) → Takes left (Some k) rest → Turn (at k) s t
      → next ≡ result_of (at k) t → less ≡ minus step (2 ^ k)
      → EveryOrder at s next less end
      → EachFirst at s t step left end → EachFirst at s t step rest end
  each_more left k rest next less h turn en el every each j hj no_j =
      let every' : EveryOrder at s (result_of (at k) t) (minus step (2 ^ k)) end = subst₂ (λ (x y : ℕ). EveryOrder at s x y end) en el every in
      elim (ℕ_discrete j k) [
        | yes e ↦ subst (λ (x : ℕ). (seq : List ℕ) → Order (minus step (2 ^ x)) seq → Runs at s t (x ∷ seq) end) (sym e) (λ seq o. (turn, every' seq o))
        | no ne ↦ each j hj (λ g. no_j (others_left left k rest h j g ne))
      ]

  -- the lowest of the step first
  pub lowest_next : (k rest next : ℕ) → Takes step (Some k) rest → next ≡ result_of (at k) t
      → EveryOrder at s t step end → EveryOrder at s next rest end
  lowest_next k rest next h en f =
      subst₂ (λ (x y : ℕ). EveryOrder at s x y end) (sym en) (sym (left_is step k rest h)) (λ seq o. (f (k ∷ seq) (took_in step k rest h, o)).1)
