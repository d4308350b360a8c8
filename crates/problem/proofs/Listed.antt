-- An order of a step by its members, and by its first member, are the same.
use Rattle.std.proofs.Common.{◌≡◌, ℕ, Bool, true, false, Option, Decides, zero, suc, ◌^◌, ◌<◌, ◌≢◌, ◌⊎◌, List, [], ◌∷◌, sym, refl, ap, subst, inl, inr, eq-zero-or-pos, arith}
use native.Mathlib.Decide.{ℕ_discrete}
use lib.Count.{ones, count_trailing_zeros}
use Rattle.sets.proofs.Bits.{bit_digit, bit_none, same_members, bit_minus}
use Rattle.sets.proofs.Members.{bit_one, bit_other, ones_minus, low_has, minus_lt, none_zero}
use Rattle.sets.specs.Sets.{bit, Has, minus}
use Rattle.problem.specs.Actions.{Action}
use Rattle.std.specs.Bool.{then_some}
use Rattle.std.proofs.lemmas.Bool.{false≢true}
use Rattle.problem.specs.Firm.{In, OrderOf, Firm, Task, Step}
use Rattle.problem.specs.Declines.{Tries}
use Rattle.problem.specs.Orders.{Order, EveryOrder}

-- what is left of a set without one number
module _ (step x : ℕ) where
  pub left_in : (k : ℕ) → Has (minus step (2 ^ x)) k → Has step k
  left_in k h = omega (arith, h, bit_minus step (2 ^ x) k, bit_digit step k)

  pub left_other : (k : ℕ) → Has (minus step (2 ^ x)) k → k ≢ x
  left_other k h e =
      let h' : Has (minus step (2 ^ x)) x = subst (λ (y : ℕ). Has (minus step (2 ^ x)) y) e h in
      omega (arith, h', bit_minus step (2 ^ x) x, bit_one x, bit_digit step x)

  pub left_has : (k : ℕ) → Has step k → k ≢ x → Has (minus step (2 ^ x)) k
  left_has k h ne = omega (arith, h, bit_minus step (2 ^ x) k, bit_other x k ne)

drop_first : (k x : ℕ) (xs : List ℕ) → k ≢ x → (k ≡ x) ⊎ In k xs → In k xs
drop_first k x xs ne (inl e) = absurd (ne e)
drop_first k x xs ne (inr i) = i

pub to_order : (seq : List ℕ) (step : ℕ) → OrderOf step seq → Order step seq
to_order [] step l = same_members step 0 (λ k h. absurd (l.all k h)) (λ k h. absurd (let z : ⊥ = omega (arith, h, bit_none k) in z))
to_order (x ∷ xs) step l =
    let h : Has step x = l.only x (inl refl) in (
      h,
      to_order xs (minus step (2 ^ x)) (record {
        once = l.once.1;
        all = λ k m. drop_first k x xs (left_other step x k m) (l.all k (left_in step x k m));
        only = λ k i. left_has step x k (l.only k (inr i)) (λ e. l.once.0 (subst (λ (y : ℕ). In y xs) e i));
      }),
    )

pub from_order : (seq : List ℕ) (step : ℕ) → Order step seq → OrderOf step seq
from_order [] step e = record {
  once = tt;
  all = λ k h. omega (arith, h, ap (λ (x : ℕ). bit x k) e, bit_none k);
  only = λ k z. absurd z;
}
from_order (x ∷ xs) step o =
    let l = from_order xs (minus step (2 ^ x)) o.1 in
    record {
      once = (λ i. left_other step x x (l.only x i) refl, l.once);
      all = λ k h. elim (ℕ_discrete k x) [ yes e ↦ inl e | no ne ↦ inr (l.all k (left_has step x k h ne)) ];
      only = λ k i. elim i [ inl e ↦ subst (λ (y : ℕ). Has step y) (sym e) o.0 | inr j ↦ left_in step x k (l.only k j) ];
    }

-- so what holds along every order by members holds along every order by the first number, and the other way round
pub every_firm : (at : ℕ → Action) (s step end : ℕ) → EveryOrder at s s step end → Firm at s step end
every_firm at s step end f seq l = f seq (to_order seq step l)

pub firm_every : (at : ℕ → Action) (s step end : ℕ) → Firm at s step end → EveryOrder at s s step end
firm_every at s step end f seq o = f seq (from_order seq step o)

-- every mask of 64 bits has an order: the lowest member first
pub some_order : (n step : ℕ) → step < 2 ^ 64 → ones step ≡ n → (seq : List ℕ) × Order step seq
some_order zero step lt e = ([], none_zero step e)
some_order (suc n) step lt e = go (eq-zero-or-pos step) (λ k h l. some_order n (minus step (2 ^ k)) (minus_lt step (2 ^ k) lt) l)
  where
    go : (step ≡ 0) ⊎ (0 < step) → ((k : ℕ) → Has step k → ones (minus step (2 ^ k)) ≡ n → (seq : List ℕ) × Order (minus step (2 ^ k)) seq)
        → (seq : List ℕ) × Order step seq
    go (inl z) ih = ([], z)
    go (inr p) ih =
        let k : ℕ = count_trailing_zeros 64 step in
        let h = low_has step p lt in
        let r = ih k h (omega (arith, ones_minus step k h)) in
        (k ∷ r.0, (h, r.1))

-- what a try answers, where the walk through all orders says whether each ends in `end`
pub tries_by :
    (t : Task) (s step end : ℕ) (b : Bool) → Step t step
    → Decides b (EveryOrder t.at s s step end) → ((e : ℕ) → EveryOrder t.at s s step e → end ≡ e)
    → (r : Option ℕ) → r ≡ then_some b end → Tries t s step r
tries_by t s step end true allowed d one r e = rw e (record { allowed = allowed; firm = every_firm t.at s step end (d.0 refl) })
tries_by t s step end false allowed d one r e = rw e (λ x f.
    let every : EveryOrder t.at s s step x = firm_every t.at s step x f.firm in
    false≢true (d.1 (subst (EveryOrder t.at s s step) (sym (one x every)) every)))
