-- Steps of one and of two actions, and the examples.
use Rattle.std.proofs.Common.{◌≡◌, ℕ, ◌^◌, ◌≢◌, List, [], ◌∷◌, sym, refl, ap, ◌∙◌, subst, arith, lit<, lit≤, pow_pos}
use native.Mathlib.Decide.{ℕ_discrete}
use lib.Bits.{bit_or}
use lib.Count.{ones}
use Rattle.std.proofs.lemmas.Bool.{false≢true}
use Rattle.sets.specs.Sets.{bit, Has, minus}
use Rattle.sets.proofs.Bits.{bit_digit, bit_of_or, bit_minus, bit_none, bit_zero, same_bits, and_inside}
use Rattle.sets.proofs.Members.{bit_one, bit_other, not_in_none, below_within}
use Rattle.problem.specs.Actions.{Action, result_of, adds, deletes}
use Rattle.problem.specs.Firm.{Turn, Runs}
use Rattle.problem.specs.Orders.{Order, EveryOrder}
use Rattle.problem.specs.Examples.{valuation, crossed, undone, SweepEnds, CheckAndSweep, PostAndSweep, CrossedNotFirm, UndoneEndsWithout}
use Rattle.problem.proofs.Listed.{every_firm, firm_every}

member_one : (i k : ℕ) → Has (2 ^ i) k → k ≡ i
member_one i k h = elim (ℕ_discrete k i) [
  | yes e ↦ e
  | no ne ↦ absurd (let z : ⊥ = omega (arith, h, bit_other i k ne) in z)
]

nothing_left : (i : ℕ) → minus (2 ^ i) (2 ^ i) ≡ 0
nothing_left i = same_bits _ _ (λ k. omega (arith, bit_minus (2 ^ i) (2 ^ i) k, bit_none k))

none_order : (at : ℕ → Action) (s t step end : ℕ) (seq : List ℕ) → step ≡ 0 → Order step seq → t ≡ end → Runs at s t seq end
none_order at s t step end [] e o q = q
none_order at s t step end (k ∷ ks) e o q = absurd (not_in_none step k e o.0)

-- a step of one action
pub one_every : (at : ℕ → Action) (s t i end : ℕ) → Turn (at i) s t → result_of (at i) t ≡ end → EveryOrder at s t (2 ^ i) end
one_every at s t i end turn ends [] o = absurd (let z : ⊥ = omega (arith, pow_pos i, o) in z)
one_every at s t i end turn ends (k ∷ ks) o =
    let e : k ≡ i = member_one i k o.0 in
    let rest : Order (minus (2 ^ i) (2 ^ i)) ks = subst (λ (x : ℕ). Order (minus (2 ^ i) (2 ^ x)) ks) e o.1 in
    subst (λ (x : ℕ). Runs at s t (x ∷ ks) end) (sym e) (turn, none_order at s (result_of (at i) t) _ end ks (nothing_left i) rest ends)

other_left : (i j : ℕ) → i ≢ j → minus (bit_or (2 ^ i) (2 ^ j)) (2 ^ i) ≡ 2 ^ j
other_left i j ne = same_bits _ _ (λ k. elim (ℕ_discrete k i) [
  | yes e ↦ (
      let one : Has (2 ^ i) k = subst (λ (x : ℕ). Has (2 ^ i) x) (sym e) (bit_one i) in
      let no_j : bit (2 ^ j) k ≡ 0 = bit_other j k (λ q. ne (sym e ∙ q)) in
      omega (arith, one, no_j, bit_minus (bit_or (2 ^ i) (2 ^ j)) (2 ^ i) k, bit_of_or (2 ^ i) (2 ^ j) k))
  | no other ↦ omega (arith, bit_other i k other, bit_minus (bit_or (2 ^ i) (2 ^ j)) (2 ^ i) k, bit_of_or (2 ^ i) (2 ^ j) k)
])

or_comm : (a b : ℕ) → bit_or a b ≡ bit_or b a
or_comm a b = same_bits _ _ (λ k. omega (arith, bit_of_or a b k, bit_of_or b a k))

-- a step of two actions
pub two_every : (at : ℕ → Action) (s i j end : ℕ) → i ≢ j
    → Turn (at i) s s → Turn (at j) s (result_of (at i) s) → result_of (at j) (result_of (at i) s) ≡ end
    → Turn (at j) s s → Turn (at i) s (result_of (at j) s) → result_of (at i) (result_of (at j) s) ≡ end
    → EveryOrder at s s (bit_or (2 ^ i) (2 ^ j)) end
two_every at s i j end ne i₁ j₂ ends j₁ i₂ ends' [] o =
    absurd (not_in_none (bit_or (2 ^ i) (2 ^ j)) i o (omega (arith, bit_of_or (2 ^ i) (2 ^ j) i, bit_one i, bit_digit (2 ^ j) i)))
two_every at s i j end ne i₁ j₂ ends j₁ i₂ ends' (k ∷ ks) o = elim (ℕ_discrete k i) [
  | yes e ↦ (
      let rest : Order (2 ^ j) ks =
      subst (λ (x : ℕ). Order x ks) (other_left i j ne) (subst (λ (x : ℕ). Order (minus (bit_or (2 ^ i) (2 ^ j)) (2 ^ x)) ks) e o.1) in
      subst (λ (x : ℕ). Runs at s s (x ∷ ks) end) (sym e) (i₁, one_every at s (result_of (at i) s) j end j₂ ends ks rest))
  | no other ↦ (
      let e : k ≡ j = member_one j k (omega (arith, o.0, bit_of_or (2 ^ i) (2 ^ j) k, bit_other i k other, bit_digit (2 ^ j) k)) in
      let rest : Order (2 ^ i) ks =
      subst (λ (x : ℕ). Order x ks) (ap (λ (x : ℕ). minus x (2 ^ j)) (or_comm (2 ^ i) (2 ^ j)) ∙ other_left j i (λ q. ne (sym q)))
      (subst (λ (x : ℕ). Order (minus (bit_or (2 ^ i) (2 ^ j)) (2 ^ x)) ks) e o.1) in
      subst (λ (x : ℕ). Runs at s s (x ∷ ks) end) (sym e) (j₁, one_every at s (result_of (at j) s) i end i₂ ends' ks rest))
]

pub sweep_ends : SweepEnds
unfolding minus ones
sweep_ends = record {
  allowed = record { known = below_within 3 4 (lit< tt); few = lit≤ tt };
  firm = every_firm valuation.at 5 4 8 (one_every valuation.at 5 5 2 8 (and_inside 1 5 refl, (refl, (refl, tt))) refl);
}

-- after the sweep 0 is gone, and the check may not run
pub check_and_sweep : CheckAndSweep
unfolding minus bit
check_and_sweep end f =
    let every = firm_every valuation.at 5 5 end f.firm in
    let r = every (2 ∷ 0 ∷ []) (refl, (refl, refl)) in
    let h : Has 8 0 = r.1.0.0 0 refl in
    omega (arith, h)

pub post_and_sweep : PostAndSweep
unfolding minus ones
post_and_sweep = record {
  allowed = record { known = below_within 3 6 (lit< tt); few = lit≤ tt };
  firm = every_firm valuation.at 7 6 26 (two_every valuation.at 7 1 2 26 (λ e. omega (arith, e))
      (and_inside 2 7 refl, (refl, tt)) (and_inside 1 23 refl, (refl, (refl, tt))) refl
      (and_inside 1 7 refl, (refl, (refl, tt))) (and_inside 2 10 refl, (refl, tt)) refl);
}

-- after the first action the second fires an effect that rested
pub crossed_not_firm : CrossedNotFirm
unfolding minus bit
crossed_not_firm = (
  refl,
  refl,
  λ end f.
      let every = firm_every crossed.at 0 3 end f.firm in
      let r = every (0 ∷ 1 ∷ []) (refl, (refl, refl)) in
      false≢true r.1.0.1.1.0,
)

pub undone_ends_without : UndoneEndsWithout
undone_ends_without s h =
    let deleted : bit (deletes s undone.effects) 0 ≡ 1 = bit_zero 1 in
    omega (
      arith,
      h,
      deleted,
      bit_minus (bit_or s (adds s undone.effects)) (deletes s undone.effects) 0,
      bit_digit (bit_or s (adds s undone.effects)) 0,
    )
