-- Unions, parts and differences by their members.
use Rattle.std.proofs.Common.{◌≡◌, ℕ, zero, suc, ◌%◌, ◌^◌, ◌<◌, ◌≤◌, ◌⊎◌, refl, ap, ◌∙◌, subst, inl, inr, arith}
use native.Mathlib.Decide.{ℕ_discrete}
use lib.Bits.{bit_or}
use lib.Arith.{bin_ind}
use lib.Count.{ones}
use Rattle.sets.specs.Sets.{bit, Has, Inside, minus}
use Rattle.sets.proofs.Bits.{bit_digit, bit_zero, bit_suc, bit_of_or, bit_none, bit_minus, same_bits, same_members, has?}
use Rattle.sets.proofs.Members.{bit_other, not_in_none, has_lt, ones_minus, ones_mono}
use Rattle.problem.proofs.Listed.{left_has}

pub nothing : (k : ℕ) → Has 0 k → ⊥
nothing k h = not_in_none 0 k refl h

pub minus_has : (a b k : ℕ) → Has a k → (Has b k → ⊥) → Has (minus a b) k
minus_has a b k h n = omega (arith, bit_minus a b k, h, bit_digit b k)

pub minus_from : (a b k : ℕ) → Has (minus a b) k → Has a k
minus_from a b k h = omega (arith, bit_minus a b k, h, bit_digit a k)

pub minus_not : (a b k : ℕ) → Has (minus a b) k → Has b k → ⊥
minus_not a b k h i = omega (arith, bit_minus a b k, h, i, bit_digit a k)

pub or_none : (a b : ℕ) → bit_or a b ≡ 0 → (a ≡ 0) × (b ≡ 0)
or_none a b e = (
  same_bits a 0 (λ k. omega (arith, bit_of_or a b k, ap (λ (x : ℕ). bit x k) e, bit_none k)),
  same_bits b 0 (λ k. omega (arith, bit_of_or a b k, ap (λ (x : ℕ). bit x k) e, bit_none k)),
)

pub one_only : (j k : ℕ) → Has (2 ^ k) j → j ≡ k
one_only j k h = elim (ℕ_discrete j k) [ yes e ↦ e | no ne ↦ absurd (let z : ⊥ = omega (arith, h, bit_other k j ne) in z) ]

-- a set that is not empty has a member, and one without members is empty
pub some_in : (s : ℕ) → (s ≡ 0 → ⊥) → (k : ℕ) × Has s k
some_in =
    bin_ind (λ s. (s ≡ 0 → ⊥) → (k : ℕ) × Has s k) (λ n. absurd (n refl))
    (λ s ih n. elim (ℕ_discrete (s % 2) 1) [
      | yes e ↦ (0, bit_zero s ∙ e)
      | no e ↦ (let r = ih (λ z. n (omega arith)) in (suc r.0, bit_suc s r.0 ∙ r.1))
    ])

pub none_in : (s : ℕ) → ((k : ℕ) → Has s k → ⊥) → s ≡ 0
none_in s f = same_members s 0 (λ k h. absurd (f k h)) (λ k h. absurd (nothing k h))

-- a set that equals another has its members
pub so : (a b k : ℕ) → a ≡ b → Has a k → Has b k
so a b k e h = subst (λ (x : ℕ). Has x k) e h

-- a member of a set with a property, or none
some_below : (set : ℕ) (P : ℕ → Type 0) → ((j : ℕ) → Dec (P j)) → (n : ℕ) → ((j : ℕ) × Has set j × P j) ⊎ ((j : ℕ) → j < n → Has set j → P j → ⊥)
some_below set P d zero = inr (λ j h. absurd (let z : ⊥ = omega arith in z))
some_below set P d (suc n) = elim (some_below set P d n) [
  | inl x ↦ inl x
  | inr f ↦ elim (has? set n) [
    | no a ↦ inr (λ j l h p. elim (ℕ_discrete j n) [ yes e ↦ a (subst (λ (y : ℕ). Has set y) e h) | no ne ↦ f j (omega arith) h p ])
    | yes a ↦ elim (d n) [
      | yes p ↦ inl (n, a, p)
      | no q ↦ inr (λ j l h p. elim (ℕ_discrete j n) [ yes e ↦ q (subst P e p) | no ne ↦ f j (omega arith) h p ])
    ]
  ]
]

pub some_member : (set : ℕ) (P : ℕ → Type 0) → ((j : ℕ) → Dec (P j)) → set < 2 ^ 64 → ((j : ℕ) × Has set j × P j) ⊎ ((j : ℕ) → Has set j → P j → ⊥)
some_member set P d lt = elim (some_below set P d 64) [ inl x ↦ inl x | inr f ↦ inr (λ j h. f j (has_lt set j lt h) h) ]

pub not? : (A : Type 0) → Dec A → Dec (A → ⊥)
not? A (yes a) = no (λ n. n a)
not? A (no n) = yes n

-- a part of as many members is the whole
pub same_size : (a b : ℕ) → Inside a b → b < 2 ^ 64 → ones b ≤ ones a → b ≡ a
same_size a b sub lt h = elim (some_member b (λ k. Has a k → ⊥) (λ k. not? _ (has? a k)) lt) [
  | inr all ↦ same_members b a (λ k x. elim (has? a k) [ yes y ↦ y | no n ↦ absurd (all k x n) ]) sub
  | inl x ↦ absurd (let z : ⊥ = omega (
    arith,
    ones_minus b x.0 x.1,
    ones_mono a (minus b (2 ^ x.0)) (λ k hk. left_has b x.0 k (sub k hk) (λ e. x.2 (subst (λ (y : ℕ). Has a y) e hk))),
  ) in z)
]
