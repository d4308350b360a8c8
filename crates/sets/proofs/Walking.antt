-- One step of a walk through the members of a set, the lowest first.
use Rattle.std.proofs.Common.{◌≡◌, ℕ, ◌+◌, ◌^◌, Some, sym, subst, arith}
use native.Mathlib.Decide.{ℕ_discrete}
use lib.Count.{ones}
use Rattle.sets.specs.Sets.{Has, Inside, minus, Takes}
use Rattle.sets.proofs.Bits.{bit_minus, bit_digit, same_members}
use Rattle.sets.proofs.Members.{bit_one, bit_other, lowest_one, ones_minus}

-- k was taken from s, and t is left
module _ (s k t : ℕ) (h : Takes s (Some k) t) where
  pub took_in : Has s k
  took_in = h.0.member

  pub left_in : Inside t s
  left_in j g = (h.1.only j g).0

  pub took_out : Has t k → ⊥
  took_out g = (h.1.only k g).1 h.0

  pub others_left : (j : ℕ) → Has s j → (j ≡ k → ⊥) → Has t j
  others_left j g ne = h.1.all j (g, λ low. ne (lowest_one s j k low h.0))

  pub left_is : t ≡ minus s (2 ^ k)
  left_is = same_members t (minus s (2 ^ k))
      (λ j g. elim (ℕ_discrete j k) [
        | yes e ↦ absurd (took_out (subst (Has t) e g))
        | no ne ↦ omega (arith, left_in j g, bit_minus s (2 ^ k) j, bit_other k j ne)
      ])
      (λ j g. elim (ℕ_discrete j k) [
        | yes e ↦ absurd (omega (arith, g, bit_minus s (2 ^ k) j, bit_digit s j, subst (λ (x : ℕ). Has (2 ^ k) x) (sym e) (bit_one k)))
        | no ne ↦ others_left j (omega (arith, g, bit_minus s (2 ^ k) j, bit_digit s j)) ne
      ])

  pub left_fewer : ones (minus s (2 ^ k)) + 1 ≡ ones s
  left_fewer = omega (arith, ones_minus s k took_in)
