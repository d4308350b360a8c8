-- Members of a union and of an intersection.
use Rattle.std.proofs.Common.{ℕ, ◌⊎◌, inl, inr, arith}
use lib.Bits.{bit_and, bit_or}
use Rattle.sets.specs.Sets.{Has}
use Rattle.sets.proofs.Bits.{bit_digit, bit_of_or, bit_of_and, has?}

pub or_left : (a b k : ℕ) → Has a k → Has (bit_or a b) k
or_left a b k h = omega (arith, bit_of_or a b k, h, bit_digit b k)

pub or_right : (a b k : ℕ) → Has b k → Has (bit_or a b) k
or_right a b k h = omega (arith, bit_of_or a b k, h, bit_digit a k)

pub or_either : (a b k : ℕ) → Has (bit_or a b) k → Has a k ⊎ Has b k
or_either a b k h = elim (has? a k) [ yes x ↦ inl x | no x ↦ inr (omega (arith, bit_of_or a b k, h, bit_digit a k, bit_digit b k)) ]

pub and_both : (a b k : ℕ) → Has a k → Has b k → Has (bit_and a b) k
and_both a b k h i = omega (arith, bit_of_and a b k, h, i)

pub and_left : (a b k : ℕ) → Has (bit_and a b) k → Has a k
and_left a b k h = omega (arith, bit_of_and a b k, h, bit_digit a k, bit_digit b k)

pub and_right : (a b k : ℕ) → Has (bit_and a b) k → Has b k
and_right a b k h = omega (arith, bit_of_and a b k, h, bit_digit a k, bit_digit b k)
