use Rattle.std.proofs.Common.{ℕ, arith}
use lib.Bits.{bit_and}
use Rattle.sets.specs.Sets.{Inside}
use Rattle.sets.proofs.Bits.{bit_of_and, le_inside}

-- what two sets share lies inside the second
pub shared_inside : (a b : ℕ) → Inside (bit_and a b) b
shared_inside a b = le_inside (bit_and a b) b (λ k. omega (arith, bit_of_and a b k))
