use Rattle.std.proofs.Common.{sym, ◌∙◌, inl, inr, arith}
use Rattle.sets.specs.Laws.{Members, InclusionTests}
use Rattle.sets.proofs.Bits.{bit_digit, bit_of_or, bit_of_and, has?, same_members, minus_marks, inside_and, and_inside, apart_and, and_apart, and_not}
use Rattle.sets.proofs.Members.{none_minus, minus_none, ones_minus, below_within, within_below}
use Rattle.sets.proofs.laws.sets_stand.Goals as goal

members : Members
members a b = (
  record {
    only = λ k h. elim (has? a k) [
      | yes y ↦ inl y
      | no n ↦ inr (omega (arith, h, bit_of_or a b k, bit_digit a k, bit_digit b k))
    ];
    all = λ k h. elim h [
      | inl x ↦ omega (arith, x, bit_of_or a b k, bit_digit b k)
      | inr x ↦ omega (arith, x, bit_of_or a b k, bit_digit a k)
    ];
  },
  record {
    only = λ k h. (omega (arith, h, bit_of_and a b k, bit_digit a k, bit_digit b k), omega (arith, h, bit_of_and a b k, bit_digit a k, bit_digit b k));
    all = λ k h. omega (arith, h.0, h.1, bit_of_and a b k);
  },
  minus_marks a b,
)

tests : InclusionTests
tests a b = (
  (inside_and a b, and_inside a b),
  (λ la lb. (
    λ f. and_not a b la lb ∙ minus_none a b f,
    λ e. none_minus a b (sym (and_not a b la lb) ∙ e),
  )),
  (apart_and a b, and_apart a b),
)

pub returns : goal.returns
returns c = record {
  same = same_members;
  members = members;
  tests = tests;
  less = λ s k h. omega (arith, ones_minus s k h);
  bounds = λ m s. (within_below m s, below_within m s);
}
