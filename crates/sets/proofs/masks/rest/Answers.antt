use Rattle.std.proofs.Common.{ap, arith}
use lib.Count.{ones, count_trailing_zeros}
use Rattle.sets.proofs.Members.{none_marks, rest_marks, not_in_none, low_rest, low_has, ones_minus}
use Rattle.sets.proofs.masks.rest.Goals as goal

pub returns-then-set-eq0 : goal.returns-then-set-eq0
returns-then-set-eq0 c = record {
  members = none_marks _ (λ k h. not_in_none c.args.set k c.if-set-eq0.true h.0);
  fewer = λ some. absurd (some c.if-set-eq0.true);
}

pub returns-else-set-eq0 : goal.returns-else-set-eq0
returns-else-set-eq0 c = record {
  members = rest_marks c.args.set (omega arith) (omega arith);
  fewer = λ _. omega (
    arith,
    ap ones (low_rest c.args.set (omega arith) (omega arith)),
    ones_minus c.args.set (count_trailing_zeros 64 c.args.set) (low_has c.args.set (omega arith) (omega arith)),
  );
}
