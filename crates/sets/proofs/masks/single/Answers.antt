use Rattle.std.proofs.Common.{arith}
use Rattle.sets.proofs.Members.{shift_one, single_marks, none_marks}
use Rattle.sets.proofs.masks.single.Goals as goal

pub returns-then-member-lt64 : goal.returns-then-member-lt64
returns-then-member-lt64 c = rw (shift_one c.args.member c.if-member-lt64.true) (single_marks c.args.member c.if-member-lt64.true)

pub returns-else-member-lt64 : goal.returns-else-member-lt64
returns-else-member-lt64 c = none_marks _ (λ k h. omega (arith, h.0, h.1))
