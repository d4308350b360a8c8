use Rattle.std.proofs.Common.{arith}
use Rattle.sets.proofs.Members.{minus_past}
use Rattle.sets.proofs.masks.without_one.Goals as goal

pub returns-else-member-lt64 : goal.returns-else-member-lt64
returns-else-member-lt64 c = minus_past c.args.set c.args.member (omega arith) (omega arith)
