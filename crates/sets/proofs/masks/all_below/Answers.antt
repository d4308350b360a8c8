use Rattle.std.proofs.Common.{arith}
use Rattle.sets.proofs.Members.{shift_one, all_marks}
use Rattle.sets.proofs.masks.all_below.Goals as goal

pub returns-then-m-ge64 : goal.returns-then-m-ge64
returns-then-m-ge64 c = record {
  only = λ k h. omega (arith, (all_marks 64).only k h);
  all = λ k h. (all_marks 64).all k (omega arith);
}

pub returns-else-m-ge64 : goal.returns-else-m-ge64
returns-else-m-ge64 c = rw (shift_one c.args.m c.if-m-ge64.false) (record {
  only = λ k h. omega (arith, (all_marks c.args.m).only k h);
  all = λ k h. (all_marks c.args.m).all k (omega arith);
})
