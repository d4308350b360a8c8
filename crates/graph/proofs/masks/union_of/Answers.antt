use Rattle.std.proofs.Common.{arith}
use Rattle.sets.proofs.Members.{has_lt}
use Rattle.graph.proofs.RowSets.{united_none, united_more, united_all}
use Rattle.graph.proofs.masks.union_of.Goals as goal

pub loop-k-init : goal.loop-k-init
loop-k-init c = united_none _ _ _ cc

pub bounds-rows-k : goal.bounds-rows-k
bounds-rows-k c = has_lt c.args.of c.in-Some.k (omega arith) (c.loop-k.invariant.inside c.in-Some.k c.in-Some.ensures.steps.0.member)

pub loop-k-preserved : goal.loop-k-preserved
loop-k-preserved c = united_more _ _ _ _ _ _ c.in-Some.ensures.steps.0 c.in-Some.ensures.steps.1 c.loop-k.invariant

pub returns : goal.returns
returns c = united_all _ _ _ _ c.in-None.ensures.steps.0 c.loop-k.invariant
