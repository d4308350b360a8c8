use Rattle.std.proofs.Common.{arith}
use Rattle.sets.proofs.Members.{has_lt}
use Rattle.graph.proofs.RowSets.{shared_more, shared_all}
use Rattle.graph.proofs.growth.common_of.Goals as goal

pub bounds-rows-k : goal.bounds-rows-k
bounds-rows-k c = has_lt c.args.of c.in-Some.k (omega arith) (c.loop-k.invariant.actions.inside c.in-Some.k c.in-Some.ensures.steps.0.member)

pub loop-k-preserved : goal.loop-k-preserved
loop-k-preserved c =
    let steps = c.in-Some.ensures.steps in
    record {
      actions = shared_more _ _ _ _ _ _ steps.0 steps.1 _ c.loop-k.invariant.actions;
      noops = shared_more _ _ _ _ _ _ steps.0 steps.1 _ c.loop-k.invariant.noops;
    }

pub returns : goal.returns
returns c = record {
  actions = shared_all _ _ _ _ _ c.in-None.ensures.steps.0 c.loop-k.invariant.actions;
  noops = shared_all _ _ _ _ _ c.in-None.ensures.steps.0 c.loop-k.invariant.noops;
}
