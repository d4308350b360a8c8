use Rattle.std.proofs.Common.{rules}
use Rattle.problem.proofs.Steps.{gather_fitting, gather_no_more}
use Rattle.regression.proofs.effects.union_in.Goals as goal

pub loop-e-preserved : goal.loop-e-preserved
loop-e-preserved g c =
    let i = c.loop-e.invariant in (
      i.0,
      search rules,
      search rules,
      λ part is. rw (is c.in-Some.e.now c.part-union.result c.part-union.ensures)
          (gather_fitting part _ _ _ _ _ _ _ i.1 i.2 (i.3 part is) c.in-Some.e c.in-Some.ensures.steps.0),
    )

pub returns : goal.returns
returns g c part is =
    let i = c.loop-e.invariant in
    gather_no_more part _ _ _ _ 0 _ _ i.1 i.2 (i.3 part is) c.in-None.ensures.steps.0
