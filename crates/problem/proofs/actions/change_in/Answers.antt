use Rattle.std.proofs.Common.{rules}
use Rattle.problem.proofs.Steps.{gather_fitting, gather_no_more}
use Rattle.problem.proofs.actions.change_in.Goals as goal

pub loop-e-preserved : goal.loop-e-preserved
loop-e-preserved c =
    let i = c.loop-e.invariant in (
      search rules,
      search rules,
      gather_fitting (λ e. e.add) _ _ _ _ _ _ _ i.0 i.1 i.2 c.in-Some.e c.in-Some.ensures.steps.0,
      gather_fitting (λ e. e.delete) _ _ _ _ _ _ _ i.0 i.1 i.3 c.in-Some.e c.in-Some.ensures.steps.0,
    )

pub returns-clause-adds : goal.returns-clause-adds
returns-clause-adds c = gather_no_more (λ e. e.add) _ _ _ _ 0 _ _ c.loop-e.invariant.0 c.loop-e.invariant.1 c.loop-e.invariant.2 c.in-None.ensures.steps.0

pub returns-clause-deletes : goal.returns-clause-deletes
returns-clause-deletes c = gather_no_more (λ e. e.delete) _ _ _ _ 0 _ _ c.loop-e.invariant.0 c.loop-e.invariant.1 c.loop-e.invariant.3 c.in-None.ensures.steps.0
