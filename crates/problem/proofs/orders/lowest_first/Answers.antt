use Rattle.problem.specs.Problems.{task_of}
use Rattle.problem.proofs.Every.{lowest_next, none_complete}
use Rattle.problem.proofs.orders.lowest_first.Goals as goal

pub loop-action-preserved : goal.loop-action-preserved
loop-action-preserved c end f =
    lowest_next (task_of c.args.problem.now).at c.args.start c.loop-action.state c.loop-action.action-iterator.left end
    c.in-Some.action _ c.state_after-state.result c.in-Some.ensures.steps
    (rw c.effects_of.ensures at c.state_after-state.ensures)
    (c.loop-action.invariant end f)

pub returns : goal.returns
returns c end f =
    none_complete (task_of c.args.problem.now).at c.args.start c.loop-action.state c.loop-action.action-iterator.left end c.in-None.ensures.steps.0
    (c.loop-action.invariant end f)
