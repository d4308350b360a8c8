use Rattle.std.proofs.Common.{refl}
use Rattle.problem.proofs.Listed.{tries_by}
use Rattle.problem.proofs.problem.Problem.try_step.Goals as goal

pub returns : goal.returns
returns c =
    let step = c.if-not-is_step.ensures.0 refl in (
      c.if-not-within.ensures.0 refl,
      step,
      tries_by _ _ _ _ _ step c.every_order-firm.ensures c.lowest_first-end.ensures _ c.then_some.ensures,
    )
