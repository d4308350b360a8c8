use Rattle.std.proofs.Common.{ℕ, eqb, Decides, ◌∙◌, subst}
use lib.Bits.{bit_or}
use Rattle.problem.proofs.Listed.{left_in}
use Rattle.regression.specs.Spans.{Idle}
use Rattle.regression.specs.Told.{acts}
use Rattle.regression.proofs.Masks.{so}
use Rattle.regression.proofs.Idling.{idle_decides}
use Rattle.regression.proofs.doings.Doings.idle.Goals as goal

pub totals-theirs-requires : goal.totals-theirs-requires
totals-theirs-requires c k h = left_in _ c.args.i k (so _ _ k c.without_one.ensures h)

pub returns : goal.returns
returns c =
    let d = c.args.self.now in
    subst (λ (y : ℕ). Decides (eqb (bit_or c.without-given.result c.without-deleted.result) 0) (Idle (acts d) c.args.i y c.args.aim d.lo d.hi))
    c.without_one.ensures
    (idle_decides (acts d) d.lo d.hi c.args.i c.without_one.result c.args.aim
    _ _ c.without-given.result c.without-deleted.result c.totals-theirs.ensures.give_sure c.totals-theirs.ensures.cut_sure
    (c.without-given.ensures.is ∙ simp (c.without.ensures.is, c.of-mine.ensures.give_may))
    (c.without-deleted.ensures.is ∙ simp c.of-mine.ensures.cut_may))
