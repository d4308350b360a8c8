use Rattle.std.proofs.Common.{◌∙◌}
use lib.Bits.{bit_and, bit_or}
use Rattle.regression.specs.Told.{acts}
use Rattle.regression.proofs.Hurting.{unhurt_yes, unhurt_no, unhurt_asked}
use Rattle.regression.proofs.doings.Doings.unhurt.Goals as goal

pub returns-then-may-eq0 : goal.returns-then-may-eq0
returns-then-may-eq0 c =
    let d = c.args.self.now in
    unhurt_yes (acts d) d.lo d.hi c.args.i c.args.j _ (simp (c.of-a.ensures.give_may, c.of-a.ensures.read_may, c.of-b.ensures.cut_may)) c.if-may-eq0.true

pub returns-then-a-b-ne0 : goal.returns-then-a-b-ne0
returns-then-a-b-ne0 c =
    let d = c.args.self.now in
    unhurt_no (acts d) d.lo d.hi c.args.i c.args.j
    (bit_and (bit_or c.of-a.result.give.sure c.of-a.result.read.sure) c.of-b.result.cut.sure)
    (simp (c.of-a.ensures.give_sure, c.of-a.ensures.read_sure, c.of-b.ensures.cut_sure)) c.if-a-b-ne0.true

pub returns : goal.returns
returns c =
    let d = c.args.self.now in
    unhurt_asked (acts d) d.lo d.hi c.args.i c.args.j _
    (simp (c.of-a.ensures.give_may, c.of-a.ensures.read_may, c.of-b.ensures.cut_may)) c.without-own.result _
    (c.without-own.ensures.is ∙ simp c.of-a.ensures.read_sure)
    (simp (c.open_in.ensures, c.open_in-2.ensures))
    c.if-may-eq0.false c.ask_for.result c.ask_for.ensures
