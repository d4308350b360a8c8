use Rattle.std.proofs.Common.{◌^◌, rules}
use Rattle.sets.specs.Sets.{minus}
use Rattle.regression.specs.Spans.{UnhurtBy}
use Rattle.regression.specs.Matters.{Concerns}
use Rattle.regression.specs.Told.{acts}
use Rattle.regression.proofs.Judging.{all_judged}
use Rattle.regression.proofs.doings.Doings.friendly.Goals as goal

pub returns : goal.returns
returns c =
    let d = c.args.self.now in
    all_judged d.lo d.hi (λ i. UnhurtBy (acts d) i (minus d.step (2 ^ i))) (Concerns (acts d) d.step) c.all_of.ensures (λ i v m p. search rules)
