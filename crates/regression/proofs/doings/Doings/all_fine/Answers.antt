use Rattle.std.proofs.Common.{rules}
use Rattle.regression.specs.Spans.{Fine}
use Rattle.regression.specs.Matters.{Concerns}
use Rattle.regression.specs.Told.{acts}
use Rattle.regression.proofs.Judging.{all_judged}
use Rattle.regression.proofs.doings.Doings.all_fine.Goals as goal

pub returns : goal.returns
returns c =
    let d = c.args.self.now in
    all_judged d.lo d.hi (Fine (acts d) d.step) (Concerns (acts d) d.step) c.all_of.ensures (λ i v m p. search rules)
