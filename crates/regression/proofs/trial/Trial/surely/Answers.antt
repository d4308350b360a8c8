use Rattle.std.proofs.Common.{arith, rules}
use borrow.Author.Tests.{tests}
use Rattle.problem.specs.Problems.{task_of}
use Rattle.regression.specs.Spans.{Sure}
use Rattle.regression.specs.Matters.{Matters}
use Rattle.regression.specs.Verdicts.{Judged}
use Rattle.regression.proofs.Telling.{told}
use Rattle.regression.proofs.Reaching.{sure_decides, need_below}
use Rattle.regression.proofs.trial.Trial.surely.Goals as goal

pub returns : goal.returns
returns c =
    let q = c.args.self.aim in
    sure_decides (task_of c.args.self.problem.now).at c.args.self.region.need _ c.args.self.step q (need_below c.args.self.region (omega arith) (omega arith) c.args.self.apart)
    c.certain.result
    (told (λ at step lo hi. Judged lo hi (Sure at step q) (Matters at step q) c.certain.result) c.new.ensures c.certain.ensures)
    c.eq.result (λ e. search (rules, tests)) (λ e. search (rules, tests))
