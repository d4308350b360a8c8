use Rattle.std.proofs.Common.{refl, arith}
use Rattle.regression.specs.Spans.{Sure, SomeIdle}
use Rattle.regression.specs.Matters.{Matters}
use Rattle.regression.specs.Verdicts.{Judged}
use Rattle.regression.proofs.Telling.{told}
use Rattle.regression.proofs.Reaching.{judges, idle_judges}
use Rattle.regression.proofs.trial.Trial.judge.Goals as goal

pub returns-then-some_idle : goal.returns-then-some_idle
returns-then-some_idle c =
    let q = c.args.self.aim in
    idle_judges c.args.self.problem.now q (omega arith) (omega arith) c.args.self.step c.args.self.allowed c.args.self.region (omega arith) (omega arith)
    (told (λ at step lo hi. SomeIdle at step q lo hi) c.new-doings.ensures (c.if-some_idle.ensures.0 refl))

pub returns : goal.returns
returns c =
    let q = c.args.self.aim in
    judges c.args.self.problem.now q (omega arith) (omega arith) c.args.self.step c.args.self.allowed c.args.self.region (omega arith) (omega arith) c.certain.result
    (told (λ at step lo hi. Judged lo hi (Sure at step q) (Matters at step q) c.certain.result) c.new-doings.ensures c.certain.ensures)
