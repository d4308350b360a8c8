use Rattle.std.proofs.Common.{◌≡◌, ℕ, ◌^◌, arith, rules}
use borrow.Author.Tests.{tests}
use Rattle.sets.specs.Sets.{Has, minus}
use Rattle.regression.specs.Spans.{UnhurtBy}
use Rattle.regression.specs.Matters.{Concerns}
use Rattle.regression.specs.Verdicts.{Judged}
use Rattle.regression.specs.declared.verdict.Verdict.TheVariants.{No}
use Rattle.regression.proofs.Telling.{told}
use Rattle.regression.proofs.Splitting.{hurt_hopeless}
use Rattle.regression.proofs.trial.Trial.hopeless.Goals as goal

pub returns : goal.returns
returns c e =
    let is : c.friendly.result ≡ No = search (rules, tests) in
    hurt_hopeless c.args.self.problem.now c.args.self.step c.args.self.region (omega arith) (omega arith)
    (told (λ at step lo hi. Judged lo hi (λ l h. (i : ℕ) → Has step i → UnhurtBy at i (minus step (2 ^ i)) l h) (Concerns at step) No)
    c.new.ensures (rw is at c.friendly.ensures))
