use Rattle.std.proofs.Common.{◌≡◌, refl, arith}
use Rattle.std.proofs.lemmas.Result.{err_from_is_err_and}
use Rattle.text.specs.Texts.{first_is}
use Rattle.text.specs.Writings.{sized_mark}
use Rattle.text.proofs.Written.{writes, declined}
use Rattle.text.proofs.writer.SizedText.first.Goals as goal

pub returns-in_err-text-clause-answer : goal.returns-in_err-text-clause-answer
returns-in_err-text-clause-answer c =
    let a = c.in_err-text.ensures in
    let p = err_from_is_err_and c.from_residual.result c.from_residual.ensures.1 in
    rw (p.1, p.2) (a.0, declined (sized_mark c.args.self) (first_is c.args.first) c.args.out.now 9 refl refl _ _ c.first_fits.ensures (rw a.1 at c.admits-fit.ensures))

pub returns : goal.returns
returns c =
    let a = c.in_ok-text.ensures in
    let w = writes (sized_mark c.args.self) (first_is c.args.first) c.args.out.now 9 refl refl _ _ _ (λ (e : 2 ≡ 5). omega arith) c.first_fits.ensures (rw a.1 at c.admits-fit.ensures)
    (rw a.0 refl) (rw a.0 at c.put_set_record.ensures) in
    record { answer = w.0; written = w.1 }
