use Rattle.std.proofs.Common.{◌≡◌, ℕ, ◌+◌, ap, add-one, refl, arith}
use Rattle.std.proofs.lemmas.Result.{err_from_is_err_and}
use Rattle.text.specs.Texts.{action_is}
use Rattle.text.specs.Writings.{started_mark}
use Rattle.text.specs.Readings.{place_after}
use Rattle.text.proofs.Drafts.{action_after}
use Rattle.text.proofs.Written.{writes, declined}
use Rattle.text.proofs.writer.StartedText.action.Goals as goal

pub returns-in_err-text-clause-answer : goal.returns-in_err-text-clause-answer
returns-in_err-text-clause-answer c =
    let a = c.in_err-text.ensures in
    let p = err_from_is_err_and c.from_residual.result c.from_residual.ensures.1 in
    rw (p.1, p.2) (a.0, declined (started_mark c.args.self) (action_is c.args.precondition) c.args.out.now 9 refl (action_after c.args.self.actions) _ _ c.action_fits-fits.ensures (rw a.1 at c.admits-fit.ensures))

pub returns : goal.returns
returns c =
    let a = c.in_ok-text.ensures in
    let w = writes (started_mark c.args.self) (action_is c.args.precondition) c.args.out.now 9 refl (action_after c.args.self.actions) _ _ _ (λ (e : 3 ≡ 5). omega arith) c.action_fits-fits.ensures (rw a.1 at c.admits-fit.ensures)
    (rw a.0 (ap (λ (x : ℕ). record { place = place_after x; len = c.args.self.len + 9; atoms = c.args.self.atoms; actions = c.args.self.actions + 1; latest = 0 }) (add-one c.args.self.actions))) (rw a.0 at c.put_set_record.ensures) in
    record { answer = w.0; written = w.1 }
