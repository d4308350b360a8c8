use Rattle.std.proofs.Common.{sym, refl, subst, arith}
use Rattle.std.proofs.lemmas.Result.{err_from_is_err_and}
use Rattle.std.proofs.lemmas.Bool.{false≢true}
use Rattle.text.specs.Records.{Known}
use Rattle.text.specs.Readings.{InPlace, draft, missing, misplaced}
use Rattle.text.proofs.Codes.{code_known, kind_fault, body_fault}
use Rattle.text.proofs.checker.record_in.Goals as goal

pub returns-then-at-text : goal.returns-then-at-text
returns-then-at-text c = λ x. missing c.if-at-text.true

pub returns-in_err-kind : goal.returns-in_err-kind
returns-in_err-kind c =
    let p = err_from_is_err_and c.from_residual.result c.from_residual.ensures.1 in
    rw (p.1, p.2) (λ x. kind_fault c.args.text.now c.args.at (draft c.args.place x) _ (omega arith) c.in_err-kind.ensures)

pub returns-then-not-takes : goal.returns-then-not-takes
returns-then-not-takes c =
    let k = c.in_ok-kind.ensures in
    λ x. misplaced k.0 (subst Known k.1 (code_known c.in_ok-kind.kind))
    (λ p. false≢true (c.if-not-takes.ensures.1 (subst (InPlace c.args.place) (sym k.1) p)))

pub returns-in_err-record_at : goal.returns-in_err-record_at
returns-in_err-record_at c =
    let k = c.in_ok-kind.ensures in
    let p = err_from_is_err_and c.from_residual-in_err-record_at.result c.from_residual-in_err-record_at.ensures.1 in
    rw (p.1, p.2) (λ x. body_fault c.args.text.now c.args.at (draft c.args.place x) _ k.0
    (subst Known k.1 (code_known c.in_ok-kind.kind))
    (subst (InPlace c.args.place) k.1 (c.if-not-takes.ensures.0 refl)) c.in_err-record_at.ensures)
