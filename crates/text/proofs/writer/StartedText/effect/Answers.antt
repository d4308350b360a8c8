use Rattle.std.proofs.Common.{◌≡◌, ◌+◌, sym, ◌∙◌, inl, ap, refl, arith}
use Rattle.std.proofs.lemmas.Result.{err_from_is_err_and}
use Rattle.text.specs.Texts.{effect_is}
use Rattle.text.specs.Writings.{started_mark}
use Rattle.text.proofs.Drafts.{effect_after, acted_after}
use Rattle.text.proofs.Written.{writes, declined}
use Rattle.text.proofs.writer.StartedText.effect.Goals as goal
use Rattle.text.proofs.writer.StartedText.effect.Goals.{then-self-eq0, else-self-eq0}

pub returns-in_err-text-clause-answer : goal.returns-in_err-text-clause-answer
returns-in_err-text-clause-answer c =
    let p = err_from_is_err_and c.from_residual.result c.from_residual.ensures.1 in
    let a = c.in_err-text.ensures in
    rw (p.1, p.2) (
      a.0,
      elim c.if-self-eq0.branch [
        | then-self-eq0 w ↦ let f = sym w.fit-is ∙ a.1 in record { same = refl; why = inl (cc, λ h. let k = (rw w.if-self-eq0.true at h) in grind arith) }
        | else-self-eq0 w ↦ declined (started_mark c.args.self) (effect_is c.args.effect) c.args.out.now 25 refl (effect_after c.args.self.actions (omega (arith, w.if-self-eq0))) _ _ w.effect_fits-fits.ensures (rw (sym w.fit-is ∙ a.1) at w.admits-fit.ensures)
      ],
    )

pub returns : goal.returns
returns c =
    let a = c.in_ok-text.ensures in
    elim c.if-self-eq0.branch [
      | then-self-eq0 w ↦ let f = sym w.fit-is ∙ a.1 in absurd (cc)
      | else-self-eq0 w ↦
          let n = w.if-self-eq0 in
          let v = writes (started_mark c.args.self) (effect_is c.args.effect) c.args.out.now 25 refl (effect_after c.args.self.actions (omega arith)) _ _ _ (λ (e : 4 ≡ 5). omega arith) w.effect_fits-fits.ensures (rw (sym w.fit-is ∙ a.1) at w.admits-fit.ensures)
          (rw a.0 (ap (λ p. record { place = p; len = c.args.self.len + 25; atoms = c.args.self.atoms; actions = c.args.self.actions; latest = c.args.self.latest + 1 }) (acted_after c.args.self.actions (omega arith)))) (rw a.0 at c.put_effect.ensures) in
          record { answer = v.0; written = v.1 }
    ]
