use Rattle.std.proofs.Common.{ℕ, ◌+◌, ◌≤◌, List, length, take, sym, subst, arith}
use Rattle.std.proofs.lemmas.List.{length-take}
use Rattle.sets.specs.Sets.{Within}
use Rattle.problem.specs.Rows.{effect_at, names_of}
use Rattle.text.specs.Texts.{effect_is, item_text}
use Rattle.text.specs.Writings.{started_mark}
use Rattle.text.specs.Appending.{effects_text, Appends}
use Rattle.text.proofs.Items.{body_long}
use Rattle.text.proofs.Lengths.{effects_long}
use Rattle.text.proofs.Drafts.{effect_after}
use Rattle.text.proofs.Written.{not_refused, goes_through}
use Rattle.text.proofs.Appended.{append_none, append_more, wrote_effect, effects_more}
use Rattle.text.proofs.whole.write_effects.Goals as goal

pub loop-e-init : goal.loop-e-init
loop-e-init c = (append_none c.args.started c.args.out.now, c.requires.fresh)

pub unwrap-text-requires : goal.unwrap-text-requires
unwrap-text-requires c =
    let x = c.loop-e.invariant in
    let es = c.args.effects.now in
    let i = c.loop-e.e-index in
    let e = effect_at es i in
    let l : length (effects_text (take i es)) + 25 ≤ length (effects_text es) = omega (arith, effects_long (take i es), effects_long es, length-take i es) in
    goes_through c.effect.result _ _ c.effect.ensures.answer (λ b r. not_refused (started_mark c.loop-e.text) (effect_is e) (length c.loop-e.out) _
    (effect_after c.loop-e.text.actions (omega (arith, x.0.actions, c.requires.acted)))
    (omega (arith, x.1, c.requires.few))
    (subst (λ (m : ℕ). Within m (names_of e)) (sym x.0.atoms) (c.requires.named i c.loop-e-test.true))
    (omega (arith, x.0.len, c.requires.room, body_long (effect_is e)))
    r.1.why)

pub loop-e-preserved : goal.loop-e-preserved
loop-e-preserved c =
    let x = c.loop-e.invariant in
    let es = c.args.effects.now in
    let i = c.loop-e.e-index in
    let w = rw c.unwrap-text.ensures at c.effect.ensures.answer in
    let s = wrote_effect c.loop-e.text c.unwrap-text.result (effect_at es i) c.loop-e.out c.effect.new.out w in
    let h : length (effects_text (take i es)) ≤ length (effects_text es) = omega (arith, effects_long (take i es), effects_long es, length-take i es) in (
      subst (λ (l : List ℕ). Appends c.args.started c.unwrap-text.result l 0 c.args.out.now c.effect.new.out) (sym (effects_more es i _ c.loop-e-test.true))
          (append_more c.args.started c.loop-e.text c.unwrap-text.result (effects_text (take i es)) (item_text (effect_is (effect_at es i))) 0 0 c.args.out.now c.loop-e.out c.effect.new.out
          (omega (arith, c.requires.room)) x.0 s.0),
      omega (arith, s.1, x.1),
    )
