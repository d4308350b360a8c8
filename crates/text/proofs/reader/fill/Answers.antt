use Rattle.std.proofs.Common.{arith}
use Rattle.text.specs.Texts.{contents}
use Rattle.text.proofs.Decoding.{action_found, effect_found, halted_fault, halted_record}
use Rattle.text.proofs.Pushing.{kept_push, kept_from}
use Rattle.text.proofs.Ahead.{push_action, push_effect, all_taken}
use Rattle.text.proofs.reader.fill.Goals as goal

pub returns-in_default : goal.returns-in_default
returns-in_default c = λ m h s n rows changes ra re v r.
    let x = c.loop-found.invariant in
    let a = c.clear.ensures in
    let b = c.clear-2.ensures in
    all_taken c.args.text.now m h s n c.loop-found.at rows changes _ _ _ _
    (x.2 m h s n rows changes (omega (arith, a.room)) (omega (arith, b.room)) v r)
    (kept_from _ _ _ a.same a.room a.lent x.0) (kept_from _ _ _ b.same b.room b.lent x.1)
    (λ i q l u. halted_fault c.args.text.now c.loop-found.at _ c.record_at.ensures c.in_default.not-Ok i q)

pub returns-in_default-record : goal.returns-in_default-record
returns-in_default-record c = λ m h s n rows changes ra re v r.
    let x = c.loop-found.invariant in
    let a = c.clear.ensures in
    let b = c.clear-2.ensures in
    let f = c.in-Ok.ensures in
    all_taken c.args.text.now m h s n c.loop-found.at rows changes _ _ _ _
    (x.2 m h s n rows changes (omega (arith, a.room)) (omega (arith, b.room)) v r)
    (kept_from _ _ _ a.same a.room a.lent x.0) (kept_from _ _ _ b.same b.room b.lent x.1)
    (halted_record c.args.text.now c.loop-found.at c.in-Ok.found f.0 f.1 c.in_default-record.not-Action c.in_default-record.not-Effect)

pub loop-found-preserved-in-Action : goal.loop-found-preserved-in-Action
loop-found-preserved-in-Action c =
    let x = c.loop-found.invariant in
    let p = c.push.ensures in
    let f = c.in-Ok.ensures in
    let a = action_found c.args.text.now c.loop-found.at c.in-Ok.found _ c.type_inv.text f.0 f.1 c.set_at.result c.in-Action.is c.set_at.ensures in (
      kept_push _ _ _ _ c.push.result x.0 p.took p.count p.rows p.room p.lent,
      x.1,
      λ m h s n rows changes ra re v r.
          push_action c.args.text.now m h s (contents m h s rows changes) n c.loop-found.at _ c.set_at.result c.len.result
          c.clear.new.self c.loop-found.actions c.push.new.self c.clear-2.new.self c.loop-found.effects c.push.result
          (x.2 m h s n rows changes ra re v r) x.0 x.1 ra a
          c.len.ensures p.took p.taken,
    )

pub loop-found-preserved : goal.loop-found-preserved
loop-found-preserved c =
    let x = c.loop-found.invariant in
    let p = c.push-in-Effect.ensures in
    let f = c.in-Ok.ensures in
    let a = effect_found c.args.text.now c.loop-found.at c.in-Ok.found _ c.type_inv.text f.0 f.1 c.effect_in.result c.in-Effect.is c.effect_in.ensures in (
      x.0,
      kept_push _ _ _ _ c.push-in-Effect.result x.1 p.took p.count p.rows p.room p.lent,
      λ m h s n rows changes ra re v r.
          push_effect c.args.text.now m h s (contents m h s rows changes) n c.loop-found.at _ c.effect_in.result
          c.loop-found.actions c.clear-2.new.self c.loop-found.effects c.push-in-Effect.new.self c.push-in-Effect.result
          (x.2 m h s n rows changes ra re v r) x.1 re a p.took p.taken,
    )
