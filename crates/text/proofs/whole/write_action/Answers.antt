use Rattle.std.proofs.Common.{length, arith}
use Rattle.text.specs.Texts.{action_is, item_text}
use Rattle.text.specs.Writings.{started_mark}
use Rattle.text.specs.Appending.{effects_text}
use Rattle.text.proofs.Numbers.{length_bytes_of}
use Rattle.text.proofs.Lengths.{action_long, effects_long}
use Rattle.text.proofs.Drafts.{action_after}
use Rattle.text.proofs.Written.{not_refused, goes_through}
use Rattle.text.proofs.Appended.{append_more, wrote_action}
use Rattle.text.proofs.whole.write_action.Goals as goal

pub unwrap-acted-requires : goal.unwrap-acted-requires
unwrap-acted-requires c =
    let a = action_long (record { precondition = c.args.precondition; effects = c.args.effects.now }) in
    goes_through c.action.result _ _ c.action.ensures.answer (λ b r. not_refused (started_mark c.args.started) (action_is c.args.precondition) (length c.args.out.now) _
    (action_after c.args.started.actions) c.requires.few_actions c.requires.within
    (omega (arith, c.requires.room, length_bytes_of 8 c.args.precondition))
    r.1.why)

pub write_effects-requires-clause-room : goal.write_effects-requires-clause-room
write_effects-requires-clause-room c =
    let w = rw c.unwrap-acted.ensures at c.action.ensures.answer in
    let s = wrote_action c.args.started c.unwrap-acted.result c.args.precondition c.args.out.now c.action.new.out w in
    let a = action_long (record { precondition = c.args.precondition; effects = c.args.effects.now }) in
    omega (arith, s.0.len, c.requires.room, effects_long c.args.effects.now, length_bytes_of 8 c.args.precondition)

pub returns : goal.returns
returns c =
    let w = rw c.unwrap-acted.ensures at c.action.ensures.answer in
    let s = wrote_action c.args.started c.unwrap-acted.result c.args.precondition c.args.out.now c.action.new.out w in
    append_more c.args.started c.unwrap-acted.result c.write_effects.result (item_text (action_is c.args.precondition)) (effects_text c.args.effects.now) 1 0
    c.args.out.now c.action.new.out c.write_effects.new.out w.room s.0 c.write_effects.ensures
