use Rattle.std.proofs.Common.{ℕ, ◌+◌, ◌<◌, List, length, sym, subst, arith}
use Rattle.problem.specs.Problems.{task_of}
use Rattle.problem.specs.declared.rows.EffectRow.{EffectRow}
use Rattle.text.specs.Texts.{action_text, actions_text}
use Rattle.text.specs.Appending.{Appends}
use Rattle.text.proofs.Lengths.{actions_step, actions_room}
use Rattle.text.proofs.Appended.{append_none, append_more}
use Rattle.text.proofs.whole.write_actions.Goals as goal

pub loop-k-init : goal.loop-k-init
unfolding actions_text
loop-k-init c = append_none c.args.started c.args.out.now

pub write_action-text-requires-clause-room : goal.write_action-text-requires-clause-room
write_action-text-requires-clause-room c =
    let p = c.args.problem.now in
    rw c.effects_of.ensures (omega (arith, c.loop-k.invariant.len, c.requires.room, actions_room (task_of p).at c.loop-k.k (length p.actions.now) c.loop-k-test.true))

pub loop-k-preserved : goal.loop-k-preserved
loop-k-preserved c =
    let p = c.args.problem.now in
    let k = c.loop-k.k in
    let h : k < length p.actions.now = c.loop-k-test.true in
    let g : Appends c.loop-k.text c.write_action-text.result (action_text ((task_of p).at k)) 1 c.loop-k.out c.write_action-text.new.out =
    subst (λ (es : List EffectRow). Appends c.loop-k.text c.write_action-text.result (action_text (record { precondition = ((task_of p).at k).precondition; effects = es })) 1 c.loop-k.out c.write_action-text.new.out)
    c.effects_of.ensures c.write_action-text.ensures in
    subst (λ (l : List ℕ). Appends c.args.started c.write_action-text.result l (k + 1) c.args.out.now c.write_action-text.new.out) (sym (actions_step (task_of p).at k))
    (append_more c.args.started c.loop-k.text c.write_action-text.result (actions_text (task_of p).at k) (action_text ((task_of p).at k)) k 1 c.args.out.now c.loop-k.out c.write_action-text.new.out
    (omega (arith, c.requires.room, actions_room (task_of p).at k (length p.actions.now) h)) c.loop-k.invariant g)
