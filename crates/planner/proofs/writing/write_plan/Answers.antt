use Rattle.std.proofs.Common.{◌+◌, drop, length, arith, length-set}
use Rattle.std.proofs.lemmas.List.{length_push}
use Rattle.std.proofs.lemmas.Iterator.Adapters.{YieldsList-from_rev_slice}
use Rattle.std.proofs.lemmas.Iterator.Consumers.{YieldsList-from_enumerate, YieldsList-turn, YieldsList-end}
use Rattle.planner.proofs.Written.{but_first, write_turn, write_all, walk_length}
use Rattle.planner.proofs.writing.write_plan.Goals as goal

pub loop-i-preserved : goal.loop-i-preserved
loop-i-preserved c =
    let rows = YieldsList-from_enumerate (YieldsList-from_rev_slice (drop 1 c.args.frames.now) (cc (but_first c.args.frames.now))) (cc) in
    let t = YieldsList-turn rows c.loop-i.yielded _ c.loop-i.yielded_by _ _ (c.in-Some.i, c.in-Some.frame) c.in-Some.is c.next.ensures.steps in
    write_turn c.args.frames.now c.args.step c.in-Some.i (length c.loop-i.yielded) _ c.in-Some.frame.now _ _
    c.requires.some (simp length-set (omega (arith, c.requires.room))) t.0 t.1 (length_push c.loop-i.yielded _) c.loop-i.invariant

pub returns : goal.returns
returns c =
    let rows = YieldsList-from_enumerate (YieldsList-from_rev_slice (drop 1 c.args.frames.now) (cc (but_first c.args.frames.now))) (cc) in
    let t = YieldsList-end rows c.loop-i.yielded _ c.loop-i.yielded_by _ _ c.in-None.is c.next.ensures.steps in
    write_all (length c.args.frames.now) c.args.frames.now c.args.step (length c.loop-i.yielded + 1) c.args.list.now _
    c.requires.some (omega (arith, t.1, walk_length c.args.frames.now, c.requires.some)) c.loop-i.invariant
