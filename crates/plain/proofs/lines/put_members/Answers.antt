use Rattle.sets.proofs.Walking.{left_is}
use Rattle.plain.proofs.Numbers.{written_none, written_more}
use Rattle.plain.proofs.lines.put_members.Goals as goal

pub loop-member-preserved : goal.loop-member-preserved
loop-member-preserved c after w =
    c.loop-member.invariant after (written_more _ _ after c.loop-member.member-iterator.left c.in-Some.member _ c.in-Some.ensures.steps.0
    (left_is _ _ _ c.in-Some.ensures.steps) c.in_ok-put_number.ensures w)

pub returns : goal.returns
returns c = c.loop-member.invariant _ (written_none _ _ c.in-None.ensures.steps.0)
