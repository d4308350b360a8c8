use Rattle.sets.proofs.Members.{not_in_none}
use Rattle.planner.proofs.path.Path.new.Goals as goal

pub invariant_of-frame-clause-apart : goal.invariant_of-frame-clause-apart
invariant_of-frame-clause-apart c = λ k h _. not_in_none c.default-goal.result.need k c.default-goal.ensures.0 h
