use Rattle.std.proofs.Common.{◌-◌, length}
use Rattle.plain.proofs.tree.Tree.+grow.Given as goal

abbrev pub decreases-grow : goal.decreases-grow
decreases-grow l = length l.bounds.now.problem.now.actions.now - l.action
