use Rattle.plain.proofs.tree.Tree.+steps_to.Given as goal

abbrev pub decreases-steps_to : goal.decreases-steps_to
decreases-steps_to l = l.i
