use Rattle.problem.specs.Problems.{task_of}
use Rattle.text.specs.Texts.{actions_text}
use Rattle.text.specs.Appending.{Appends}
use Rattle.text.proofs.whole.write_actions.Given as goal

abbrev pub invariant-loop-k : goal.invariant-loop-k
invariant-loop-k l = Appends l.initial.text l.text (actions_text (task_of l.problem).at l.k) l.k l.initial.out l.out
