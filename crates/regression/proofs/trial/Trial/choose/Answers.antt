use Rattle.std.proofs.Common.{refl, arith}
use Rattle.sets.proofs.Members.{low_has}
use Rattle.problem.specs.Problems.{task_of}
use Rattle.regression.proofs.Splitting.{split_action, hopeless_none}
use Rattle.regression.proofs.trial.Trial.choose.Goals as goal

pub returns-then-hopeless : goal.returns-then-hopeless
returns-then-hopeless c = hopeless_none (task_of c.args.self.problem.now) c.args.self.aim _ (c.if-hopeless.ensures refl)

pub returns : goal.returns
returns c =
    split_action (task_of c.args.self.problem.now) c.args.self.problem.now.sized.2 c.args.self.aim _ _ _ _ c.requires.apart
    (low_has c.args.candidates (omega (arith, c.requires.some)) (omega arith)) c.with_action.ensures refl c.without_one.ensures refl
