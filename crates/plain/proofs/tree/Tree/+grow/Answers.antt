use Rattle.std.proofs.Common.{refl}
use Rattle.std.proofs.lemmas.Result.{MatchResult-weaker}
use Rattle.problem.specs.Problems.{task_of}
use Rattle.problem.proofs.Fitting.{problem_fits}
use Rattle.plain.proofs.Widening.{grows_none, grows_with, grows_without}
use Rattle.plain.proofs.tree.Tree.+grow.Goals.{then-branch+in_ok-grow, else-branch}
use Rattle.plain.proofs.tree.Tree.+grow.Goals as goal

pub returns-then-action-bounds : goal.returns-then-action-bounds
returns-then-action-bounds t c =
    grows_none (task_of c.args.bounds.now.problem.now) c.args.bounds.now.limit c.args.bounds.now.most (problem_fits c.args.bounds.now.problem.now).few_actions c.args.self.now c.args.from c.args.step
    c.args.action c.requires c.if-action-bounds.true

pub returns : goal.returns
returns t c = MatchResult-weaker c.grow-2.result c.grow-2.ensures (λ _ grown. elim c.if-branch.branch [
  | then-branch+in_ok-grow w ↦ grows_with (task_of c.args.bounds.now.problem.now) c.args.bounds.now.limit c.args.bounds.now.most (problem_fits c.args.bounds.now.problem.now).few_actions
      c.args.self.now c.args.from c.args.step c.args.action c.single.result _ c.requires refl c.single.ensures c.if-action-bounds.false
      c.reach.new.self w.grow.new.self c.if-branch.self c.grow-2.new.self c.in_ok-reach.field-0
      w.if-branch.true w.self-is c.in_ok-reach.ensures w.in_ok-grow.ensures grown
  | else-branch w ↦ grows_without (task_of c.args.bounds.now.problem.now) c.args.bounds.now.limit c.args.bounds.now.most (problem_fits c.args.bounds.now.problem.now).few_actions
      c.args.self.now c.args.from c.args.step c.args.action c.single.result _ c.requires refl c.single.ensures c.if-action-bounds.false
      c.reach.new.self c.if-branch.self c.grow-2.new.self c.in_ok-reach.field-0
      w.if-branch.false w.self-is c.in_ok-reach.ensures grown
])
    (λ _ stops. stops)
