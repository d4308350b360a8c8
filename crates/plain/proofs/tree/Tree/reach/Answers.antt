use Rattle.std.proofs.Common.{refl}
use Rattle.std.proofs.lemmas.Result.{err_from_is_err_and}
use Rattle.problem.specs.Problems.{task_of}
use Rattle.problem.proofs.Fitting.{problem_fits}
use Rattle.plain.proofs.Trees.{front_same}
use Rattle.plain.proofs.Growth.{not_firm, stops_out, taken_out}
use Rattle.plain.proofs.tree.Tree.reach.Goals as goal

pub returns-in_default : goal.returns-in_default
returns-in_default c = (
  c.requires,
  front_same _ _ refl,
  not_firm (task_of c.args.bounds.now.problem.now) c.args.bounds.now.limit c.args.bounds.now.most c.args.self.now c.args.from c.index-before.result.now c.requires c.index-before.ensures
      c.args.step (problem_fits c.args.bounds.now.problem.now) c.in_default.ensures,
)

pub returns-in_err-remember : goal.returns-in_err-remember
returns-in_err-remember c =
    let p = err_from_is_err_and c.from_residual.result c.from_residual.ensures.1 in
    rw (p.1, p.2) (stops_out (task_of c.args.bounds.now.problem.now) c.args.bounds.now.limit c.args.bounds.now.most c.args.self.now c.args.from c.index-before.result.now
    c.requires c.index-before.ensures c.args.step c.in-Some.state c.in-Some.ensures c.if-before-bounds.false _
    c.in_err-remember.ensures)

pub returns : goal.returns
returns c = taken_out (task_of c.args.bounds.now.problem.now) c.args.bounds.now.limit c.args.bounds.now.most c.args.self.now c.args.from c.index-before.result.now c.requires c.index-before.ensures
    c.args.step c.in-Some.state c.in-Some.ensures c.if-before-bounds.false c.remember.new.self c.in_ok-remember.ensures
