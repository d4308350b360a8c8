use Rattle.std.proofs.lemmas.Result.{err_from_is_err_and}
use Rattle.problem.specs.Problems.{task_of}
use Rattle.plain.proofs.Growth.{stops_root}
use Rattle.plain.proofs.tree.Tree.planted.Goals as goal

pub returns-in_err-remember : goal.returns-in_err-remember
returns-in_err-remember c =
    let p = err_from_is_err_and c.from_residual.result c.from_residual.ensures.1 in
    rw (p.1, p.2) (stops_root (task_of c.args.bounds.now.problem.now) c.args.bounds.now.limit c.args.bounds.now.most
    (record { reached = c.new.result })
    (record { state = c.args.bounds.now.problem.now.first; from = 0; step = 0; depth = 0 })
    c.new.ensures.items _ c.in_err-remember.ensures)
