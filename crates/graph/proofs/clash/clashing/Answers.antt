use Rattle.problem.specs.Problems.{task_of}
use Rattle.graph.specs.Tables.{level_of}
use Rattle.graph.proofs.Sure.{worked_out}
use Rattle.graph.proofs.Clashing.{action_clashes}
use Rattle.graph.proofs.clash.clashing.Goals as goal

pub returns : goal.returns
returns c lt =
    let links = c.args.links.now in
    action_clashes (task_of links.problem.now) (level_of c.args.layer.now) links.moves (worked_out links.problem.now links.moves links.moved) c.args.index lt _ _ _ _
    c.union_of-barred.ensures c.touching-touched.ensures c.single.ensures c.without.ensures.members
