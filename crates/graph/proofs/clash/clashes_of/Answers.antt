use Rattle.std.proofs.Common.{◌<◌, length, arith, rules}
use Rattle.problem.specs.Firm.{Task}
use Rattle.problem.specs.Problems.{task_of}
use Rattle.graph.specs.Levels.{action, Clash}
use Rattle.graph.specs.Tables.{NodesOf, level_of}
use Rattle.graph.proofs.RowSets.{made_at}
use Rattle.graph.proofs.clash.clashes_of.Goals as goal

pub returns : goal.returns
returns c k lt =
    let t : Task = task_of c.args.links.now.problem.now in
    made_at _ _ 64 (λ i x. i < length c.args.links.now.problem.now.actions.now → NodesOf t (Clash t (level_of c.args.layer.now) (action i)) x)
    (λ i y q below c. search rules) c.from_fn.result c.from_fn.ensures.items k _ (omega (arith, lt, c.args.links.now.problem.now.sized.2)) lt
