use Rattle.std.proofs.Common.{rules}
use Rattle.sets.specs.Sets.{Marks}
use Rattle.graph.specs.Levels.{Excludes}
use Rattle.graph.specs.Tables.{level_of}
use Rattle.graph.specs.Growths.{task_in, GrowthOf}
use Rattle.graph.proofs.RowSets.{made_at}
use Rattle.graph.proofs.growth.Growth.exclusions.Goals as goal

pub returns : goal.returns
returns c s f lt =
    let g = c.args.self.now in
    made_at _ _ 64 (λ i x. GrowthOf (task_in g) g → Marks x (Excludes (task_in g) (level_of g.layer) i)) (λ i y q below c. search rules)
    c.from_fn.result c.from_fn.ensures.items f 0 lt s
