use Rattle.std.proofs.Common.{set, replicate, refl}
use Rattle.problem.specs.Problems.{task_of}
use Rattle.graph.proofs.RowSets.{no_rows}
use Rattle.graph.proofs.Growing.{first_level}
use Rattle.graph.proofs.graph.Graph.begin.Goals as goal

pub returns : goal.returns
returns c = record {
  atoms = refl;
  first = first_level (task_of c.args.problem.now)
      (record { atoms = c.args.problem.now.atoms; facts = set (replicate 33 0) 0 c.args.problem.now.first; exclusive = replicate 2112 0; few = c.args.problem.now.sized.0.1 }) refl (no_rows 2112);
}
