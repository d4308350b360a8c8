use Rattle.std.proofs.Common.{refl, arith}
use Rattle.problem.specs.Problems.{task_of}
use Rattle.graph.specs.Turning.{row}
use Rattle.graph.specs.Tables.{level_of}
use Rattle.graph.proofs.RowSets.{row_lt}
use Rattle.graph.proofs.Sure.{worked_out}
use Rattle.graph.proofs.Excluding.{facts_marks, self_marks}
use Rattle.graph.proofs.growth.Growth.new.Goals as goal

pub returns : goal.returns
returns c = record {
  layer = refl;
  problem = refl;
  growth = record {
    moves = worked_out c.args.links.now.problem.now c.args.links.now.moves c.args.links.now.moved;
    supports = c.supports_of-supports.ensures;
    clashes = c.clashes_of-clashes.ensures;
    facts = facts_marks (task_of c.args.links.now.problem.now) (level_of c.args.layer) c.args.layer.facts c.union_of.result (row c.supports_of-supports.result) (self_marks _)
        c.supports_of-supports.ensures (λ k g h. row_lt c.supports_of-supports.result 64 k g (omega arith) h) c.union_of.ensures;
  };
}
