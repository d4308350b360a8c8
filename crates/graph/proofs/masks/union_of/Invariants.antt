use Rattle.graph.specs.Turning.{row}
use Rattle.graph.proofs.RowSets.{United}
use Rattle.graph.proofs.masks.union_of.Given as goal

abbrev pub invariant-loop-k : goal.invariant-loop-k
invariant-loop-k l = United (row l.rows) l.of l.k-iterator.left l.all
