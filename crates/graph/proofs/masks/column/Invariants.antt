use Rattle.graph.proofs.RowSets.{Column}
use Rattle.graph.proofs.masks.column.Given as goal

abbrev pub invariant-loop-k : goal.invariant-loop-k
invariant-loop-k l = Column l.rows l.member l.k l.all
