use Rattle.std.proofs.Common.{refl, arith}
use Rattle.std.proofs.lemmas.Bool.{false≢true}
use Rattle.graph.proofs.RowSets.{column_none, column_more, column_same, column_all}
use Rattle.graph.proofs.masks.column.Goals as goal
use Rattle.graph.proofs.masks.column.Goals.{then-has, else-has}

pub loop-k-init : goal.loop-k-init
loop-k-init c = column_none _ _

pub loop-k-preserved : goal.loop-k-preserved
loop-k-preserved c = elim c.if-has.branch [
  | then-has w ↦ column_more _ _ _ _ _ c.loop-k.invariant _ w.single-all.ensures (omega arith) w.all-is (w.if-has.ensures.0 refl)
  | else-has w ↦ column_same _ _ _ _ _ c.loop-k.invariant w.all-is (λ h. false≢true (w.if-has.ensures.1 h))
]

pub returns : goal.returns
returns c = column_all _ _ _ _ (omega (arith, c.loop-k-test.false)) c.loop-k.invariant
