use Rattle.std.proofs.Common.{refl}
use Rattle.std.proofs.lemmas.Bool.{false≢true}
use Rattle.graph.proofs.Supporting.{counted_none, counted_more, counted_same}
use Rattle.graph.proofs.support.supported_by.Goals as goal
use Rattle.graph.proofs.support.supported_by.Goals.{then-together, else-together}

pub loop-e-init : goal.loop-e-init
loop-e-init c = counted_none _ _ _

pub loop-e-preserved : goal.loop-e-preserved
loop-e-preserved c = elim c.if-together.branch [
  | then-together w ↦ counted_more _ _ _ _ _ c.loop-e-test.true c.loop-e.invariant c.if-together.all w.all-is (w.if-together.ensures.0 refl)
  | else-together w ↦ counted_same _ _ _ _ _ c.loop-e-test.true c.loop-e.invariant c.if-together.all w.all-is (λ h. false≢true (w.if-together.ensures.1 h))
]
