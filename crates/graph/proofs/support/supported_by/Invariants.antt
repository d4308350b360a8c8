use lib.Bits.{bit_or}
use Rattle.graph.specs.Levels.{Together}
use Rattle.graph.specs.Tables.{level_of}
use Rattle.graph.proofs.Supporting.{Counted}
use Rattle.graph.proofs.support.supported_by.Given as goal

abbrev pub invariant-loop-e : goal.invariant-loop-e
invariant-loop-e l = Counted (λ e. Together (level_of l.layer) (bit_or l.precondition e.condition)) (λ e. e.add) l.e-items l.e-index l.all
