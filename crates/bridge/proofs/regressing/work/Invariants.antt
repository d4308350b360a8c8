use mathlib.Core.Path.{◌≡◌}
use lib.ListN.{length}
use Rattle.bridge.proofs.regressing.work.Given as goal

abbrev pub invariant-loop-due : goal.invariant-loop-due
invariant-loop-due l = length l.nodes ≡ 129
