use Rattle.std.proofs.Common.{ℕ, ◌<◌, ◌≤◌}
use Rattle.sets.specs.Search.{Holds}
use Rattle.sets.proofs.entry.next_fit.Given as goal

abbrev pub invariant-loop-i : goal.invariant-loop-i
invariant-loop-i g l = (k : ℕ) → k < l.i → l.from ≤ k → Holds (λ e. g.E.Entry.fitting e l.against) l.rows k → ⊥
