use Rattle.std.proofs.Common.{◌≡◌, drop}
use lib.Bits.{bit_or}
use Rattle.problem.specs.Actions.{adds, deletes}
use Rattle.problem.proofs.actions.change_in.Given as goal

abbrev pub invariant-loop-e : goal.invariant-loop-e
invariant-loop-e l =
    (l.e-iterator.rows.now ≡ l.effects) × (l.e-iterator.against.now ≡ l.fn.state)
    × (bit_or l.add (adds l.fn.state (drop l.e-iterator.from l.effects)) ≡ adds l.fn.state l.effects)
    × (bit_or l.delete (deletes l.fn.state (drop l.e-iterator.from l.effects)) ≡ deletes l.fn.state l.effects)
