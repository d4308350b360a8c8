use Rattle.std.proofs.Common.{◌≡◌, ℕ, drop}
use lib.Bits.{bit_or}
use Rattle.problem.specs.Actions.{gather}
use Rattle.problem.specs.declared.rows.EffectRow.{EffectRow}
use Rattle.regression.proofs.effects.union_in.Given as goal

abbrev pub invariant-loop-e : goal.invariant-loop-e
invariant-loop-e g l =
    goal.F-IsAlwaysCallable g l.part
    × (l.e-iterator.rows.now ≡ l.effects) × (l.e-iterator.against.now ≡ l.fn.state)
    × ((part : EffectRow → ℕ) → ((e : EffectRow) (x : ℕ) → goal.F-post g l.part e x → x ≡ part e)
    → bit_or l.union (gather part l.fn.state (drop l.e-iterator.from l.effects)) ≡ gather part l.fn.state l.effects)
