use Rattle.std.proofs.Common.{◌≡◌, take}
use Rattle.text.specs.Appending.{effects_text, Appends}
use Rattle.text.proofs.whole.write_effects.Given as goal

abbrev pub invariant-loop-e : goal.invariant-loop-e
invariant-loop-e l = Appends l.initial.text l.text (effects_text (take l.e-index l.effects)) 0 l.initial.out l.out × (l.text.latest ≡ l.e-index)
