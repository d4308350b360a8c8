use Rattle.std.proofs.Common.{ℕ, ◌-◌, ◌≤◌, List, [], length}
use Rattle.problem.specs.declared.rows.ActionRow.{ActionRow}
use Rattle.problem.specs.declared.rows.EffectRow.{EffectRow}
use Rattle.sets.specs.Lists.{room_of, taken}
use Rattle.text.specs.Texts.{contents, Valid}
use Rattle.text.specs.Readings.{Reads, whole}
use Rattle.text.specs.Filling.{opening}
use Rattle.text.proofs.Pushing.{Kept}
use Rattle.text.proofs.Ahead.{Along}
use Rattle.text.proofs.reader.fill.Given as goal

abbrev pub invariant-loop-found : goal.invariant-loop-found
invariant-loop-found l =
    Kept l.initial.actions l.actions × Kept l.initial.effects l.effects
    × ((m h s n : ℕ) (rows : List ActionRow) (changes : List EffectRow) → 64 ≤ room_of l.initial.actions → 512 ≤ room_of l.initial.effects → Valid (contents m h s [] [])
    → Reads l.text l.initial.at (opening m h s) (whole (contents m h s rows changes) n)
    → Along l.text m h s (contents m h s rows changes) n l.at (taken l.actions) (taken l.effects))

abbrev pub decreases-loop-found : goal.decreases-loop-found
decreases-loop-found l = length l.text - l.at
