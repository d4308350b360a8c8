-- Lists that are filled anew from a text.
use Rattle.std.specs.Prelude.{◌≡◌, ℕ, List, [], ◌++◌, length, drop}
use Rattle.sets.specs.Lists.{rows_of, count_of, room_of, taken}
use Rattle.sets.specs.declared.filled.Filled.{Filled}
use Rattle.text.specs.Texts.{contents}
use Rattle.text.specs.Readings.{Draft, draft}
use Rattle.text.specs.declared.place.Place.TheVariants.{Started}

-- it holds these entries now; past them the rows that it was lent keep their contents
pub record Refilled {X : Type 0} (before after : Filled X) (entries : List X) : Type 0 where
  pub holds : taken after ≡ entries
  pub count : count_of after ≡ length entries
  pub rows : rows_of after ≡ entries ++ drop (length entries) (rows_of before)
  pub room : room_of after ≡ room_of before
  pub lent : after.rows.ghost_name ≡ before.rows.ghost_name

-- a draft with its first state, and no action yet
abbrev pub opening : ℕ → ℕ → ℕ → Draft
opening m h s = draft Started (contents m h s [] [])
