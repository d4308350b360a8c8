-- What a clause reads of the list that takes entries until it is full.
use Rattle.std.specs.Prelude.{ℕ, min, List, length, take}
use Rattle.sets.specs.declared.filled.Filled.{Filled}

module _ {X : Type 0} where
  -- all the rows that it was lent, taken or not
  abbrev pub rows_of : Filled X → List X
  rows_of f = f.rows.now

  -- how many entries it holds
  abbrev pub count_of : Filled X → ℕ
  count_of f = f.count

  -- how many it may use, by its cap and by the length of what it was lent
  abbrev pub room_of : Filled X → ℕ
  room_of f = min f.most (length f.rows.now)

  -- the entries that it holds, in the order in which they came
  abbrev pub taken : Filled X → List X
  taken f = take f.count f.rows.now
