-- What the keeper and the bare store mean, and what a keeper does with the rows lent to it.
use Rattle.std.specs.Prelude.{◌≡◌, ℕ, ◌<◌, Bool, false, ◌&&◌, ◌||◌, List, [], ◌∷◌, ◌++◌, length, Ok, Err, Result, ◌==◌, bit_and, nat_le, slice_set}
use Rattle.problem.specs.declared.refusal.Refusal.{Refusal}
use Rattle.sets.specs.Lists.{rows_of, room_of, taken}
use Rattle.store.specs.Positions.{Target, Covers, row_target}
use Rattle.store.specs.Stores.{Meaning}
use Rattle.store.specs.declared.answer.Answer.{Answer}
use Rattle.store.specs.declared.answer.Answer.TheVariants.{Known, Kept, PassedOver}
use Rattle.store.specs.declared.row.KeptRow.{KeptRow}
use Rattle.store.specs.declared.bare.Bare.{Bare}
use Rattle.store.specs.declared.keeper.Keeper.{Keeper}

-- the test whether q covers r
abbrev pub covers_test : Target → Target → Bool
covers_test q r =
    nat_le r.level q.level
    && (bit_and q.goal.need r.goal.need == q.goal.need && bit_and q.goal.avoid r.goal.avoid == q.goal.avoid)

-- a row covers q
abbrev pub RowCovers : Target → KeptRow → Type 0
RowCovers q row = Covers (row_target row) q

-- the test whether one of the rows covers r
abbrev pub any_covers : List KeptRow → Target → Bool
any_covers [] r = false
any_covers (row ∷ rows) r = covers_test (row_target row) r || any_covers rows r

module _ {X : Type 0} where
  -- the bare store covers and keeps nothing, and counts what it passed over
  abbrev pub bare_meaning : Bare X → Meaning
  bare_meaning s = record { covers = λ q. false; kept = 0; passed = s.passed }

  -- all the rows lent to a keeper; those that it holds, in the order in which they came; and how many it may hold
  abbrev pub rows_lent : Keeper X → List KeptRow
  rows_lent s = rows_of s.list

  abbrev pub held_rows : Keeper X → List KeptRow
  held_rows s = taken s.list

  abbrev pub room : Keeper X → ℕ
  room s = room_of s.list

  -- a keeper covers what its rows cover
  abbrev pub keeper_meaning : Keeper X → Meaning
  keeper_meaning s = record { covers = any_covers (held_rows s); kept = length (held_rows s); passed = s.passed }

  -- the rows of s' are those of s, held and not held
  pub record SameRows (s s' : Keeper X) : Type 0 where
    pub rows : rows_lent s' ≡ rows_lent s
    pub held : held_rows s' ≡ held_rows s
    pub room : room s' ≡ room s

  -- the row was put behind those held, into the next of the rows lent, and no other row was written
  pub record RowAdded (s : Keeper X) (row : KeptRow) (s' : Keeper X) : Type 0 where
    pub rows : rows_lent s' ≡ slice_set (rows_lent s) (length (held_rows s)) row
    pub held : held_rows s' ≡ held_rows s ++ row ∷ []
    pub room : room s' ≡ room s

  -- no row is held any more, and none was written
  pub record LetsGo (s s' : Keeper X) : Type 0 where
    pub rows : rows_lent s' ≡ rows_lent s
    pub held : held_rows s' ≡ []
    pub room : room s' ≡ room s

  -- what a keeper does with a row, by its answer: it keeps one while there is room, and passes it over only when it is full
  abbrev pub Files : Keeper X → KeptRow → Result Answer Refusal → Keeper X → Type 0
  Files s row (Ok Known) s' = SameRows s s'
  Files s row (Ok Kept) s' = (length (held_rows s) < room s) × RowAdded s row s'
  Files s row (Ok PassedOver) s' = (length (held_rows s) ≡ room s) × SameRows s s'
  Files s row (Err e) s' = SameRows s s'
