-- What the rows say in which a step's actions are summed up.
use Rattle.std.specs.Prelude.{◌≡◌, ℕ, ◌<◌, List, Option, Some, None, slice_index_or}
use Rattle.sets.specs.Sets.{Has}
use Rattle.problem.specs.Actions.{Action, cuts}
use Rattle.regression.specs.Spans.{reads, sure_gives, may_give, Union}
use Rattle.regression.specs.declared.doing.Doing.{Doing}
use Rattle.regression.specs.declared.doing.Totals.{Totals}

-- r bounds what the action i does in the states between lo and hi
pub record Does (at : ℕ → Action) (lo hi i : ℕ) (r : Doing) : Type 0 where
  pub action : r.action ≡ i
  pub give_sure : r.give.sure ≡ sure_gives at lo hi i
  pub give_may : r.give.may ≡ may_give at lo hi i
  pub cut_sure : r.cut.sure ≡ cuts at lo i
  pub cut_may : r.cut.may ≡ cuts at hi i
  pub read_sure : r.read.sure ≡ reads at lo i
  pub read_may : r.read.may ≡ reads at hi i

-- the row r, or none
abbrev pub row_in : List (Option Doing) → ℕ → Option Doing
row_in rows r = slice_index_or rows r None

-- each action of the step has its row, and a row bounds what its action does between lo and hi
pub record Tells (at : ℕ → Action) (step lo hi : ℕ) (rows : List (Option Doing)) : Type 0 where
  pub row : (i : ℕ) → Has step i → (r : ℕ) × (r < 4) × ((d : Doing) × (row_in rows r ≡ Some d) × (d.action ≡ i))
  pub does : (r : ℕ) (d : Doing) → r < 4 → row_in rows r ≡ Some d → Does at lo hi d.action d

-- r bounds what the actions of the step do together
pub record Totalled (at : ℕ → Action) (lo hi step : ℕ) (r : Totals) : Type 0 where
  pub give_sure : Union (sure_gives at lo hi) step r.give.sure
  pub give_may : Union (may_give at lo hi) step r.give.may
  pub cut_sure : Union (cuts at lo) step r.cut.sure
  pub cut_may : Union (cuts at hi) step r.cut.may
