-- The claim over every list of turns.
use Rattle.std.specs.Prelude.{◌≡◌, ℕ, ◌+◌, ◌*◌, ◌^◌, ◌<◌, ◌≤◌, ◌⊎◌, List, [], ◌∷◌, length, take, drop, Ok, Err}
use Rattle.problem.specs.Firm.{Task}
use Rattle.problem.specs.Runs.{Goal, Meets, Leads, Run, Unreached, NeverReached}
use Rattle.problem.specs.Problems.{Fits}
use Rattle.store.specs.Positions.{Target, at}
use Rattle.store.specs.Stores.{Meaning, Covered}
use Rattle.outlook.specs.Outlooks.{View, Barred}
use Rattle.sets.specs.Listed.{Among, Different}
use Rattle.claim.specs.Search.{Question, Due, Dropped, Open, opening, Event, opened, told, WasTold, opened_in, Exhausted, kept_in, passed_in, KeptCovers}
use Rattle.claim.specs.Turns.{AllNone, Call, plans, reviews, clears, Turn, Turns}
use Rattle.claim.specs.declared.outcome.Outcome.{Outcome}
use Rattle.claim.specs.declared.outcome.Outcome.TheVariants.{Plan, Never, NotWithin, Spent}
use Rattle.claim.specs.declared.report.Report.{Report}

-- the steps are a firm run that reaches the goal, and every firm run that does has as many at least
pub record Shortest (t : Task) (g : Goal) (steps : List ℕ) : Type 0 where
  pub reaches : (end : ℕ) × Leads t t.first steps end × Meets g end
  pub least : (n s : ℕ) → Run t n s → Meets g s → length steps ≤ n

-- a firm run of n steps that ends in s is a list of n steps that lead there
abbrev pub RunsAreLists : Type 0
RunsAreLists = (t : Task) (n s : ℕ)
    → (Run t n s → (steps : List ℕ) × (length steps ≡ n) × Leads t t.first steps s)
    × ((steps : List ℕ) → length steps ≡ n → Leads t t.first steps s → Run t n s)

-- what the outcome says of runs: the plan, which is the first entries of the list, is a shortest one; or no run reaches the goal
abbrev pub Right : Task → Question → Outcome → Report → List ℕ → Type 0
Right t a Plan r entries = (length (take r.steps entries) ≡ r.steps) × Shortest t a.goal (take r.steps entries)
Right t a Never r entries = NeverReached t a.goal
Right t a NotWithin r entries = Unreached t a.limit a.goal
Right t a Spent r entries = Unit {0}

-- no firm run of at most n steps ends in a state meeting a position of level n that the store covers
abbrev pub Sound : Task → Meaning → Type 0
Sound t m = (q : Target) → Covered m q → Unreached t q.level q.goal

-- the level n is ruled out, where the store meant m as the turn began
abbrev pub RuledOut : View → Goal → Meaning → ℕ → Type 0
RuledOut v g m n = Covered m (at n g) ⊎ Barred v n g.need

-- what the outcome says of the numbers
abbrev pub Counted : View → Question → Meaning → Outcome → Report → Type 0
Counted v a m Plan r = (r.left_open ≡ r.steps) × (r.steps ≤ a.limit)
Counted v a m Never r = AllNone r
Counted v a m NotWithin r =
    (r.steps ≡ 0) × (r.left_open ≡ 0)
    -- every list of different levels from 1 to the limit, none of them ruled out, has at most as many as were opened
    × ((levels : List ℕ) → Different levels → ((n : ℕ) → Among n levels → (1 ≤ n) × (n ≤ a.limit) × (RuledOut v a.goal m n → ⊥))
    → length levels ≤ r.opened)
Counted v a m Spent r = (r.steps ≡ 0) × (r.opened ≡ a.budget) × (r.left_open ≤ a.limit)

-- the list of what a call opened and told, the latest first: q was opened
abbrev pub WasOpened : Target → List Event → Type 0
WasOpened q [] = ⊥
WasOpened q (opened step r ∷ log) = (q ≡ r) ⊎ WasOpened q log
WasOpened q (told r b ∷ log) = WasOpened q log

-- what is open after it, the lowest first: opened and not told
abbrev pub open_after : List Event → List Open
open_after [] = []
open_after (opened step q ∷ log) = opening (open_after log) step q
open_after (told q b ∷ log) = drop 1 (open_after log)

-- the goal is due at the level of q, once: round 0 and each round below have failed, and nothing as high was opened
pub record InRound (t : Task) (v : View) (a : Question) (m : Meaning) (log : List Event) (q : Target) : Type 0 where
  pub goal : q ≡ at q.level a.goal
  pub range : (1 ≤ q.level) × (q.level ≤ a.limit)
  pub first : Meets a.goal t.first → ⊥
  pub below : (n : ℕ) → 1 ≤ n → n < q.level → RuledOut v a.goal m n ⊎ WasTold (at n a.goal) log
  pub once : (r : Target) → WasOpened r log → r.level < q.level

-- q is due after the list log, with these open: in its round; or one level below the lowest open position, once for each step
abbrev pub DueAfter : Task → View → Question → Meaning → List Open → List Event → ℕ → Target → Type 0
DueAfter t v a m [] log step q = InRound t v a m log q
DueAfter t v a m (f ∷ fs) log step q = Due t f.position step q × (Among (step, q) f.below → ⊥)

-- covered by then: covered as the turn began, or by a kept one
abbrev pub CoveredAfter : Meaning → List Event → Target → Type 0
CoveredAfter m log q = Covered m q ⊎ KeptCovers log q

-- q is the lowest open position
abbrev pub Lowest : Target → List Open → Type 0
Lowest q [] = ⊥
Lowest q (f ∷ fs) = q ≡ f.position

-- each opened position was due, and neither barred nor covered by then; each told one was the lowest open, and no step was left for it
abbrev pub InOrder : Task → View → Question → Meaning → List Event → Type 0
InOrder t v a m [] = Unit {0}
InOrder t v a m (opened step q ∷ log) =
    DueAfter t v a m (open_after log) log step q
    × (Barred v q.level q.goal.need → ⊥)
    × (CoveredAfter m log q → ⊥)
    × InOrder t v a m log
InOrder t v a m (told q answer ∷ log) =
    Lowest q (open_after log) × Exhausted t v (CoveredAfter m log) log q × InOrder t v a m log

-- one more position is due and not to be dropped, if the budget is spent
abbrev pub OneMore : Task → View → Question → Outcome → Meaning → Meaning → List Event → Type 0
OneMore t v a Plan m m' log = Unit {0}
OneMore t v a Never m m' log = Unit {0}
OneMore t v a NotWithin m m' log = Unit {0}
OneMore t v a Spent m m' log = (step : ℕ) × (q : Target) × DueAfter t v a m (open_after log) log step q × (Dropped v m' q → ⊥)

-- what the call opened and told can be listed in order, and its numbers are those of the list; after the call the store covers just
-- what it did before and what the kept ones listed cover
pub record Listed (t : Task) (v : View) (a : Question) (r : Report) (m m' : Meaning) : Type 0 where
  pub log : List Event
  pub in_order : InOrder t v a m log
  pub opened : r.opened ≡ opened_in log
  pub kept : r.kept ≡ kept_in log
  pub passed : r.passed_over ≡ passed_in log
  pub left : r.left_open ≡ length (open_after log)
  pub more : OneMore t v a r.outcome m m' log
  pub covers : (q : Target) → Covered m' q → CoveredAfter m log q
  pub covers_all : (q : Target) → CoveredAfter m log q → Covered m' q

-- all of one turn of plan
pub record Planned (t : Task) (v : View) (a : Question) (r : Report) (entries : List ℕ) (m m' : Meaning) : Type 0 where
  pub right : Right t a r.outcome r entries
  pub sum : r.opened ≡ r.kept + r.passed_over + r.left_open
  pub within : r.opened ≤ a.budget
  pub counted : Counted v a m r.outcome r
  pub listed : Listed t v a r m m'

abbrev pub OfCall : Task → Meaning → Call → Meaning → Type 0
OfCall t m (plans v a (Ok r) old new) m' = Planned t v a r new m m'
OfCall t m (plans v a (Err e) old new) m' = Unit {0}
OfCall t m (reviews q r) m' = Unit {0}
OfCall t m clears m' = Unit {0}

-- of each turn, and the store is sound after it
abbrev pub Each : Task → List Turn → Type 0
Each t [] = Unit {0}
Each t (turn ∷ turns) = OfCall t turn.before turn.call turn.after × Sound t turn.after × Each t turns

-- a number of each report, in all: a declined turn adds nothing
abbrev pub of_call : (Report → ℕ) → Call → ℕ
of_call number (plans v a (Ok r) old new) = number r
of_call number (plans v a (Err e) old new) = 0
of_call number (reviews q r) = 0
of_call number clears = 0

abbrev pub in_all : (Report → ℕ) → List Turn → ℕ
in_all number [] = 0
in_all number (turn ∷ turns) = in_all number turns + of_call number turn.call

-- how often the store was cleared
abbrev pub one_clear : Call → ℕ
one_clear (plans v a r old new) = 0
one_clear (reviews q r) = 0
one_clear clears = 1

abbrev pub clears_in : List Turn → ℕ
clears_in [] = 0
clears_in (turn ∷ turns) = clears_in turns + one_clear turn.call

-- the claim of a list of turns that ends in the meaning m
pub record Claim (t : Task) (turns : List Turn) (m : Meaning) : Type 0 where
  pub each : Each t turns
  pub sound : Sound t m
  pub sum : in_all (λ r. r.opened) turns ≡ in_all (λ r. r.kept) turns + in_all (λ r. r.passed_over) turns + in_all (λ r. r.left_open) turns
  pub kept : in_all (λ r. r.kept) turns ≤ 32 * 3 ^ t.atoms * (clears_in turns + 1)

-- over every list of turns on one store, from its first hour, for one task
abbrev pub EveryListOfTurns : Type 0
EveryListOfTurns = (t : Task) → Fits t → (turns : List Turn) (m : Meaning) → Turns t turns m → Claim t turns m

abbrev pub turn : Meaning → Call → Meaning → Turn
turn m call m' = record { before = m; call = call; after = m' }

-- every list of turns that ends in the meaning m goes on with this call, which leaves the meaning m', and then the claim holds of it
pub record GoesOn (t : Task) (m : Meaning) (call : Call) (m' : Meaning) : Type 0 where
  pub follows : (turns : List Turn) → Turns t turns m → Turns t (turn m call m' ∷ turns) m'
  pub claims : (turns : List Turn) → Turns t turns m → Claim t (turn m call m' ∷ turns) m'
