-- What plan, review and clear promise, and lists of such turns from a store's first hour.
use Rattle.std.specs.Prelude.{◌≡◌, ℕ, ◌+◌, ◌<◌, ◌≤◌, Bool, ◌⊎◌, List, [], ◌∷◌, ◌++◌, length, drop, Ok, Err, Result}
use Rattle.sets.specs.Sets.{Apart, Within}
use Rattle.problem.specs.Firm.{Task, FirmStep}
use Rattle.problem.specs.Runs.{Goal, Meets}
use Rattle.problem.specs.declared.refusal.Refusal.{Refusal}
use Rattle.problem.specs.declared.refusal.Refusal.TheVariants.{UnknownAtom, SharedAtom, BadLevel, TooShort, StoreCounts, BadBudget}
use Rattle.store.specs.Positions.{Target}
use Rattle.store.specs.Stores.{Meaning, Blank}
use Rattle.outlook.specs.Outlooks.{View, Lawful, Shut}
use Rattle.claim.specs.Search.{Question, Open, Next, Event, Search, opened_in}
use Rattle.claim.specs.declared.outcome.Outcome.{Outcome}
use Rattle.claim.specs.declared.outcome.Outcome.TheVariants.{Plan, Never, NotWithin, Spent}
use Rattle.claim.specs.declared.report.Report.{Report}

-- a check of a call: the refusal that it gives, and when it fails
pub record Check : Type 1 where
  pub refusal : Refusal
  pub fails : Type 0

-- e is the refusal of the first check that fails
abbrev pub Declines : List Check → Refusal → Type 0
Declines [] e = ⊥
Declines (c ∷ cs) e = (c.fails × (e ≡ c.refusal)) ⊎ ((c.fails → ⊥) × Declines cs e)

-- no check fails
abbrev pub Passes : List Check → Type 0
Passes [] = Unit {0}
Passes (c ∷ cs) = (c.fails → ⊥) × Passes cs

-- both sets of the goal name only atoms below m
abbrev pub NamedBelow : ℕ → Goal → Type 0
NamedBelow m g = Within m g.need × Within m g.avoid

-- the checks of plan in their order, where its list has so much room
abbrev pub plan_checks : Task → Meaning → Question → ℕ → List Check
plan_checks t m a room =
    record { refusal = UnknownAtom; fails = NamedBelow t.atoms a.goal → ⊥ }
    ∷ (record { refusal = SharedAtom; fails = Apart a.goal.need a.goal.avoid → ⊥ }
    ∷ (record { refusal = BadLevel; fails = 32 < a.limit }
    ∷ (record { refusal = BadBudget; fails = 1000000 < a.budget }
    ∷ (record { refusal = TooShort; fails = room < a.limit }
    ∷ (record { refusal = StoreCounts; fails = 16000000 < m.kept + m.passed + a.budget }
    ∷ [])))))

-- the checks of a position in their order
abbrev pub position_checks : Target → List Check
position_checks q =
    record { refusal = BadLevel; fails = (1 ≤ q.level) × (q.level ≤ 32) → ⊥ }
    ∷ (record { refusal = SharedAtom; fails = Apart q.goal.need q.goal.avoid → ⊥ } ∷ [])

-- the steps that made the open positions due, from the lowest up to the goal
abbrev pub path : List Open → List ℕ
path [] = []
path (f ∷ []) = []
path (f ∷ (h ∷ fs)) = f.step ∷ path (h ∷ fs)

-- a plan is found: the first state meets the goal; or a firm step takes it to the lowest open position, of level 1, and the plan is that
-- step and then the steps that made the open positions due
abbrev pub Found : Task → Question → List Open → List ℕ → Type 0
Found t a [] steps = Meets a.goal t.first × (steps ≡ [])
Found t a (f ∷ fs) steps =
    (f.position.level ≡ 1)
    × ((step end : ℕ) × FirmStep t t.first step end × Meets f.position.goal end × (steps ≡ step ∷ path (f ∷ fs)))

-- how a search ends, in the round n, with st open, where the store means m: with steps as the plan (none but with a plan)
abbrev pub Ends : Task → View → Question → Outcome → ℕ → List Open → List Event → Meaning → List ℕ → Type 0
Ends t v a Plan n st log m steps = Found t a st steps
Ends t v a Never n st log m steps = ⊥
Ends t v a NotWithin n st log m steps = (steps ≡ []) × (st ≡ []) × (n ≡ a.limit) × (Meets a.goal t.first → ⊥)
Ends t v a Spent n st log m steps =
    (steps ≡ []) × (opened_in log ≡ a.budget)
    × ((step : ℕ) × (q : Target) × Next t v a m n st step q)

-- a search that answers r, and takes the list from old to new and the store from m to m'
pub record Searched (t : Task) (v : View) (a : Question) (r : Report) (old new : List ℕ) (m m' : Meaning) : Type 0 where
  pub not_shut : Shut v a.goal → ⊥
  pub round : ℕ
  pub st : List Open
  pub log : List Event
  pub plan : List ℕ
  pub search : Search t v a m round st log m'
  pub ends : Ends t v a r.outcome round st log m' plan
  pub steps : r.steps ≡ length plan
  -- the plan stands at the start of the list, and later entries keep their contents
  pub written : new ≡ plan ++ drop (length plan) old
  pub opened : r.opened ≡ opened_in log
  pub left : r.left_open ≡ length st
  -- kept and passed over are the growth of the store's counts
  pub kept : m'.kept ≡ m.kept + r.kept
  pub passed : m'.passed ≡ m.passed + r.passed_over

-- a report by its parts
abbrev pub report : Outcome → ℕ → ℕ → ℕ → ℕ → ℕ → Report
report outcome steps opened kept passed left =
    record { outcome = outcome; steps = steps; opened = opened; kept = kept; passed_over = passed; left_open = left }

-- all numbers are 0
pub record AllNone (r : Report) : Type 0 where
  pub steps : r.steps ≡ 0
  pub opened : r.opened ≡ 0
  pub kept : r.kept ≡ 0
  pub passed : r.passed_over ≡ 0
  pub left : r.left_open ≡ 0

-- the answer "never": nothing is counted, and nothing changes
pub record Closed (v : View) (a : Question) (r : Report) (old new : List ℕ) (m m' : Meaning) : Type 0 where
  pub shut : Shut v a.goal
  pub none : AllNone r
  pub written : new ≡ old
  pub alike : m' ≡ m

-- what an answer of each outcome says
abbrev pub Answers : Task → View → Question → Outcome → Report → List ℕ → List ℕ → Meaning → Meaning → Type 0
Answers t v a Plan r old new m m' = Searched t v a r old new m m'
Answers t v a Never r old new m m' = Closed v a r old new m m'
Answers t v a NotWithin r old new m m' = Searched t v a r old new m m'
Answers t v a Spent r old new m m' = Searched t v a r old new m m'

-- the promise of plan, whose list goes from old to new and whose store goes from m to m': if no check fails it answers by its search, else
-- it declines and changes nothing
abbrev pub Plans : Task → View → Question → Result Report Refusal → List ℕ → List ℕ → Meaning → Meaning → Type 0
Plans t v a (Ok r) old new m m' = Passes (plan_checks t m a (length old)) × Answers t v a r.outcome r old new m m'
Plans t v a (Err e) old new m m' = Declines (plan_checks t m a (length old)) e × (new ≡ old) × (m' ≡ m)

-- the promise of review: it says whether the position is covered, or declines, and changes nothing
abbrev pub Reviews : Target → Result Bool Refusal → Meaning → Meaning → Type 0
Reviews q (Ok b) m m' = Passes (position_checks q) × (b ≡ m.covers q) × (m' ≡ m)
Reviews q (Err e) m m' = Declines (position_checks q) e × (m' ≡ m)

-- a call, with what it answers and, of plan, what its list holds before and after
pub data Call : Type 0 where
  plans : View → Question → Result Report Refusal → List ℕ → List ℕ → Call
  reviews : Target → Result Bool Refusal → Call
  clears : Call

-- what each call promises of the store's meaning before and after
abbrev pub Promise : Task → Meaning → Call → Meaning → Type 0
Promise t m (plans v a r old new) m' = Plans t v a r old new m m'
Promise t m (reviews q r) m' = Reviews q r m m'
Promise t m clears m' = Blank m'

-- a turn: a call, and the store's meaning before and after
pub record Turn : Type 0 where
  pub before : Meaning
  pub call : Call
  pub after : Meaning

-- the outlook that the call brings, if any, is a lawful one of the task
abbrev pub Brings : Task → Call → Type 0
Brings t (plans v a r old new) = Lawful t v
Brings t (reviews q r) = Unit {0}
Brings t clears = Unit {0}

-- a list of turns, the latest first, from a store's first hour to its meaning m
abbrev pub Turns : Task → List Turn → Meaning → Type 0
Turns t [] m = Blank m
Turns t (turn ∷ turns) m =
    Turns t turns turn.before × Brings t turn.call × Promise t turn.before turn.call turn.after × (m ≡ turn.after)
