-- What falls by the promise of plan alone, whatever the store and the outlook are: tests of the definitions.
use Rattle.std.specs.Prelude.{◌≡◌, ℕ, ◌+◌, ◌≤◌, ◌⊎◌, List, take, Ok}
use Rattle.problem.specs.Firm.{Task}
use Rattle.problem.specs.Runs.{Meets, Leads}
use Rattle.store.specs.Stores.{Meaning}
use Rattle.outlook.specs.Outlooks.{View, Shut}
use Rattle.claim.specs.Search.{Question}
use Rattle.claim.specs.Turns.{Plans}
use Rattle.claim.specs.Claim.{RuledOut}
use Rattle.claim.specs.declared.outcome.Outcome.TheVariants.{Plan, Never, NotWithin, Spent}
use Rattle.claim.specs.declared.report.Report.{Report}

-- of every call of plan that keeps its promise, its list new and its store going from m to m'
abbrev pub OfPlan : (Task → View → Question → Report → List ℕ → Meaning → Meaning → Type 0) → Type 0
OfPlan says =
    (t : Task) (v : View) (a : Question) (r : Report) (old new : List ℕ) (m m' : Meaning)
    → Plans t v a (Ok r) old new m m' → says t v a r new m m'

-- each level from 1 to the limit was ruled out as the turn began
abbrev pub AllRuledOut : View → Question → Meaning → Type 0
AllRuledOut v a m = (n : ℕ) → 1 ≤ n → n ≤ a.limit → RuledOut v a.goal m n

-- who opens nothing has a reason: the closing level, the first state, every level ruled out, or no budget
abbrev pub NotIdle : Type 0
NotIdle =
    OfPlan (λ t v a r new m m'.
    r.opened ≡ 0 → Shut v a.goal ⊎ Meets a.goal t.first ⊎ AllRuledOut v a m ⊎ (a.budget ≡ 0))

-- who says "spent" has spent the budget, and the answer was not at hand
abbrev pub NotEarly : Type 0
NotEarly =
    OfPlan (λ t v a r new m m'. r.outcome ≡ Spent → (r.opened ≡ a.budget) × (Meets a.goal t.first → ⊥) × (AllRuledOut v a m → ⊥))

-- the numbers add up, keep to the budget, and are what the store grew by
abbrev pub NotInvented : Type 0
NotInvented =
    OfPlan (λ t v a r new m m'.
    (r.opened ≡ r.kept + r.passed_over + r.left_open) × (r.opened ≤ a.budget)
    × (m'.kept ≡ m.kept + r.kept) × (m'.passed ≡ m.passed + r.passed_over))

-- where every level was ruled out, nothing is opened, and the store's counts stay
abbrev pub NotBusy : Type 0
NotBusy = OfPlan (λ t v a r new m m'. AllRuledOut v a m → (r.opened ≡ 0) × (m'.kept ≡ m.kept) × (m'.passed ≡ m.passed))

-- asked the same again after a "not within" that passed nothing over, plan opens nothing
abbrev pub NotRepeated : Type 0
NotRepeated =
    (t : Task) (v : View) (a : Question) (r r' : Report) (old new old' new' : List ℕ) (m m' m'' : Meaning)
    → Plans t v a (Ok r) old new m m' → Plans t v a (Ok r') old' new' m' m''
    → r.outcome ≡ NotWithin → r.passed_over ≡ 0 → r'.opened ≡ 0

-- the plan in the list is one for the goal asked now
abbrev pub NotCopied : Type 0
NotCopied = OfPlan (λ t v a r new m m'. r.outcome ≡ Plan → (end : ℕ) × Leads t t.first (take r.steps new) end × Meets a.goal end)

-- "never" is said just where the closing level bars the goal
abbrev pub NotBlind : Type 0
NotBlind = OfPlan (λ t v a r new m m'. (Shut v a.goal → r.outcome ≡ Never) × (r.outcome ≡ Never → Shut v a.goal))
