-- What an answer owes to the store: nothing but its numbers.
use Rattle.std.specs.Prelude.{◌≡◌, ℕ, List, ◌∷◌, Ok, ◌≢◌}
use Rattle.problem.specs.Firm.{Task}
use Rattle.problem.specs.Problems.{Fits}
use Rattle.store.specs.Stores.{Meaning}
use Rattle.outlook.specs.Outlooks.{View}
use Rattle.claim.specs.Search.{Question}
use Rattle.claim.specs.Turns.{plans, Turn, Turns}
use Rattle.claim.specs.Claim.{turn}
use Rattle.claim.specs.declared.outcome.Outcome.TheVariants.{Spent}
use Rattle.claim.specs.declared.report.Report.{Report}

-- after some list of turns on some store, plan is asked a with the outlook v and answers r
abbrev pub Answered : Task → View → Question → Report → Type 0
Answered t v a r =
    (turns : List Turn) × (m m' : Meaning) × (old new : List ℕ) × Turns t (turn m (plans v a (Ok r) old new) m' ∷ turns) m'

-- whatever the stores are and were told, two answers of which none is "spent" have the same outcome and as many steps
abbrev pub StoresAgree : Type 0
StoresAgree =
    (t : Task) → Fits t → (v : View) (a : Question) (r r' : Report) → Answered t v a r → Answered t v a r'
    → (r.outcome ≢ Spent) → (r'.outcome ≢ Spent) → (r.outcome ≡ r'.outcome) × (r.steps ≡ r'.steps)
