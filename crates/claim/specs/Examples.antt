-- Lists of turns that there are: the law of a search is kept by some searches.
use Rattle.std.specs.Prelude.{ℕ, true, false, ◌&&◌, List, [], ◌∷◌, Some, None, Ok, Err, ◌==◌, bit_and, nat_le}
use Rattle.problem.specs.Firm.{Task}
use Rattle.problem.specs.Problems.{Fits}
use Rattle.problem.specs.declared.refusal.Refusal.TheVariants.{BadLevel}
use Rattle.store.specs.Positions.{at}
use Rattle.store.specs.Stores.{Meaning}
use Rattle.outlook.specs.Outlooks.{View}
use Rattle.claim.specs.Search.{Question}
use Rattle.claim.specs.Turns.{report, Turn, Turns, plans, reviews, clears}
use Rattle.claim.specs.Claim.{turn}
use Rattle.claim.specs.declared.outcome.Outcome.TheVariants.{Plan, Never, NotWithin, Spent}

-- one atom and no action at all; and one atom and an action that adds it
abbrev pub hopeless : Task
hopeless = record { atoms = 1; hands = 1; first = 0; count = 0; at = λ _. record { precondition = 0; effects = [] } }

abbrev pub easy : Task
easy = record {
  atoms = 1;
  hands = 1;
  first = 0;
  count = 1;
  at = λ _. record { precondition = 0; effects = record { condition = 0; add = 1; delete = 0 } ∷ [] };
}

-- an outlook that bars nothing
abbrev pub nothing_barred : View
nothing_barred = record { bars = λ _ _ _. false; closing = None }

-- one that bars everything from level 0 on, for ever
abbrev pub all_barred : View
all_barred = record { bars = λ _ _ _. true; closing = Some 0 }

-- a store that has passed n positions over and kept none, and one that has kept the atom's goal at level 1
abbrev pub passed_over : ℕ → Meaning
passed_over n = record { covers = λ _. false; kept = 0; passed = n }

abbrev pub one_kept : Meaning
one_kept = record { covers = λ q. nat_le q.level 1 && (bit_and 1 q.goal.need == 1); kept = 1; passed = 0 }

-- the atom is asked for
abbrev pub asked : ℕ → ℕ → Question
asked limit budget = record { goal = record { need = 1; avoid = 0 }; limit = limit; budget = budget }

-- a list of turns on a task that fits
abbrev pub Stands : Task → List Turn → Meaning → Type 0
Stands t turns m = Fits t × Turns t turns m

-- the atom is not to be had within two steps: level 1 is opened in round 1, level 2 and below it level 1 in round 2
abbrev pub NotWithinTwo : Type 0
NotWithinTwo =
    Stands hopeless
    (turn (passed_over 0) (plans nothing_barred (asked 2 5) (Ok (report NotWithin 0 3 0 3 0)) (7 ∷ (7 ∷ [])) (7 ∷ (7 ∷ []))) (passed_over 3) ∷ [])
    (passed_over 3)

-- with a budget of 2 that is too much
abbrev pub SpentAtTwo : Type 0
SpentAtTwo =
    Stands hopeless
    (turn (passed_over 0) (plans nothing_barred (asked 2 2) (Ok (report Spent 0 2 0 1 1)) (7 ∷ (7 ∷ [])) (7 ∷ (7 ∷ []))) (passed_over 1) ∷ [])
    (passed_over 1)

-- one step does it
abbrev pub PlanOfOne : Type 0
PlanOfOne =
    Stands easy
    (turn (passed_over 0) (plans nothing_barred (asked 2 5) (Ok (report Plan 1 1 0 0 1)) (7 ∷ (7 ∷ [])) (1 ∷ (7 ∷ []))) (passed_over 0) ∷ [])
    (passed_over 0)

-- with the outlook that bars everything the atom is never to be had; and a limit of 33 is declined
abbrev pub NeverThenDeclined : Type 0
NeverThenDeclined =
    Stands hopeless
    (turn (passed_over 0) (plans all_barred (asked 33 5) (Err BadLevel) (7 ∷ []) (7 ∷ [])) (passed_over 0)
    ∷ (turn (passed_over 0) (plans all_barred (asked 1 5) (Ok (report Never 0 0 0 0 0)) (7 ∷ []) (7 ∷ [])) (passed_over 0) ∷ []))
    (passed_over 0)

-- a store in five turns, the latest first: it keeps the goal at level 1, declines a review of level 0, has nothing opened when plan is
-- asked the same again, says that the goal at level 1 is covered, and is cleared
abbrev pub first_turn : Turn
first_turn = turn (passed_over 0) (plans nothing_barred (asked 1 5) (Ok (report NotWithin 0 1 1 0 0)) (7 ∷ []) (7 ∷ [])) one_kept

abbrev pub FiveTurns : Type 0
FiveTurns =
    Stands hopeless
    (turn one_kept clears (passed_over 0)
    ∷ (turn one_kept (reviews (at 1 (asked 1 5).goal) (Ok true)) one_kept
    ∷ (turn one_kept (plans nothing_barred (asked 1 5) (Ok (report NotWithin 0 0 0 0 0)) (7 ∷ []) (7 ∷ [])) one_kept
    ∷ (turn one_kept (reviews (at 0 (asked 1 5).goal) (Err BadLevel)) one_kept
    ∷ (first_turn ∷ [])))))
    (passed_over 0)
