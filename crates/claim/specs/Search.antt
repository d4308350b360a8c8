-- The law of a search: what a call of plan opens and tells, in order.
use Rattle.std.specs.Prelude.{◌≡◌, ℕ, suc, ◌+◌, ◌<◌, ◌≤◌, ◌⊎◌, List, [], ◌∷◌}
use Rattle.sets.specs.Sets.{Has, Apart}
use Rattle.problem.specs.Rows.{names_of}
use Rattle.problem.specs.Actions.{Action, Among as OfEffects}
use Rattle.problem.specs.Firm.{Task, FirmStep}
use Rattle.problem.specs.Runs.{Goal, Meets}
use Rattle.problem.specs.declared.rows.EffectRow.{EffectRow}
use Rattle.problem.specs.declared.question.Question.{Question as Put}
use Rattle.store.specs.Positions.{Target, at, Covers}
use Rattle.store.specs.Stores.{Meaning, Covered, Told}
use Rattle.store.specs.declared.answer.Answer.{Answer}
use Rattle.store.specs.declared.answer.Answer.TheVariants.{Known, Kept, PassedOver}
use Rattle.outlook.specs.Outlooks.{View, Barred}
use Rattle.sets.specs.Listed.{Among}

-- what plan is asked: a goal, to be reached in so many steps, with so many positions opened, at most
abbrev pub Question : Type 0
Question = Put

-- an action, and a goal, names the atom k
abbrev pub ActionNames : Action → ℕ → Type 0
ActionNames a k = Has a.precondition k ⊎ ((e : EffectRow) × OfEffects e a.effects × Has (names_of e) k)

abbrev pub GoalNames : Goal → ℕ → Type 0
GoalNames g k = Has g.need k ⊎ Has g.avoid k

-- the step makes q due, one level below the open position above: in every state meeting q the step is firm and ends in a state
-- meeting above, and q names only atoms that above or an action of the step names
pub record Due (t : Task) (above : Target) (step : ℕ) (q : Target) : Type 0 where
  pub level : 1 ≤ q.level
  pub lower : q.level + 1 ≡ above.level
  pub apart : Apart q.goal.need q.goal.avoid
  pub leads : (s : ℕ) → Meets q.goal s → (end : ℕ) × FirmStep t s step end × Meets above.goal end
  pub names : (k : ℕ) → GoalNames q.goal k → GoalNames above.goal k ⊎ ((i : ℕ) × Has step i × ActionNames (t.at i) k)

-- q is not to be opened: it is barred, or the store covers it
abbrev pub Dropped : View → Meaning → Target → Type 0
Dropped v m q = Barred v q.level q.goal.need ⊎ Covered m q

-- an open position, the step that made it due (of a goal in its round it says nothing), and what was opened below it by which step
pub record Open : Type 0 where
  pub position : Target
  pub step : ℕ
  pub below : List (ℕ × Target)

abbrev pub fresh : ℕ → Target → Open
fresh step q = record { position = q; step = step; below = [] }

abbrev pub with_below : Open → ℕ → Target → Open
with_below f step q = record { position = f.position; step = f.step; below = (step, q) ∷ f.below }

-- one more position is due, and not to be dropped: the goal in the round after n, or one below the lowest open position, once for each step
abbrev pub Next : Task → View → Question → Meaning → ℕ → List Open → ℕ → Target → Type 0
Next t v a m n [] step q = (n < a.limit) × (Meets a.goal t.first → ⊥) × (q ≡ at (suc n) a.goal) × (Dropped v m q → ⊥)
Next t v a m n (f ∷ fs) step q = Due t f.position step q × (Among (step, q) f.below → ⊥) × (Dropped v m q → ⊥)

-- what is open once q is opened, and the round in which it is
abbrev pub opening : List Open → ℕ → Target → List Open
opening [] step q = fresh step q ∷ []
opening (f ∷ fs) step q = fresh step q ∷ (with_below f step q ∷ fs)

abbrev pub round_of : ℕ → List Open → ℕ
round_of n [] = suc n
round_of n (f ∷ fs) = n

-- what happens in a search: a position is opened, with the step that made it due (of a goal in its round it says nothing), or told
pub data Event : Type 0 where
  opened : ℕ → Target → Event
  told : Target → Answer → Event

-- q was told
abbrev pub WasTold : Target → List Event → Type 0
WasTold q [] = ⊥
WasTold q (opened step r ∷ log) = WasTold q log
WasTold q (told r b ∷ log) = (q ≡ r) ⊎ WasTold q log

abbrev pub opened_in : List Event → ℕ
opened_in [] = 0
opened_in (opened step q ∷ log) = opened_in log + 1
opened_in (told q b ∷ log) = opened_in log

-- no step is left for the open position q, where the covered ones are these: at level 1 no firm step takes the first state to it; above,
-- every state from which a firm step ends in a state meeting it meets a position one level lower that is barred, covered, or was told
abbrev pub Exhausted : Task → View → (Target → Type 0) → List Event → Target → Type 0
Exhausted t v Is-covered log q =
    (q.level ≡ 1 → (step end : ℕ) → FirmStep t t.first step end → Meets q.goal end → ⊥)
    × (1 < q.level → (s step end : ℕ) → FirmStep t s step end → Meets q.goal end
    → (r : Target) × (r.level + 1 ≡ q.level) × Meets r.goal s × (Barred v r.level r.goal.need ⊎ Is-covered r ⊎ WasTold r log))

-- a search for the goal on a store that meant m₀: its round, what is open (the lowest first), what it opened and told (the latest
-- first), and what the store means now
pub data Search (t : Task) (v : View) (a : Question) (m₀ : Meaning) : ℕ → List Open → List Event → Meaning → Type 0 where
  begins : Search t v a m₀ 0 [] [] m₀
  -- the goal is dropped in the next round
  drops : {n : ℕ} {log : List Event} {m : Meaning} → Search t v a m₀ n [] log m
      → n < a.limit → (Meets a.goal t.first → ⊥) → Dropped v m (at (suc n) a.goal)
      → Search t v a m₀ (suc n) [] log m
  -- one more position is opened
  opens : {n : ℕ} {st : List Open} {log : List Event} {m : Meaning} (step : ℕ) (q : Target) → Search t v a m₀ n st log m
      → opened_in log < a.budget → Next t v a m n st step q
      → Search t v a m₀ (round_of n st) (opening st step q) (opened step q ∷ log) m
  -- the lowest open position is told
  tells : {n : ℕ} {st : List Open} {log : List Event} {m : Meaning} (f : Open) (answer : Answer) (m' : Meaning)
      → Search t v a m₀ n (f ∷ st) log m
      → Exhausted t v (Covered m) log f.position → Told m f.position answer m'
      → Search t v a m₀ n st (told f.position answer ∷ log) m'

-- how many of the told were kept, and passed over
abbrev pub kept_in : List Event → ℕ
kept_in [] = 0
kept_in (opened step q ∷ log) = kept_in log
kept_in (told q Known ∷ log) = kept_in log
kept_in (told q Kept ∷ log) = kept_in log + 1
kept_in (told q PassedOver ∷ log) = kept_in log

abbrev pub passed_in : List Event → ℕ
passed_in [] = 0
passed_in (opened step q ∷ log) = passed_in log
passed_in (told q Known ∷ log) = passed_in log
passed_in (told q Kept ∷ log) = passed_in log
passed_in (told q PassedOver ∷ log) = passed_in log + 1

-- a kept one covers r
abbrev pub KeptCovers : List Event → Target → Type 0
KeptCovers [] r = ⊥
KeptCovers (opened step q ∷ log) r = KeptCovers log r
KeptCovers (told q Known ∷ log) r = KeptCovers log r
KeptCovers (told q Kept ∷ log) r = Covers q r ⊎ KeptCovers log r
KeptCovers (told q PassedOver ∷ log) r = KeptCovers log r
