-- The open positions of a search that is under way, each with the work that is left on it.
use Rattle.std.specs.Prelude.{◌≡◌, ℕ, ◌+◌, ◌<◌, ◌≤◌, ◌⊎◌, List, [], ◌∷◌, length, Some, None, Option}
use Rattle.sets.specs.Sets.{Has, Apart, Within}
use Rattle.problem.specs.Firm.{Task, FirmStep}
use Rattle.problem.specs.Runs.{Goal, Meets}
use Rattle.store.specs.Positions.{Target}
use Rattle.store.specs.Stores.{Meaning, Covered}
use Rattle.outlook.specs.Outlooks.{View, Barred}
use Rattle.sets.specs.Listed.{Among}
use Rattle.claim.specs.Turns.{Ends}
use Rattle.claim.specs.declared.outcome.Outcome.{Outcome}
use Rattle.claim.specs.Search.{Question, ActionNames, GoalNames, Open, Next, Event, Search, WasTold, opened_in}

-- the state meets a position one level below l that is barred, covered or was told
abbrev pub Handled : View → Meaning → List Event → ℕ → ℕ → Type 0
Handled v m log l s =
    (r : Target) × (r.level + 1 ≡ l) × Meets r.goal s
    × (Barred v r.level r.goal.need ⊎ Covered m r ⊎ WasTold r log)

-- the state meets the position, if there is one
abbrev pub MeetsSome : Option Target → ℕ → Type 0
MeetsSome None s = ⊥
MeetsSome (Some q) s = Meets q.goal s

-- the set holds a pair barred at the level n, and the level and the set are such as an outlook of the task is asked about
abbrev pub KnownBarred : Task → View → ℕ → ℕ → Type 0
KnownBarred t v n set = (n ≤ 32) × Within t.atoms set × Barred v n set

-- work at the level l on the states that meet g is to be dropped: at level 0 if the first state is none of them, above if g is barred
abbrev pub Pruned : Task → View → ℕ → Goal → Type 0
Pruned t v l g = ((l ≡ 0) × (Meets g t.first → ⊥)) ⊎ ((1 ≤ l) × KnownBarred t v l g.need)

-- the state meets a goal that is to be dropped at the level l
abbrev pub MeetsPruned : Task → View → ℕ → ℕ → Type 0
MeetsPruned t v l s = (g : Goal) × Pruned t v l g × Meets g s

-- an open position, the step that made it due, and the work left on it
pub record Held (W : Type 0) : Type 0 where
  pub position : Target
  pub step : ℕ
  pub work : W

module _ {W : Type 0} where
  -- the same position with other work left
  abbrev pub with_work : Held W → W → Held W
  with_work h w = record { position = h.position; step = h.step; work = w }

  -- the steps that made the held positions due, from the lowest up to the goal
  abbrev pub steps_of : List (Held W) → List ℕ
  steps_of [] = []
  steps_of (h ∷ []) = []
  steps_of (h ∷ (e ∷ hs)) = h.step ∷ steps_of (e ∷ hs)

module _ {W : Type 0} (waits : Goal → W → ℕ → ℕ → Type 0) (may : W → ℕ → ℕ → Type 0) where
  -- every step from a state into the goal has a part that waits in the work
  abbrev pub Begun : Task → Goal → W → Type 0
  Begun t g w = (s step end : ℕ) → FirmStep t s step end → Meets g end → (part : ℕ) × waits g w s part

  -- how the held position h stands, open as o, where lower is open or to be opened below it: nothing that was opened below it may come up
  -- again, and each state from which a step leads into it is handled, waits, or meets lower; at level 1 only the first state matters
  pub record Stands (t : Task) (v : View) (m : Meaning) (log : List Event) (lower : Option Target) (h : Held W) (o : Open) : Type 0 where
    pub position : o.position ≡ h.position
    pub step : o.step ≡ h.step
    pub once : (step : ℕ) (q : Target) → Among (step, q) o.below → may h.work step q.goal.need → ⊥
    pub above : 1 < h.position.level → (s step end : ℕ) → FirmStep t s step end → Meets h.position.goal end
        → Handled v m log h.position.level s ⊎ ((part : ℕ) × waits h.position.goal h.work s part) ⊎ MeetsSome lower s
    pub first : h.position.level ≡ 1 → (step end : ℕ) → FirmStep t t.first step end → Meets h.position.goal end
        → (part : ℕ) × waits h.position.goal h.work t.first part

  -- so does each, above the one below it
  abbrev pub AllStand : Task → View → Meaning → List Event → Option Target → List (Held W) → List Open → Type 0
  AllStand t v m log lower [] [] = Unit {0}
  AllStand t v m log lower [] (o ∷ os) = ⊥
  AllStand t v m log lower (h ∷ hs) [] = ⊥
  AllStand t v m log lower (h ∷ hs) (o ∷ os) = Stands t v m log lower h o × AllStand t v m log (Some h.position) hs os

  -- a search on a store that meant m₀ and means m is under way: it is in the round n, holds these positions, and opened so many
  pub record Sought (t : Task) (v : View) (a : Question) (m₀ m : Meaning) (n : ℕ) (hs : List (Held W)) (opened : ℕ) : Type 0 where
    pub os : List Open
    pub log : List Event
    pub search : Search t v a m₀ n os log m
    pub stand : AllStand t v m log None hs os
    pub counted : opened ≡ opened_in log

  -- one more is due by the step, and not to be dropped
  pub record Offered (t : Task) (v : View) (a : Question) (m₀ m : Meaning) (n : ℕ) (h : Held W) (hs : List (Held W)) (opened : ℕ) (step : ℕ) (q : Target) : Type 0 where
    pub os : List Open
    pub log : List Event
    pub search : Search t v a m₀ n os log m
    pub stand : AllStand t v m log (Some q) (h ∷ hs) os
    pub counted : opened ≡ opened_in log
    pub next : Next t v a m n os step q
    pub never_again : may h.work step q.goal.need → ⊥

  -- the work w on the goal g at the level after l gave the goal q, by the step, and left w'
  pub record Gave (t : Task) (v : View) (l : ℕ) (g : Goal) (w : W) (step : ℕ) (q : Goal) (w' : W) : Type 0 where
    pub apart : Apart q.need q.avoid
    pub leads : (s : ℕ) → Meets q s → (end : ℕ) × FirmStep t s step end × Meets g end
    pub names : (k : ℕ) → GoalNames q k → GoalNames g k ⊎ ((i : ℕ) × Has step i × ActionNames (t.at i) k)
    pub came : may w step q.need
    pub never_again : may w' step q.need → ⊥
    pub less : (step need : ℕ) → may w' step need → may w step need
    pub keeps : (s part : ℕ) → waits g w s part → waits g w' s part ⊎ Meets q s ⊎ MeetsPruned t v l s

  -- and it gave nothing more
  abbrev pub Done : Task → View → ℕ → Goal → W → Type 0
  Done t v l g w = (s part : ℕ) → waits g w s part → MeetsPruned t v l s

-- a search on a store that meant m₀ and means m ended so, with this plan; it opened so many positions, and left so many open
pub record Ended (t : Task) (v : View) (a : Question) (m₀ m : Meaning) (outcome : Outcome) (plan : List ℕ) (opened left : ℕ) : Type 0 where
  pub round : ℕ
  pub os : List Open
  pub log : List Event
  pub search : Search t v a m₀ round os log m
  pub ends : Ends t v a outcome round os log m plan
  pub counted : opened ≡ opened_in log
  pub remain : left ≡ length os
