-- The work that is left on an open position, as nodes.
use Rattle.std.specs.Prelude.{◌≡◌, ℕ, zero, suc, ◌+◌, ◌-◌, ◌<◌, ◌≤◌, List, [], ◌∷◌, length, Some, None, Option}
use Rattle.problem.specs.Firm.{Task}
use Rattle.problem.specs.Runs.{Goal}
use Rattle.regression.specs.Nodes.{Pair}
use Rattle.regression.specs.Stacks.{part_of, LiesIn, Orderly, weights}
use Rattle.regression.specs.declared.found.Due.{Due}
use Rattle.regression.specs.declared.node.Node.{Node}
use Rattle.store.specs.Positions.{Target, at, goal_of, target_of}
use Rattle.store.specs.Stores.{Meaning}
use Rattle.outlook.specs.Outlooks.{View}
use Rattle.claim.specs.Search.{Question}
use Rattle.claim.specs.declared.outcome.Outcome.TheVariants.{Plan}
use Rattle.planner.specs.Frames.{frame_at}
use Rattle.planner.specs.Paths.{Held, with_work, steps_of, Begun, Sought, Offered, Gave, Done as Emptied, Ended}
use Rattle.planner.specs.declared.frame.Frame.{Frame}
use Rattle.planner.specs.declared.next.Next.{Next}
use Rattle.planner.specs.declared.next.Next.TheVariants.{Found, Opens, Done}
use Rattle.planner.specs.declared.path.Path.{Path}

-- a lean step from s into the goal lies in one of the nodes
abbrev pub waits : Task → Goal → List Node → ℕ → ℕ → Type 0
waits t g ns s part = Pair t g s part × LiesIn ns s part

-- one of the nodes may still make a goal with this need due by the step: the need, as a state, lies in it
abbrev pub may : List Node → ℕ → ℕ → Type 0
may ns step need = LiesIn ns need step

-- the position of a frame
abbrev pub position : Frame → Target
position f = target_of f.position

-- what a frame holds, where the work on it ends there
abbrev pub holding : Frame → List Node → ℕ → Held (List Node)
holding f ns end = record { position = position f; step = f.step; work = part_of ns f.base (end - f.base) }

-- the positions that the first frames hold, the lowest first, where the work on the lowest ends there
abbrev pub held : ℕ → List Frame → List Node → ℕ → List (Held (List Node))
held zero fs ns end = []
held (suc d) fs ns end = holding (frame_at fs d) ns end ∷ held d fs ns (frame_at fs d).base

abbrev pub held_of : Path → List (Held (List Node))
held_of p = held p.depth p.frames p.nodes p.len

-- a search is under way on this path
abbrev pub Seeks : Task → View → Question → Meaning → Meaning → ℕ → Path → ℕ → Type 0
Seeks t v a m₀ m n p k = Sought (waits t) may t v a m₀ m n (held_of p) k

-- the lowest position, or one that says nothing where none is held
abbrev pub lowest_of : List (Held (List Node)) → Target
lowest_of [] = at 0 (goal_of 0 0)
lowest_of (h ∷ hs) = h.position

-- one more position is due below the lowest
abbrev pub Offers : Task → View → Question → Meaning → Meaning → ℕ → List (Held (List Node)) → ℕ → ℕ → Target → Type 0
Offers t v a m₀ m n [] k step q = ⊥
Offers t v a m₀ m n (h ∷ hs) k step q = Offered (waits t) may t v a m₀ m n h hs k step q

-- no work is left on the lowest
abbrev pub Idle : Task → View → List (Held (List Node)) → Type 0
Idle t v [] = ⊥
Idle t v (h ∷ hs) = Emptied (waits t) may t v (h.position.level - 1) h.position.goal h.work

-- what is next, where a search is under way on this path
abbrev pub Nexts : Task → View → Question → Meaning → Meaning → ℕ → Path → ℕ → Next → Type 0
Nexts t v a m₀ m n p k (Found step) = Ended t v a m₀ m Plan (step ∷ steps_of (held_of p)) k (length (held_of p))
Nexts t v a m₀ m n p k (Opens step q) = Offers t v a m₀ m n (held_of p) k step (target_of q)
Nexts t v a m₀ m n p k Done = Seeks t v a m₀ m n p k × Idle t v (held_of p)

-- the work on each position begins where that on the one above it ends, and has room
abbrev pub Sized : ℕ → List Frame → ℕ → Type 0
Sized zero fs end = end ≡ 0
Sized (suc d) fs end = ((frame_at fs d).base ≤ end) × (end ≤ (frame_at fs d).base + 129) × Sized d fs (frame_at fs d).base

-- the nodes of each are those of work on its goal
abbrev pub AllOrderly : Task → List (Held (List Node)) → Type 0
AllOrderly t [] = Unit {0}
AllOrderly t (h ∷ hs) = Orderly t h.position.goal h.work × AllOrderly t hs

-- the path is in shape
pub record Shape (t : Task) (p : Path) : Type 0 where
  pub frames : length p.frames ≡ 32
  pub nodes : length p.nodes ≡ 4128
  pub deep : p.depth ≤ 32
  pub sized : Sized p.depth p.frames p.len
  pub orderly : AllOrderly t (held_of p)

-- work on the position q, due by the step, begins below all that was held
pub record Entered (t : Task) (p : Path) (q : Target) (step : ℕ) (p' : Path) : Type 0 where
  pub work : List Node
  pub begun : Begun (waits t) may t q.goal work
  pub is : held_of p' ≡ record { position = q; step = step; work = work } ∷ held_of p
  pub depth : p'.depth ≡ p.depth + 1

-- how much there is to do on the lowest position at most
abbrev pub lowest_weight : List (Held (List Node)) → ℕ
lowest_weight [] = 0
lowest_weight (h ∷ hs) = weights h.work

-- what the work on the lowest position gave, and what is held then
abbrev pub Took : Task → View → List (Held (List Node)) → Option Due → List (Held (List Node)) → Type 0
Took t v [] r hs' = ⊥
Took t v (h ∷ hs) (Some due) hs' =
    (w : List Node) × (hs' ≡ with_work h w ∷ hs)
    × Gave (waits t) may t v (h.position.level - 1) h.position.goal h.work due.step due.region w
    × (weights w < weights h.work)
Took t v (h ∷ hs) None hs' = (hs' ≡ with_work h [] ∷ hs) × Emptied (waits t) may t v (h.position.level - 1) h.position.goal h.work
