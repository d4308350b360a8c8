-- The turns of the loop that searches, over the path.
use Rattle.std.proofs.Common.{◌≡◌, ℕ, ◌+◌, ◌-◌, ◌<◌, ◌≤◌, List, [], ◌∷◌, ◌++◌, length, drop, Some, None, sym, refl, ap, ◌∙◌, subst, inl, inr, arith}
use Rattle.sets.specs.Sets.{Apart}
use Rattle.problem.specs.Firm.{Task}
use Rattle.problem.specs.Runs.{Meets}
use Rattle.problem.specs.Problems.{Fits}
use Rattle.regression.specs.declared.node.Node.{Node}
use Rattle.store.specs.Positions.{Target, at, target_of, Proper}
use Rattle.store.specs.declared.position.Position.{Position}
use Rattle.store.specs.Stores.{Meaning, Told}
use Rattle.store.specs.declared.answer.Answer.{Answer}
use Rattle.outlook.specs.Outlooks.{View}
use Rattle.claim.specs.Search.{Question, Dropped, Open, Next, Search, begins}
use Rattle.claim.specs.Turns.{NamedBelow, Passes, plan_checks}
use Rattle.claim.specs.declared.outcome.Outcome.{Outcome}
use Rattle.claim.specs.declared.outcome.Outcome.TheVariants.{Plan, NotWithin, Spent}
use Rattle.claim.proofs.Opening.{Chain}
use Rattle.claim.proofs.Searching.{chain, within, room_to_tell}
use Rattle.claim.proofs.Storing.{proper}
use Rattle.claim.proofs.Turning.{named, unshared}
use Rattle.planner.specs.Frames.{way}
use Rattle.planner.specs.Paths.{Held, steps_of, AllStand, Sought, Ended}
use Rattle.planner.specs.Works.{waits, may, lowest_of, held, held_of, Offers, Idle, Entered}
use Rattle.planner.specs.Endings.{Ran}
use Rattle.planner.specs.declared.path.Path.{Path}
use Rattle.planner.proofs.Holding.{held_length, held_way}
use Rattle.planner.proofs.Written.{way_length}
use Rattle.planner.proofs.Moves.{held_length as open-length, goal_dropped, goal_opened, goal_spent, all_failed, offered_opened, offered_spent, lowest_told}

-- by the checks
module _ (t : Task) (m : Meaning) (a : Question) (room : ℕ) (checks : Passes (plan_checks t m a room)) where
  pub short : a.limit ≤ 32
  short = omega (arith, checks.1.1.0)

  goal_apart : Apart a.goal.need a.goal.avoid
  goal_apart = unshared a.goal.need a.goal.avoid checks.1.0

  pub goal_placed : (n : ℕ) → 1 ≤ n → n ≤ a.limit → Proper (at n a.goal) × NamedBelow t.atoms a.goal
  goal_placed n low high = (
    record { ranked = (low, omega (arith, short)); apart = goal_apart },
    ((λ k h. named t.atoms a.goal checks.0 k (inl h)), λ k h. named t.atoms a.goal checks.0 k (inr h)),
  )

  pub few_counts : m.kept + m.passed + a.budget ≤ 16000000
  few_counts = omega (arith, checks.1.1.1.1.1.0)

  pub list_room : a.limit ≤ room
  list_room = omega (arith, checks.1.1.1.1.0)

module _ (t : Task) (v : View) (a : Question) (m₀ m : Meaning) (n k : ℕ) where
  -- so many are held in the round n, and so many are opened
  pub held_few : (hs : List (Held (List Node))) → Sought (waits t) may t v a m₀ m n hs k → (length hs ≤ n) × (n ≤ a.limit) × (k ≤ a.budget)
  held_few hs s = (
    go s.os (chain s.search).0 (open-length (waits t) may t v m s.log None hs s.os s.stand),
    (chain s.search).1,
    omega (arith, s.counted, within s.search),
  )
    where
      go : (os : List Open) → Chain n os → length os ≡ length hs → length hs ≤ n
      go [] c e = omega arith
      go (o ∷ os) c e = omega (arith, c.0)

  -- the lowest stands so many levels below the round
  pub lowest_deep : (hs : List (Held (List Node))) → 0 < length hs → Sought (waits t) may t v a m₀ m n hs k → (lowest_of hs).level + length hs ≡ n + 1
  lowest_deep [] some s = absurd (let z : ⊥ = omega arith in z)
  lowest_deep (h ∷ hs) some s = go s.os (chain s.search).0 s.stand (open-length (waits t) may t v m s.log None (h ∷ hs) s.os s.stand)
    where
      go : (os : List Open) → Chain n os → AllStand (waits t) may t v m s.log None (h ∷ hs) os → length os ≡ length (h ∷ hs) → h.position.level + length (h ∷ hs) ≡ n + 1
      go [] c y e = absurd y
      go (o ∷ os) c y e = omega (arith, c.0, ap (λ (r : Target). r.level) y.0.position)

  -- and names atoms of the task; the store has room to be told
  module _ (fits : Fits t) (room : ℕ) (checks : Passes (plan_checks t m₀ a room)) where
    pub lowest_named : (hs : List (Held (List Node))) → 0 < length hs → Sought (waits t) may t v a m₀ m n hs k → NamedBelow t.atoms (lowest_of hs).goal
    lowest_named [] some s = absurd (let z : ⊥ = omega arith in z)
    lowest_named (h ∷ hs) some s = go s.os s.search s.stand
      where
        go : (os : List Open) → Search t v a m₀ n os s.log m → AllStand (waits t) may t v m s.log None (h ∷ hs) os → NamedBelow t.atoms h.position.goal
        go [] x y = absurd y
        go (o ∷ os) x y =
            let p = (proper fits (short t m₀ a room checks) (goal_apart t m₀ a room checks) (named t.atoms a.goal checks.0) x).0 in
            subst (λ (r : Target). NamedBelow t.atoms r.goal) y.0.position
            ((λ j h. p.named j (inl h)), λ j h. p.named j (inr h))

    -- and it is a position of the task
    pub lowest_placed : (hs : List (Held (List Node))) → 0 < length hs → Sought (waits t) may t v a m₀ m n hs k
        → Proper (lowest_of hs) × NamedBelow t.atoms (lowest_of hs).goal
    lowest_placed [] some s = absurd (let z : ⊥ = omega arith in z)
    lowest_placed (h ∷ hs) some s = go s.os s.search s.stand
      where
        go : (os : List Open) → Search t v a m₀ n os s.log m → AllStand (waits t) may t v m s.log None (h ∷ hs) os
            → Proper h.position × NamedBelow t.atoms h.position.goal
        go [] x y = absurd y
        go (o ∷ os) x y =
            let p = (proper fits (short t m₀ a room checks) (goal_apart t m₀ a room checks) (named t.atoms a.goal checks.0) x).0 in
            subst (λ (r : Target). Proper r × NamedBelow t.atoms r.goal) y.0.position
            (record { ranked = (p.low, p.high); apart = p.apart }, ((λ j h. p.named j (inl h)), λ j h. p.named j (inr h)))

    pub tell_room : (hs : List (Held (List Node))) → 0 < length hs → Sought (waits t) may t v a m₀ m n hs k → m.kept + m.passed < 16000000
    tell_room hs some s = go s.os s.search (open-length (waits t) may t v m s.log None hs s.os s.stand)
      where
        go : (os : List Open) → Search t v a m₀ n os s.log m → length os ≡ length hs → m.kept + m.passed < 16000000
        go [] x e = absurd (let z : ⊥ = omega arith in z)
        go (o ∷ os) x e = omega (arith, room_to_tell o x, few_counts t m₀ a room checks)

-- where nothing is open, nothing is held
pub nothing_held : (p : Path) → p.depth ≡ 0 → held_of p ≡ []
nothing_held p none = ap (λ (d : ℕ). held d p.frames p.nodes p.len) none

module _ {t : Task} {v : View} {a : Question} {m₀ m : Meaning} {n k : ℕ} where
  -- the turns where nothing is held
  pub round_dropped : (hs : List (Held (List Node))) → length hs ≡ 0 → n < a.limit → (Meets a.goal t.first → ⊥)
      → Dropped v m (at (n + 1) a.goal) → Sought (waits t) may t v a m₀ m n hs k → Sought (waits t) may t v a m₀ m (n + 1) hs k
  round_dropped [] none lt fails d s = goal_dropped s (at (n + 1) a.goal) refl lt fails d
  round_dropped (h ∷ hs) none lt fails d s = absurd (let z : ⊥ = omega arith in z)

  pub round_opened : (p p' : Path) → length (held_of p) ≡ 0 → n < a.limit → (Meets a.goal t.first → ⊥)
      → (Dropped v m (at (n + 1) a.goal) → ⊥) → k < a.budget → Entered t p (at (n + 1) a.goal) 0 p'
      → Sought (waits t) may t v a m₀ m n (held_of p) k → Sought (waits t) may t v a m₀ m (n + 1) (held_of p') (k + 1)
  round_opened p p' none lt fails d room x s =
      subst (λ (ys : List (Held (List Node))). Sought (waits t) may t v a m₀ m (n + 1) ys (k + 1)) (sym x.is) (go (held_of p) none s)
    where
      go : (hs : List (Held (List Node))) → length hs ≡ 0 → Sought (waits t) may t v a m₀ m n hs k
          → Sought (waits t) may t v a m₀ m (n + 1) (record { position = at (n + 1) a.goal; step = 0; work = x.work } ∷ hs) (k + 1)
      go [] none s = goal_opened s (at (n + 1) a.goal) refl lt fails d x.work room x.begun
      go (h ∷ hs) none s = absurd (let z : ⊥ = omega arith in z)

  pub round_spent : (hs : List (Held (List Node))) → length hs ≡ 0 → n < a.limit → (Meets a.goal t.first → ⊥)
      → (Dropped v m (at (n + 1) a.goal) → ⊥) → k ≡ a.budget → Sought (waits t) may t v a m₀ m n hs k → Ended t v a m₀ m Spent [] k 0
  round_spent [] none lt fails d full s = goal_spent s (at (n + 1) a.goal) refl lt fails d full
  round_spent (h ∷ hs) none lt fails d full s = absurd (let z : ⊥ = omega arith in z)

  pub rounds_failed : (hs : List (Held (List Node))) → length hs ≡ 0 → n ≡ a.limit → (Meets a.goal t.first → ⊥)
      → Sought (waits t) may t v a m₀ m n hs k → Ended t v a m₀ m NotWithin [] k 0
  rounds_failed [] none e fails s = all_failed s e fails
  rounds_failed (h ∷ hs) none e fails s = absurd (let z : ⊥ = omega arith in z)

  -- the turns below the lowest position
  pub below_opened : (p p' : Path) (step : ℕ) (q : Target) → k < a.budget
      → Offers t v a m₀ m n (held_of p) k step q → Entered t p q step p' → Sought (waits t) may t v a m₀ m n (held_of p') (k + 1)
  below_opened p p' step q room offers x =
      subst (λ (ys : List (Held (List Node))). Sought (waits t) may t v a m₀ m n ys (k + 1)) (sym x.is) (go (held_of p) offers)
    where
      go : (hs : List (Held (List Node))) → Offers t v a m₀ m n hs k step q
          → Sought (waits t) may t v a m₀ m n (record { position = q; step = step; work = x.work } ∷ hs) (k + 1)
      go [] y = absurd y
      go (h ∷ hs) y = offered_opened step q x.work y room x.begun

  pub told_below : (p p' : Path) (b : Answer) (m' : Meaning) → 1 ≤ (lowest_of (held_of p)).level → Idle t v (held_of p) → Told m (lowest_of (held_of p)) b m'
      → held_of p' ≡ drop 1 (held_of p) → Sought (waits t) may t v a m₀ m n (held_of p) k → Sought (waits t) may t v a m₀ m' n (held_of p') k
  told_below p p' b m' low idle tell rest s = subst (λ (ys : List (Held (List Node))). Sought (waits t) may t v a m₀ m' n ys k) (sym rest) (go (held_of p) low idle tell s)
    where
      go : (hs : List (Held (List Node))) → 1 ≤ (lowest_of hs).level → Idle t v hs → Told m (lowest_of hs) b m' → Sought (waits t) may t v a m₀ m n hs k
          → Sought (waits t) may t v a m₀ m' n (drop 1 hs) k
      go [] low idle tell s = absurd idle
      go (h ∷ hs) low idle tell s = lowest_told (h.position.level - 1) b m' (omega arith) idle tell s

  -- the same, of a value of the type
  pub below_told : (p p' : Path) (b : Answer) (m' : Meaning) (q : Position) → target_of q ≡ lowest_of (held_of p) → Idle t v (held_of p)
      → Told m (target_of q) b m' → held_of p' ≡ drop 1 (held_of p)
      → Sought (waits t) may t v a m₀ m n (held_of p) k → Sought (waits t) may t v a m₀ m' n (held_of p') k
  below_told p p' b m' q is idle tell rest s =
      told_below p p' b m' (omega (arith, q.low, ap (λ (r : Target). r.level) is)) idle (subst (λ (r : Target). Told m r b m') is tell) rest s

pub below_spent : {t : Task} {v : View} {a : Question} {m₀ m : Meaning} {k : ℕ} (n : ℕ) (hs : List (Held (List Node))) (step : ℕ) (q : Target)
    → k ≡ a.budget → Offers t v a m₀ m n hs k step q → Ended t v a m₀ m Spent [] k (length hs)
below_spent n [] step q full y = absurd y
below_spent n (h ∷ hs) step q full y = offered_spent step q y full

-- what is offered lies one level below the lowest, from level 1 on
pub offers_low : (t : Task) (v : View) (a : Question) (m₀ m : Meaning) (n k : ℕ) (hs : List (Held (List Node))) (step : ℕ) (q : Target)
    → Offers t v a m₀ m n hs k step q → 2 ≤ (lowest_of hs).level
offers_low t v a m₀ m n k [] step q y = absurd y
offers_low t v a m₀ m n k (h ∷ hs) step q y = go y.os y.next y.stand
  where
    go : (os : List Open) → Next t v a m n os step q → AllStand (waits t) may t v m y.log (Some q) (h ∷ hs) os → 2 ≤ h.position.level
    go [] x z = absurd z
    go (o ∷ os) x z = omega (arith, x.0.level, x.0.lower, ap (λ (r : Target). r.level) z.0.position)

-- how a search ends, with what it leaves in the list
module _ {t : Task} {v : View} {a : Question} {m : Meaning} where
  pub ran_first : (old : List ℕ) → Meets a.goal t.first → Ran t v a (record { outcome = Plan; steps = 0; opened = 0; left = 0 }) old old m m
  ran_first old meets = record {
    plan = [];
    ended = record { round = 0; os = []; log = []; search = begins; ends = (meets, refl); counted = refl; remain = refl };
    steps = refl;
    written = refl;
  }

module _ {t : Task} {v : View} {a : Question} {m m' : Meaning} where
  pub ran_none : (out : Outcome) (k left : ℕ) (old new : List ℕ) → new ≡ old → Ended t v a m m' out [] k left
      → Ran t v a (record { outcome = out; steps = 0; opened = k; left = left }) old new m m'
  ran_none out k left old new same e = record { plan = []; ended = e; steps = refl; written = same }

  pub ran_plan : (p : Path) (d k step : ℕ) (old mid new : List ℕ) → 0 < d → p.depth ≡ d → mid ≡ old
      → Ended t v a m m' Plan (step ∷ steps_of (held_of p)) k (length (held_of p))
      → new ≡ (step ∷ way p.depth p.frames) ++ drop p.depth mid
      → Ran t v a (record { outcome = Plan; steps = d; opened = k; left = d }) old new m m'
  ran_plan p d k step old mid new some deep same e w =
      let long : d ≡ length (step ∷ way p.depth p.frames) = omega (arith, way_length p.depth p.frames) in
      let held_d : length (held_of p) ≡ d = held_length p.depth p.frames p.nodes p.len ∙ deep in
      record {
        plan = step ∷ way p.depth p.frames;
        ended = subst (λ (j : ℕ). Ended t v a m m' Plan (step ∷ way p.depth p.frames) k j) held_d
            (subst (λ (ks : List ℕ). Ended t v a m m' Plan (step ∷ ks) k (length (held_of p))) (held_way p.depth p.frames p.nodes p.len) e);
        steps = long;
        written = w ∙ ap (λ (zs : List ℕ). (step ∷ way p.depth p.frames) ++ drop p.depth zs) same
            ∙ ap (λ (j : ℕ). (step ∷ way p.depth p.frames) ++ drop j old) (deep ∙ long);
      }
