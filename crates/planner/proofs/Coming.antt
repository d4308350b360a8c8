-- What is next below the lowest position, by what the work on it gave.
use Rattle.std.proofs.Common.{◌≡◌, ℕ, ◌+◌, ◌-◌, ◌<◌, ◌≤◌, List, [], ◌∷◌, length, Some, None, sym, refl, ap, subst, inl, inr, arith}
use Rattle.problem.specs.Firm.{Task}
use Rattle.problem.specs.Runs.{Goal, Meets}
use Rattle.problem.specs.Problems.{Fits}
use Rattle.regression.specs.Stacks.{weights}
use Rattle.regression.specs.declared.node.Node.{Node}
use Rattle.regression.specs.declared.found.Due.{Due}
use Rattle.store.specs.Positions.{Target, at, Proper}
use Rattle.store.specs.Stores.{Meaning}
use Rattle.outlook.specs.Outlooks.{View}
use Rattle.claim.specs.Search.{Question, GoalNames, Dropped}
use Rattle.claim.specs.Turns.{NamedBelow}
use Rattle.claim.specs.declared.outcome.Outcome.TheVariants.{Plan}
use Rattle.claim.proofs.Storing.{action_named}
use Rattle.planner.specs.Paths.{Held, with_work, steps_of, Sought, Offered, Gave, Ended}
use Rattle.planner.specs.Works.{waits, may, lowest_of, lowest_weight, Offers, Idle, Took}
use Rattle.planner.proofs.Moves.{gave_dropped, gave_missed, gave_found, gave_offered, gave_nothing}

same_steps : (h : Held (List Node)) (w : List Node) (hs : List (Held (List Node))) → steps_of (h ∷ hs) ≡ steps_of (with_work h w ∷ hs)
same_steps h w [] = refl
same_steps h w (e ∷ hs) = refl

module _ (t : Task) (v : View) (l : ℕ) where
  -- so much below the lowest position
  one_less : (h : Held (List Node)) → h.position.level ≡ l + 1 → h.position.level - 1 ≡ l
  one_less h e = omega arith

  gave_below : (h : Held (List Node)) (due : Due) (w : List Node) → h.position.level ≡ l + 1
      → Gave (waits t) may t v (h.position.level - 1) h.position.goal h.work due.step due.region w
      → Gave (waits t) may t v l h.position.goal h.work due.step due.region w
  gave_below h due w e x = subst (λ (j : ℕ). Gave (waits t) may t v j h.position.goal h.work due.step due.region w) (one_less h e) x

  one_more : (h : Held (List Node)) → h.position.level ≡ l + 1 → h.position.level - 1 + 1 ≡ h.position.level
  one_more h e = omega arith

  -- what is given below a position of the task names atoms of the task
  gave_named : Fits t → (q : Target) (w w' : List Node) (step : ℕ) (g : Goal) → NamedBelow t.atoms q.goal
      → Gave (waits t) may t v l q.goal w step g w' → NamedBelow t.atoms g
  gave_named fits q w w' step g named x =
      let one = x.leads g.need (record { holds = λ k h. h; lacks = λ k a h. x.apart k h a }) in
      let all : (k : ℕ) → GoalNames g k → k < t.atoms = λ k n. elim (x.names k n) [
        | inl (inl h) ↦ named.0 k h
        | inl (inr h) ↦ named.1 k h
        | inr i ↦ action_named t fits i.0 (one.1.allowed.known i.0 i.1) k i.2
      ] in
      ((λ k h. all k (inl h)), λ k h. all k (inr h))

  -- what is given below a position of the task is one of the task
  gave_placed : Fits t → (q : Target) (w w' : List Node) (step : ℕ) (g : Goal) → 1 ≤ l → l + 1 ≡ q.level → Proper q × NamedBelow t.atoms q.goal
      → Gave (waits t) may t v l q.goal w step g w' → Proper (at l g) × NamedBelow t.atoms g
  gave_placed fits q w w' step g le e placed x =
      (record { ranked = (le, omega (arith, placed.0.ranked.1, e)); apart = x.apart }, gave_named fits q w w' step g placed.1 x)

  pub took_placed : Fits t → (hs hs' : List (Held (List Node))) (due : Due) → 1 ≤ l → (lowest_of hs).level ≡ l + 1
      → Proper (lowest_of hs) × NamedBelow t.atoms (lowest_of hs).goal
      → Took t v hs (Some due) hs' → Proper (at l due.region) × NamedBelow t.atoms due.region
  took_placed fits [] hs' due le e placed x = absurd x
  took_placed fits (h ∷ hs) hs' due le e placed x =
      gave_placed fits h.position h.work x.0 due.step due.region le (sym e) placed (gave_below h due x.0 e x.2)

  pub took_named : Fits t → (hs hs' : List (Held (List Node))) (due : Due) (q : Target) → q ≡ at l due.region → (lowest_of hs).level ≡ l + 1
      → NamedBelow t.atoms (lowest_of hs).goal → Took t v hs (Some due) hs' → NamedBelow t.atoms q.goal
  took_named fits [] hs' due q is e named x = absurd x
  took_named fits (h ∷ hs) hs' due q is e named x =
      subst (λ (r : Target). NamedBelow t.atoms r.goal) (sym is)
      (gave_named fits h.position h.work x.0 due.step due.region named (gave_below h due x.0 e x.2))

  module _ {a : Question} {m₀ m : Meaning} {n k : ℕ} where
    -- the first state meets it: a plan is found
    pub came_found : (hs hs' : List (Held (List Node))) (due : Due) → (lowest_of hs).level ≡ l + 1 → l ≡ 0 → Meets due.region t.first
        → Took t v hs (Some due) hs' → Sought (waits t) may t v a m₀ m n hs k → Ended t v a m₀ m Plan (due.step ∷ steps_of hs') k (length hs')
    came_found [] hs' due e z meets x s = absurd x
    came_found (h ∷ hs) hs' due e z meets x s =
        subst (λ (ys : List (Held (List Node))). Ended t v a m₀ m Plan (due.step ∷ steps_of ys) k (length ys)) (sym x.1)
        (subst (λ (ks : List ℕ). Ended t v a m₀ m Plan (due.step ∷ ks) k (length (h ∷ hs))) (same_steps h x.0 hs)
        (gave_found (h.position.level - 1) due.step due.region x.0 (omega arith) (one_more h e) x.2 meets s))

    -- at level 0 the first state does not meet it
    pub came_missed : (hs hs' : List (Held (List Node))) (due : Due) → (lowest_of hs).level ≡ l + 1 → l ≡ 0 → (Meets due.region t.first → ⊥)
        → Took t v hs (Some due) hs' → Sought (waits t) may t v a m₀ m n hs k → Sought (waits t) may t v a m₀ m n hs' k
    came_missed [] hs' due e z meets x s = absurd x
    came_missed (h ∷ hs) hs' due e z missed x s =
        subst (λ (ys : List (Held (List Node))). Sought (waits t) may t v a m₀ m n ys k) (sym x.1)
        (gave_missed (h.position.level - 1) due.step due.region x.0 (omega arith) (one_more h e) x.2 missed s)

    -- it is to be dropped
    pub came_dropped : (hs hs' : List (Held (List Node))) (due : Due) (q : Target) → q ≡ at l due.region → (lowest_of hs).level ≡ l + 1 → 1 ≤ l → Dropped v m q
        → Took t v hs (Some due) hs' → Sought (waits t) may t v a m₀ m n hs k → Sought (waits t) may t v a m₀ m n hs' k
    came_dropped [] hs' due q is e le d x s = absurd x
    came_dropped (h ∷ hs) hs' due q is e le d x s =
        subst (λ (ys : List (Held (List Node))). Sought (waits t) may t v a m₀ m n ys k) (sym x.1)
        (gave_dropped l due.step due.region x.0 le (sym e) (gave_below h due x.0 e x.2) (subst (λ (r : Target). Dropped v m r) is d) s)

    -- it is to be opened
    pub came_offered : (hs hs' : List (Held (List Node))) (due : Due) (q : Target) → q ≡ at l due.region → (lowest_of hs).level ≡ l + 1 → 1 ≤ l → (Dropped v m q → ⊥)
        → Took t v hs (Some due) hs' → Sought (waits t) may t v a m₀ m n hs k → Offers t v a m₀ m n hs' k due.step q
    came_offered [] hs' due q is e le d x s = absurd x
    came_offered (h ∷ hs) hs' due q is e le d x s =
        subst (λ (ys : List (Held (List Node))). Offers t v a m₀ m n ys k due.step q) (sym x.1)
        (subst (λ (r : Target). Offered (waits t) may t v a m₀ m n (with_work h x.0) hs k due.step r) (sym is)
        (gave_offered l due.step due.region x.0 le (sym e) (gave_below h due x.0 e x.2) (λ y. d (subst (λ (r : Target). Dropped v m r) (sym is) y)) s))

    -- nothing more comes
    pub came_nothing : (hs hs' : List (Held (List Node))) → (lowest_of hs).level ≡ l + 1
        → Took t v hs None hs' → Sought (waits t) may t v a m₀ m n hs k → Sought (waits t) may t v a m₀ m n hs' k × Idle t v hs'
    came_nothing [] hs' e x s = absurd x
    came_nothing (h ∷ hs) hs' e x s =
        subst (λ (ys : List (Held (List Node))). Sought (waits t) may t v a m₀ m n ys k × Idle t v ys) (sym x.0)
        (gave_nothing (h.position.level - 1) [] (one_more h e) (λ step need y. y) x.1 s, λ s' part w. absurd w.1)

  -- the lowest position stays the same
  pub took_lowest : (hs hs' : List (Held (List Node))) (due : Due) → Took t v hs (Some due) hs' → lowest_of hs' ≡ lowest_of hs
  took_lowest [] hs' due x = absurd x
  took_lowest (h ∷ hs) hs' due x = ap lowest_of x.1

  pub took_less : (hs hs' : List (Held (List Node))) (due : Due) → Took t v hs (Some due) hs' → lowest_weight hs' < lowest_weight hs
  took_less [] hs' due x = absurd x
  took_less (h ∷ hs) hs' due x = subst (λ (ys : List (Held (List Node))). lowest_weight ys < weights h.work) (sym x.1) x.3
