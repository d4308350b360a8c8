-- The last step of a firm run, and what no firm run reaches.
use Rattle.std.proofs.Common.{◌≡◌, ℕ, zero, suc, ◌-◌, ◌≤◌, List, sym, refl, subst, inl, inr, arith}
use native.Mathlib.Decide.{dec_le}
use Rattle.problem.specs.Firm.{Task, FirmStep}
use Rattle.problem.specs.Runs.{Run, start, more, Unreached}
use Rattle.problem.proofs.Running.{empty_firm, runs_listed}
use Rattle.store.specs.Positions.{Target, Covers}
use Rattle.store.specs.Stores.{Meaning, Covered, Told}
use Rattle.store.specs.declared.answer.Answer.{Answer}
use Rattle.store.specs.declared.answer.Answer.TheVariants.{Known, Kept, PassedOver}
use Rattle.outlook.specs.Outlooks.{View, Lawful}
use Rattle.claim.specs.Search.{Dropped, Event, WasTold, Exhausted}
use Rattle.claim.specs.Claim.{Sound, RunsAreLists}

pub runs_are_lists : RunsAreLists
runs_are_lists p n s = let r = runs_listed p n s in (r.0, λ steps e l. r.1 (steps, e, l))

-- a run of k steps ends in a firm step from where a run of k - 1 steps ends (from the first state, by the empty step, if k is 0)
pub back : (p : Task) (k s : ℕ) → Run p k s → (mid step : ℕ) × Run p (k - 1) mid × FirmStep p mid step s
back p zero s start = (p.first, 0, start, empty_firm p p.first)
back p (suc n) s (more {before} step end r f) =
    let e : n ≡ suc n - 1 = omega arith in
    (before, step, subst (λ (k : ℕ). Run p k before) e r, f)

pub run_none : (p : Task) (k s : ℕ) → Run p k s → k ≡ 0 → p.first ≡ s
run_none p zero s start e = refl
run_none p (suc n) s (more step end r f) e = absurd (let z : ⊥ = omega arith in z)

-- what a position covers is unreached with it
pub unreached_covers : (p : Task) (q r : Target) → Covers q r → Unreached p q.level q.goal → Unreached p r.level r.goal
unreached_covers p q r c u k s le run m =
    u k s (omega (arith, c.level)) run
    (record { holds = λ j h. m.holds j (c.need j h); lacks = λ j h. m.lacks j (c.avoid j h) })

-- what is barred or covered is unreached
pub unreached_dropped : (p : Task) (v : View) → Lawful p v → (m : Meaning) → Sound p m → (r : Target) → r.level ≤ 32
    → Dropped v m r → Unreached p r.level r.goal
unreached_dropped p v law m sound r le (inl b) k s h run meets =
    law.level r.level k s le h run (b.0, b.1, meets.holds b.0 b.2, meets.holds b.1 b.3, b.4)
unreached_dropped p v law m sound r le (inr c) k s h run meets = sound r c k s h run meets

-- and so is what no step is left for
pub unreached_exhausted : (p : Task) (v : View) → Lawful p v → (m : Meaning) (log : List Event) → Sound p m
    → ((r : Target) → WasTold r log → Unreached p r.level r.goal)
    → (q : Target) → 1 ≤ q.level → q.level ≤ 32 → Exhausted p v (Covered m) log q → Unreached p q.level q.goal
unreached_exhausted p v law m log sound before q low high ex k s le run meets =
    let b = back p k s run in
    elim (dec_le q.level 1) [
      | yes h ↦
          (let e : p.first ≡ b.0 = run_none p (k - 1) b.0 b.2 (omega arith) in
          ex.0 (omega arith) b.1 s (subst (λ (x : ℕ). FirmStep p x b.1 s) (sym e) b.3) meets)
      | no h ↦
          (let r = ex.1 (omega arith) b.0 b.1 s b.3 meets in
          let kl : k - 1 ≤ r.0.level = omega (arith, r.1) in
          let gone : Dropped v m r.0 → ⊥ =
          λ d. unreached_dropped p v law m sound r.0 (omega (arith, r.1)) d (k - 1) b.0 kl b.2 r.2 in
          elim r.3 [
            | inl bar ↦ gone (inl bar)
            | inr (inl c) ↦ gone (inr c)
            | inr (inr w) ↦ before r.0 w (k - 1) b.0 kl b.2 r.2
          ])
    ]

-- a store stays sound when it is told what is unreached
pub told_sound : (p : Task) (m : Meaning) (q : Target) (b : Answer) (m' : Meaning) → Sound p m → Unreached p q.level q.goal
    → Told m q b m' → Sound p m'
told_sound p m q Known m' sound u t r c = sound r (subst (λ (x : Meaning). Covered x r) t.1 c)
told_sound p m q Kept m' sound u t r c = elim (t.1 r c) [ inl was ↦ sound r was | inr now ↦ unreached_covers p q r now u ]
told_sound p m q PassedOver m' sound u t r c = sound r (t.1 r c)
