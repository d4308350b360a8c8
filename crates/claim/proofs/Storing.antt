-- What a store keeps in a search: different positions of the task.
use Rattle.std.proofs.Common.{◌≡◌, ℕ, ◌<◌, ◌≤◌, List, [], ◌∷◌, length, sym, subst, inl, inr, ⊎_elim, arith}
use Rattle.sets.specs.Sets.{Apart}
use Rattle.problem.specs.Firm.{Task}
use Rattle.problem.specs.Problems.{Fits}
use Rattle.store.specs.Positions.{Target, Covers}
use Rattle.store.specs.Stores.{Meaning, Covered}
use Rattle.store.specs.declared.answer.Answer.TheVariants.{Known, Kept, PassedOver}
use Rattle.outlook.specs.Outlooks.{View}
use Rattle.sets.specs.Listed.{Among, Different}
use Rattle.claim.specs.Search.{Question, ActionNames, GoalNames, Open, Next, opening, Event, Search, begins, drops, opens, tells}
use Rattle.claim.proofs.Counting.{Proper}
use Rattle.claim.proofs.Searching.{never_known}

-- each open position is one of the task
abbrev pub AllProper : ℕ → List Open → Type 0
AllProper n [] = Unit {0}
AllProper n (f ∷ fs) = Proper n f.position × AllProper n fs

-- what is kept since the last clear: different positions of the task, all of them covered
pub record Stored (atoms : ℕ) (m : Meaning) : Type 0 where
  pub ks : List Target
  pub different : Different ks
  pub proper : (q : Target) → Among q ks → Proper atoms q
  pub covered : (q : Target) → Among q ks → Covered m q
  pub count : length ks ≡ m.kept

-- an action of a task that fits names atoms of the task
pub action_named : (p : Task) → Fits p → (i : ℕ) → i < p.count → (k : ℕ) → ActionNames (p.at i) k → k < p.atoms
action_named p fits i lt k (inl h) = fits.preconditions i lt k h
action_named p fits i lt k (inr h) = fits.effects i lt h.0 h.1 k h.2

proper_opening : (p : Task) → Fits p → (v : View) (a : Question) → a.limit ≤ 32 → Apart a.goal.need a.goal.avoid
    → ((k : ℕ) → GoalNames a.goal k → k < p.atoms)
    → (m : Meaning) (n : ℕ) (st : List Open) (step : ℕ) (q : Target)
    → Next p v a m n st step q → AllProper p.atoms st → AllProper p.atoms (opening st step q)
proper_opening p fits v a le ap' nm m n [] step q x all =
    let e = x.2 in
    (subst (λ (r : Target). Proper p.atoms r) (sym e) (record { low = omega arith; high = omega (arith, x.0); apart = ap'; named = nm }), tt)
proper_opening p fits v a le ap' nm m n (f ∷ fs) step q x all =
    let d = x.0 in
    let h = all.0 in
    -- the need of q is itself a state that meets q
    let one = d.leads q.goal.need (record { holds = λ _ z. z; lacks = λ j a b. d.apart j b a }) in (
      record {
        low = d.level;
        high = omega (arith, d.lower, h.high);
        apart = d.apart;
        named = λ k y. ⊎_elim (λ z. h.named k z) (λ z. action_named p fits z.0 (one.1.allowed.known z.0 z.1) k z.2) (d.names k y);
      },
      all,
    )

module _ {p : Task} {v : View} {a : Question} {m₀ : Meaning} (fits : Fits p) (le : a.limit ≤ 32) (apart : Apart a.goal.need a.goal.avoid)
    (named : (k : ℕ) → GoalNames a.goal k → k < p.atoms) where
  pub proper : {n : ℕ} {st : List Open} {log : List Event} {m : Meaning} → Search p v a m₀ n st log m → AllProper p.atoms st
  proper begins = tt
  proper (drops s lt fails d) = tt
  proper (opens {n} {st} {m} step q s lt x) = proper_opening p fits v a le apart named m n st step q x (proper s)
  proper (tells f b m' s ex t) = (proper s).1

  pub stored : Stored p.atoms m₀ → {n : ℕ} {st : List Open} {log : List Event} {m : Meaning} → Search p v a m₀ n st log m
      → Stored p.atoms m
  stored h begins = h
  stored h (drops s lt fails d) = stored h s
  stored h (opens step q s lt x) = stored h s
  stored h (tells f Known m' s ex t) = absurd (never_known f s t)
  stored h (tells {m} f Kept m' s ex t) =
      let was = stored h s in
      let q : Target = f.position in
      record {
        ks = q ∷ was.ks;
        different = (λ x. t.0 (was.covered q x), was.different);
        proper = λ r h'. elim h' [ inl e ↦ subst (λ (x : Target). Proper p.atoms x) (sym e) (proper s).0 | inr y ↦ was.proper r y ];
        covered = λ r h'. elim h' [
          | inl e ↦ t.2 r (inr (subst (λ (x : Target). Covers q x) (sym e) (record { level = omega arith; need = λ _ z. z; avoid = λ _ z. z })))
          | inr y ↦ t.2 r (inl (was.covered r y))
        ];
        count = omega (arith, was.count, t.3);
      }
  stored h (tells {m} f PassedOver m' s ex t) =
      let was = stored h s in
      record {
        ks = was.ks;
        different = was.different;
        proper = was.proper;
        covered = λ r y. t.2 r (was.covered r y);
        count = omega (arith, was.count, t.3);
      }
