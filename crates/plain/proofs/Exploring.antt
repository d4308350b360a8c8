-- What a breadth-first search knows once it has looked at the first entries.
use Rattle.std.proofs.Common.{◌≡◌, ℕ, ◌+◌, ◌<◌, ◌≤◌, List, length, sym, refl, subst, inr, ⊎_elim, arith}
use native.Mathlib.Decide.{ℕ_discrete}
use Rattle.std.proofs.lemmas.Bool.{cases_lt}
use Rattle.sets.proofs.Members.{not_in_none}
use Rattle.problem.specs.Firm.{Task, FirmStep}
use Rattle.problem.specs.Runs.{Run, start, more, Goal, Meets, Unreached}
use Rattle.plain.specs.Trees.{entry, Known, LeadTo}
use Rattle.plain.specs.Growth.{rows_of, TreeOf, Growing, Grows}
use Rattle.plain.specs.Searches.{Solves}
use Rattle.plain.specs.declared.reached.Reached.{Reached}
use Rattle.plain.specs.declared.tree.Tree.{Tree}
use Rattle.problem.proofs.Running.{one_end, empty_firm}
use Rattle.plain.proofs.Trees.{known_front, known_entry}

-- every firm step out of the entry e, unless it lies at the limit, leads to a state that is known
abbrev pub Followed : Task → ℕ → List Reached → Reached → Type 0
Followed t limit rows e = e.depth < limit → (step end : ℕ) → FirmStep t e.state step end → Known rows end (e.depth + 1)

-- the entries before next do not meet the goal, and all were followed; no entry is more than one step deeper than next
pub record Explored (t : Task) (g : Goal) (limit most : ℕ) (tree : Tree) (next : ℕ) : Type 0 where
  pub sound : TreeOf t limit most tree
  pub some : 0 < length (rows_of tree)
  pub reaches : next ≤ length (rows_of tree)
  pub ahead : next < length (rows_of tree) → (j : ℕ) → j < length (rows_of tree) → (entry (rows_of tree) j).depth ≤ (entry (rows_of tree) next).depth + 1
  pub followed : (i : ℕ) → i < next → Followed t limit (rows_of tree) (entry (rows_of tree) i)
  pub unmet : (i : ℕ) → i < next → Meets g (entry (rows_of tree) i).state → ⊥

module _ (t : Task) (g : Goal) (limit most : ℕ) where
  pub explored_none : (tree : Tree) → Growing t limit most tree 0 → Explored t g limit most tree 0
  explored_none tree w = record {
    sound = w.sound;
    some = w.known;
    reaches = omega arith;
    ahead = λ _. w.ahead;
    followed = λ i lt. absurd (let z : ⊥ = omega arith in z);
    unmet = λ i lt. absurd (let z : ⊥ = omega arith in z);
  }

  module _ (a : Tree) (next : ℕ) (x : Explored t g limit most a next) where
    pub explored_growing : next < length (rows_of a) → Growing t limit most a next
    explored_growing lt = record { sound = x.sound; known = lt; ahead = x.ahead lt }

    -- a run no longer than d ends in a known state, if all entries less deep than d were followed
    known_run : (d : ℕ) → d ≤ limit → ((j : ℕ) → j < length (rows_of a) → (entry (rows_of a) j).depth < d → j < next)
        → (k s : ℕ) → k ≤ d → Run t k s → Known (rows_of a) s k
    known_run d le before _ _ short start = let r = x.sound.grown.root x.some in (0, x.some, r.0, omega (arith, r.1))
    known_run d le before _ _ short (more {n = n} {before = b} step end run f) =
        let k = known_run d le before n b (omega arith) run in
        let j : ℕ = k.0 in
        let r = x.followed j (before j k.1 (omega (arith, k.3))) (omega (arith, k.3)) step end
        (subst (λ (y : ℕ). FirmStep t y step end) (sym k.2) f) in
        (r.0, r.1, r.2, omega (arith, r.3, k.3))

    -- and so does not meet the goal, if all entries as deep as it was long were looked at
    unmet_run : (d : ℕ) → d ≤ limit → ((j : ℕ) → j < length (rows_of a) → (entry (rows_of a) j).depth < d → j < next)
        → (k s : ℕ) → k ≤ d → ((j : ℕ) → j < length (rows_of a) → (entry (rows_of a) j).depth ≤ k → j < next) → Run t k s → Meets g s → ⊥
    unmet_run d le before k s short looked run meets =
        let r = known_run d le before k s short run in
        x.unmet r.0 (looked r.0 r.1 r.3) (subst (λ (y : ℕ). Meets g y) (sym r.2) meets)

    pub none_reached : length (rows_of a) ≤ next → Unreached t limit g
    none_reached all k s le run = unmet_run limit (omega arith) (λ j lt _. omega arith) k s le (λ j lt _. omega arith) run

    pub solves : next < length (rows_of a) → Meets g (entry (rows_of a) next).state → (steps : List ℕ) → LeadTo (rows_of a) next steps
        → Solves t g limit steps
    solves lt meets steps lead =
        let l = lead t limit x.sound.grown in
        let deep : ℕ = (entry (rows_of a) next).depth in
        let shallow = x.sound.grown.shallow next lt in
        let before : (j : ℕ) → j < length (rows_of a) → (entry (rows_of a) j).depth < deep → j < next =
        λ j l' less. ⊎_elim (λ b. b) (λ ge. absurd (let z : ⊥ = omega (arith, x.sound.grown.rising next j ge l') in z)) (cases_lt j next) in
        record {
          end = (entry (rows_of a) next).state;
          leads = l.0;
          meets = meets;
          within = omega (arith, l.1);
          shortest = λ k s less run. unmet_run deep shallow before k s (omega (arith, l.1)) (λ j l' le. before j l' (omega (arith, l.1))) run;
        }

    module _ (few : t.count ≤ 64) (b : Tree) (lt : next < length (rows_of a)) (w : Grows t limit most a next 0 0 b) where
      -- an entry stays followed
      still : (i : ℕ) → i < length (rows_of a) → Followed t limit (rows_of a) (entry (rows_of a) i)
          → Followed t limit (rows_of b) (entry (rows_of b) i)
      still i l f = rw (w.1 i l).1 (λ room step end firm. known_front (rows_of a) (rows_of b) end _ w.1 (f room step end firm))

      -- and now next is: by the empty step it leads to itself
      here : Followed t limit (rows_of b) (entry (rows_of b) next)
      here = rw (w.1 next lt).1 (λ room step end firm. elim (ℕ_discrete step 0) [
        | yes e ↦ (
            let s : ℕ = (entry (rows_of a) next).state in
            let same : s ≡ end = one_end t s 0 s end few (empty_firm t s) (subst (λ (y : ℕ). FirmStep t s y end) e firm) in
            subst (λ (y : ℕ). Known (rows_of b) y ((entry (rows_of a) next).depth + 1)) same
            (known_front (rows_of a) (rows_of b) s _ w.1 (known_entry (rows_of a) next _ lt (omega arith))))
        | no ne ↦ w.2 room step end ((λ k h. absurd (not_in_none 0 k refl h)), (λ k h. inr (omega arith)), ne) firm
      ])

      pub explored_more : (Meets g (entry (rows_of a) next).state → ⊥) → Explored t g limit most b (next + 1)
      explored_more unmet = record {
        sound = w.0.sound;
        some = omega (arith, w.0.known);
        reaches = omega (arith, w.0.known);
        ahead = λ l j m. omega (arith, w.0.ahead j m, w.0.sound.grown.rising next (next + 1) (omega arith) l);
        followed = λ i l. ⊎_elim
            (λ old. still i (omega arith) (x.followed i old))
            (λ ge. (let e : next ≡ i = omega arith in subst (λ (y : ℕ). Followed t limit (rows_of b) (entry (rows_of b) y)) e here))
            (cases_lt i next);
        unmet = λ i l. ⊎_elim
            (λ old. rw (w.1 i (omega arith)).1 (x.unmet i old))
            (λ ge. (let e : i ≡ next = omega arith in rw e (rw (w.1 next lt).1 unmet)))
            (cases_lt i next);
      }
