-- What each move of a search that is under way leads to.
use Rattle.std.proofs.Common.{◌≡◌, ℕ, suc, ◌+◌, ◌<◌, ◌≤◌, List, [], ◌∷◌, length, Some, None, Option, sym, refl, ap, ◌∙◌, subst, inl, inr, ⊎_elim, arith}
use Rattle.problem.specs.Firm.{Task}
use Rattle.problem.specs.Runs.{Goal, Meets}
use Rattle.store.specs.Positions.{Target, at}
use Rattle.store.specs.Stores.{Meaning, Covered, Told}
use Rattle.store.specs.declared.answer.Answer.{Answer}
use Rattle.outlook.specs.Outlooks.{View}
use Rattle.claim.specs.Search.{Question, Due, Dropped, Open, fresh, with_below, Next, Event, opened, told, Exhausted, Search, begins, drops, opens, tells}
use Rattle.claim.specs.Turns.{path}
use Rattle.claim.specs.declared.outcome.Outcome.TheVariants.{Plan, NotWithin, Spent}
use Rattle.claim.proofs.Opening.{Chain}
use Rattle.claim.proofs.Searching.{chain}
use Rattle.planner.specs.Paths.{Held, with_work, steps_of, Begun, Stands, AllStand, Sought, Offered, Gave, Done, Ended}
use Rattle.planner.proofs.Seeking.{all_on, all_told, stands_on, stands_gave, stands_missed, stands_done, stands_begun, due_of, exhausted}

module _ {W : Type 0} (waits : Goal → W → ℕ → ℕ → Type 0) (may : W → ℕ → ℕ → Type 0) (t : Task) (v : View) where
  -- as many are open as are held
  pub held_length : (m : Meaning) (log : List Event) (lower : Option Target) (hs : List (Held W)) (os : List Open)
      → AllStand waits may t v m log lower hs os → length os ≡ length hs
  held_length m log lower [] [] x = refl
  held_length m log lower [] (o ∷ os) x = absurd x
  held_length m log lower (h ∷ hs) [] x = absurd x
  held_length m log lower (h ∷ hs) (o ∷ os) x = ap suc (held_length m log (Some h.position) hs os x.1)

  -- by the same steps
  pub held_steps : (m : Meaning) (log : List Event) (lower : Option Target) (hs : List (Held W)) (os : List Open)
      → AllStand waits may t v m log lower hs os → path os ≡ steps_of hs
  held_steps m log lower [] [] x = refl
  held_steps m log lower [] (o ∷ os) x = absurd x
  held_steps m log lower (h ∷ hs) [] x = absurd x
  held_steps m log lower (h ∷ []) (o ∷ []) x = refl
  held_steps m log lower (h ∷ []) (o ∷ (p ∷ os)) x = absurd x.1
  held_steps m log lower (h ∷ (e ∷ hs)) (o ∷ []) x = absurd x.1
  held_steps m log lower (h ∷ (e ∷ hs)) (o ∷ (p ∷ os)) x =
      ap (λ (k : ℕ). k ∷ path (p ∷ os)) x.0.step ∙ ap (λ (ks : List ℕ). h.step ∷ ks) (held_steps m log (Some h.position) (e ∷ hs) (p ∷ os) x.1)

  -- the one that is told lies one level below the next
  told_lower : (a : Question) (m₀ m : Meaning) (n : ℕ) (o : Open) (os : List Open) (log : List Event) → Search t v a m₀ n (o ∷ os) log m
      → (p : Open) (ps : List Open) → os ≡ p ∷ ps → o.position.level + 1 ≡ p.position.level
  told_lower a m₀ m n o os log s p ps e =
      let c = (chain s).0 in
      let d : Chain n (p ∷ ps) = subst (λ (x : List Open). Chain n x) e c.2 in
      omega (arith, c.0, d.0, ap (λ (x : List Open). length x) e)

  -- where nothing is held nothing is open, and the lowest that is held is the lowest that is open
  none_open : (m : Meaning) (log : List Event) (lower : Option Target) (os : List Open) → AllStand waits may t v m log lower [] os → os ≡ []
  none_open m log lower [] y = refl
  none_open m log lower (o ∷ os) y = absurd y

  pub record Lowest (m : Meaning) (log : List Event) (lower : Option Target) (h : Held W) (hs : List (Held W)) (all : List Open) : Type 0 where
    pub o : Open
    pub os : List Open
    pub is : all ≡ o ∷ os
    pub stands : Stands waits may t v m log lower h o
    pub others : AllStand waits may t v m log (Some h.position) hs os

  pub lowest : (m : Meaning) (log : List Event) (lower : Option Target) (h : Held W) (hs : List (Held W)) (all : List Open)
      → AllStand waits may t v m log lower (h ∷ hs) all → Lowest m log lower h hs all
  lowest m log lower h hs [] y = absurd y
  lowest m log lower h hs (o ∷ os) y = record { o = o; os = os; is = refl; stands = y.0; others = y.1 }

module _ {W : Type 0} {waits : Goal → W → ℕ → ℕ → Type 0} {may : W → ℕ → ℕ → Type 0} {t : Task} {v : View} {a : Question} {m₀ : Meaning} where
  pub seek_none : Sought waits may t v a m₀ m₀ 0 [] 0
  seek_none = record { os = []; log = []; search = begins; stand = tt; counted = refl }

  module _ {m : Meaning} {n k : ℕ} (x : Sought waits may t v a m₀ m n [] k) where
    search_of : Search t v a m₀ n [] x.log m
    search_of = subst (λ (os : List Open). Search t v a m₀ n os x.log m) (none_open waits may t v m x.log None x.os x.stand) x.search

    -- the position of the goal in the next round
    module _ (q : Target) (is : q ≡ at (n + 1) a.goal) (lt : n < a.limit) (fails : Meets a.goal t.first → ⊥) where
      e : suc n ≡ n + 1
      e = omega arith

      of_round : q ≡ at (suc n) a.goal
      of_round = is ∙ ap (λ (j : ℕ). at j a.goal) (sym e)

      -- it is dropped
      pub goal_dropped : Dropped v m q → Sought waits may t v a m₀ m (n + 1) [] k
      goal_dropped d = record {
        os = [];
        log = x.log;
        search = subst (λ (j : ℕ). Search t v a m₀ j [] x.log m) e (drops search_of lt fails (subst (λ (r : Target). Dropped v m r) of_round d));
        stand = tt;
        counted = x.counted;
      }

      module _ (d : Dropped v m q → ⊥) where
        next : Next t v a m n [] 0 q
        next = (lt, fails, of_round, d)

        -- or opened
        pub goal_opened : (w : W) → k < a.budget → Begun waits may t q.goal w
            → Sought waits may t v a m₀ m (n + 1) (record { position = q; step = 0; work = w } ∷ []) (k + 1)
        goal_opened w room begun = record {
          os = fresh 0 q ∷ [];
          log = opened 0 q ∷ x.log;
          search = subst (λ (j : ℕ). Search t v a m₀ j (fresh 0 q ∷ []) (opened 0 q ∷ x.log) m) e (opens 0 q search_of (omega (arith, room, x.counted)) next);
          stand = (stands_begun waits may t v m (opened 0 q ∷ x.log) q 0 w begun, tt);
          counted = omega (arith, x.counted);
        }

        -- or the budget does not suffice for it
        pub goal_spent : k ≡ a.budget → Ended t v a m₀ m Spent [] k 0
        goal_spent full = record {
          round = n;
          os = [];
          log = x.log;
          search = search_of;
          ends = (refl, sym x.counted ∙ full, (0, q, next));
          counted = x.counted;
          remain = refl;
        }

    -- every round failed
    pub all_failed : n ≡ a.limit → (Meets a.goal t.first → ⊥) → Ended t v a m₀ m NotWithin [] k 0
    all_failed e fails =
        record { round = n; os = []; log = x.log; search = search_of; ends = (refl, refl, e, fails); counted = x.counted; remain = refl }

  module _ {m : Meaning} {n k : ℕ} {h : Held W} {hs : List (Held W)} where
    module _ (x : Sought waits may t v a m₀ m n (h ∷ hs) k) where
      low : Lowest waits may t v m x.log None h hs x.os
      low = lowest waits may t v m x.log None h hs x.os x.stand

      low_search : Search t v a m₀ n (low.o ∷ low.os) x.log m
      low_search = subst (λ (os : List Open). Search t v a m₀ n os x.log m) low.is x.search

      -- the search goes on where the lowest position has other work left, and stands so
      left_with : (w : W) → Stands waits may t v m x.log None (with_work h w) low.o → Sought waits may t v a m₀ m n (with_work h w ∷ hs) k
      left_with w st = record { os = low.o ∷ low.os; log = x.log; search = low_search; stand = (st, low.others); counted = x.counted }

    -- the lowest position gave one that is to be dropped
    pub gave_dropped : (l step : ℕ) (q : Goal) (w : W) → 1 ≤ l → l + 1 ≡ h.position.level → Gave waits may t v l h.position.goal h.work step q w
        → Dropped v m (at l q) → Sought waits may t v a m₀ m n (h ∷ hs) k → Sought waits may t v a m₀ m n (with_work h w ∷ hs) k
    gave_dropped l step q w le e gave d x =
        left_with x w (stands_on waits may t v m m x.log x.log (Some (at l q)) None (with_work h w) (low x).o (λ s z. z)
        (λ s z. inl (at l q, e, z, ⊎_elim inl (λ c. inr (inl c)) d)) (stands_gave waits may t v m x.log l h (low x).o step q w le e gave (low x).stands))

    -- the lowest, of level 1, gave one that the first state does not meet
    pub gave_missed : (l step : ℕ) (q : Goal) (w : W) → l ≡ 0 → l + 1 ≡ h.position.level → Gave waits may t v l h.position.goal h.work step q w
        → (Meets q t.first → ⊥) → Sought waits may t v a m₀ m n (h ∷ hs) k → Sought waits may t v a m₀ m n (with_work h w ∷ hs) k
    gave_missed l step q w z e gave missed x =
        left_with x w (stands_missed waits may t v m x.log l h (low x).o step q w z e gave missed (low x).stands)

    -- or one that it meets: a plan is found
    pub gave_found : (l step : ℕ) (q : Goal) (w : W) → l ≡ 0 → l + 1 ≡ h.position.level
        → Gave waits may t v l h.position.goal h.work step q w
        → Meets q t.first → Sought waits may t v a m₀ m n (h ∷ hs) k
        → Ended t v a m₀ m Plan (step ∷ steps_of (h ∷ hs)) k (length (h ∷ hs))
    gave_found l step q w z e gave meets x =
        let y = low x in
        let d = gave.leads t.first meets in
        let same = y.stands.position in
        let stand : AllStand waits may t v m x.log None (h ∷ hs) (y.o ∷ y.os) = (y.stands, y.others) in
        record {
          round = n;
          os = y.o ∷ y.os;
          log = x.log;
          search = low_search x;
          ends = (
            ap (λ (r : Target). r.level) same ∙ omega (arith, z, e),
            (
              step,
              d.0,
              d.1,
              subst (λ (r : Target). Meets r.goal d.0) (sym same) d.2,
              ap (λ (ks : List ℕ). step ∷ ks) (sym (held_steps waits may t v m x.log None (h ∷ hs) (y.o ∷ y.os) stand)),
            ),
          );
          counted = x.counted;
          remain = sym (held_length waits may t v m x.log None (h ∷ hs) (y.o ∷ y.os) stand);
        }

    -- the lowest gave one that is not to be dropped
    pub gave_offered : (l step : ℕ) (q : Goal) (w : W) → 1 ≤ l → l + 1 ≡ h.position.level
        → Gave waits may t v l h.position.goal h.work step q w
        → (Dropped v m (at l q) → ⊥) → Sought waits may t v a m₀ m n (h ∷ hs) k → Offered waits may t v a m₀ m n (with_work h w) hs k step (at l q)
    gave_offered l step q w le e gave d x =
        let y = low x in
        let due = due_of waits may t v l h.position h.work step q w le e gave in
        record {
          os = y.o ∷ y.os;
          log = x.log;
          search = low_search x;
          stand = (stands_gave waits may t v m x.log l h y.o step q w le e gave y.stands, y.others);
          counted = x.counted;
          next = (subst (λ (r : Target). Due t r step (at l q)) (sym y.stands.position) due, (λ among. y.stands.once step (at l q) among gave.came), d);
          never_again = gave.never_again;
        }

    -- the lowest gave nothing more
    pub gave_nothing : (l : ℕ) (w : W) → l + 1 ≡ h.position.level → ((step need : ℕ) → may w step need → ⊥)
        → Done waits may t v l h.position.goal h.work → Sought waits may t v a m₀ m n (h ∷ hs) k → Sought waits may t v a m₀ m n (with_work h w ∷ hs) k
    gave_nothing l w e none done x = left_with x w (stands_done waits may t v m x.log l h (low x).o w e none done (low x).stands)

    -- what is offered is opened
    pub offered_opened : (step : ℕ) (q : Target) (w : W) → Offered waits may t v a m₀ m n h hs k step q → k < a.budget → Begun waits may t q.goal w
        → Sought waits may t v a m₀ m n (record { position = q; step = step; work = w } ∷ (h ∷ hs)) (k + 1)
    offered_opened step q w x room begun =
        let y = lowest waits may t v m x.log (Some q) h hs x.os x.stand in
        let st = y.stands in
        let log : List Event = opened step q ∷ x.log in
        let both = subst (λ (os : List Open). Search t v a m₀ n os x.log m × Next t v a m n os step q) y.is (x.search, x.next) in
        record {
          os = fresh step q ∷ (with_below y.o step q ∷ y.os);
          log = log;
          search = opens step q both.0 (omega (arith, room, x.counted)) both.1;
          stand = (
            stands_begun waits may t v m log q step w begun,
            (
              record {
                position = st.position;
                step = st.step;
                once = λ i r among my. elim among [
                  | inl same ↦ x.never_again (subst (λ (y : ℕ × Target). may h.work y.0 y.1.goal.need) same my)
                  | inr was ↦ st.once i r was my
                ];
                above = st.above;
                first = st.first;
              },
              all_on waits may t v m m x.log log (Some h.position) hs y.os (λ l s' z. z) y.others,
            ),
          );
          counted = omega (arith, x.counted);
        }

    -- or the budget does not suffice for it
    pub offered_spent : (step : ℕ) (q : Target) → Offered waits may t v a m₀ m n h hs k step q → k ≡ a.budget
        → Ended t v a m₀ m Spent [] k (length (h ∷ hs))
    offered_spent step q x full = record {
      round = n;
      os = x.os;
      log = x.log;
      search = x.search;
      ends = (refl, sym x.counted ∙ full, (step, q, x.next));
      counted = x.counted;
      remain = sym (held_length waits may t v m x.log (Some q) (h ∷ hs) x.os x.stand);
    }

    -- the lowest has no work left and is told
    pub lowest_told : (l : ℕ) (b : Answer) (m' : Meaning) → l + 1 ≡ h.position.level → Done waits may t v l h.position.goal h.work
        → Told m h.position b m' → Sought waits may t v a m₀ m n (h ∷ hs) k → Sought waits may t v a m₀ m' n hs k
    lowest_told l b m' e done tell x =
        let y = low x in
        let same = y.stands.position in
        let ex = exhausted waits may t v m x.log l h y.o e done y.stands in
        record {
          os = y.os;
          log = told y.o.position b ∷ x.log;
          search = tells y.o b m' (low_search x) (subst (λ (r : Target). Exhausted t v (Covered m) x.log r) (sym same) ex)
              (subst (λ (r : Target). Told m r b m') (sym same) tell);
          stand = subst (λ (r : Target). AllStand waits may t v m' (told r b ∷ x.log) None hs y.os) (sym same)
              (all_told waits may t v m m' x.log b h.position hs y.os tell
              (λ p ps is. ap (λ (r : Target). r.level + 1) (sym same) ∙ told_lower waits may t v a m₀ m n y.o y.os x.log (low_search x) p ps is) y.others);
          counted = x.counted;
        }
