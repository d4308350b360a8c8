-- The steps of a search that is under way, over the list of the positions that it holds.
use Rattle.std.proofs.Common.{◌≡◌, ℕ, ◌+◌, ◌≤◌, ◌⊎◌, List, [], ◌∷◌, Some, None, Option, sym, refl, ap, ◌∙◌, subst, inl, inr, ⊎_elim, arith}
use Rattle.problem.specs.Firm.{Task}
use Rattle.problem.specs.Runs.{Goal, Meets}
use Rattle.store.specs.Positions.{Target, at}
use Rattle.store.specs.Stores.{Meaning, Covered, Told}
use Rattle.store.specs.declared.answer.Answer.{Answer}
use Rattle.store.specs.declared.answer.Answer.TheVariants.{Known, Kept, PassedOver}
use Rattle.outlook.specs.Outlooks.{View}
use Rattle.claim.specs.Search.{Due, Open, fresh, Event, told, WasTold, Exhausted}
use Rattle.planner.specs.Paths.{Handled, MeetsSome, MeetsPruned, Held, with_work, Begun, Stands, AllStand, Gave, Done}

-- a store that is told something still covers what it covered
pub told_grows : (m : Meaning) (q : Target) (b : Answer) (m' : Meaning) → Told m q b m' → (r : Target) → Covered m r → Covered m' r
told_grows m q Known m' h r c = subst (λ (x : Meaning). Covered x r) (sym h.1) c
told_grows m q Kept m' h r c = h.2 r (inl c)
told_grows m q PassedOver m' h r c = h.2 r c

-- what is handled stays handled
handled_grows : (v : View) (m m' : Meaning) (log log' : List Event) → ((r : Target) → Covered m r → Covered m' r)
    → ((r : Target) → WasTold r log → WasTold r log') → (l s : ℕ) → Handled v m log l s → Handled v m' log' l s
handled_grows v m m' log log' f g l s h =
    (h.0, h.1, h.2, elim h.3 [ inl b ↦ inl b | inr (inl c) ↦ inr (inl (f h.0 c)) | inr (inr w) ↦ inr (inr (g h.0 w)) ])

-- a state that meets a goal to be dropped is handled above level 1, and is not the first one at level 1
pruned_handled : (t : Task) (v : View) (m : Meaning) (log : List Event) (l s : ℕ) → 1 ≤ l → MeetsPruned t v l s → Handled v m log (l + 1) s
pruned_handled t v m log l s le h = (at l h.0, refl, h.2, elim h.1 [ inl z ↦ absurd (let e : ⊥ = omega (arith, z.0) in e) | inr b ↦ inl b.1.2 ])

pruned_first : (t : Task) (v : View) → MeetsPruned t v 0 t.first → ⊥
pruned_first t v h = elim h.1 [ inl z ↦ z.1 h.2 | inr b ↦ absurd (let e : ⊥ = omega (arith, b.0) in e) ]

-- what it takes for what stands to go on standing
module _ {W : Type 0} (waits : Goal → W → ℕ → ℕ → Type 0) (may : W → ℕ → ℕ → Type 0) (t : Task) (v : View) where
  pub stands_on : (m m' : Meaning) (log log' : List Event) (lower lower' : Option Target) (h : Held W) (o : Open)
      → ((s : ℕ) → Handled v m log h.position.level s → Handled v m' log' h.position.level s)
      → ((s : ℕ) → MeetsSome lower s → Handled v m' log' h.position.level s ⊎ MeetsSome lower' s)
      → Stands waits may t v m log lower h o → Stands waits may t v m' log' lower' h o
  stands_on m m' log log' lower lower' h o f g st = record {
    position = st.position;
    step = st.step;
    once = st.once;
    above = λ lt s step end firm meets. elim (st.above lt s step end firm meets) [
      | inl a ↦ inl (f s a)
      | inr (inl b) ↦ inr (inl b)
      | inr (inr c) ↦ ⊎_elim inl (λ x. inr (inr x)) (g s c)
    ];
    first = st.first;
  }

  pub all_on : (m m' : Meaning) (log log' : List Event) (lower : Option Target) (hs : List (Held W)) (os : List Open)
      → ((l s : ℕ) → Handled v m log l s → Handled v m' log' l s)
      → AllStand waits may t v m log lower hs os → AllStand waits may t v m' log' lower hs os
  all_on m m' log log' lower [] [] f x = tt
  all_on m m' log log' lower [] (o ∷ os) f x = x
  all_on m m' log log' lower (h ∷ hs) [] f x = x
  all_on m m' log log' lower (h ∷ hs) (o ∷ os) f x = (
    stands_on m m' log log' lower lower h o (f h.position.level) (λ s y. inr y) x.0,
    all_on m m' log log' (Some h.position) hs os f x.1,
  )

  -- once the lowest is told, what lies above it goes on without it
  pub all_told : (m m' : Meaning) (log : List Event) (b : Answer) (q : Target) (hs : List (Held W)) (os : List Open)
      → Told m q b m'
      → ((o : Open) (os' : List Open) → os ≡ o ∷ os' → q.level + 1 ≡ o.position.level)
      → AllStand waits may t v m log (Some q) hs os → AllStand waits may t v m' (told q b ∷ log) None hs os
  all_told m m' log b q [] [] tell lower x = tt
  all_told m m' log b q [] (o ∷ os) tell lower x = x
  all_told m m' log b q (h ∷ hs) [] tell lower x = x
  all_told m m' log b q (h ∷ hs) (o ∷ os) tell lower x =
      let on : (l s : ℕ) → Handled v m log l s → Handled v m' (told q b ∷ log) l s =
      handled_grows v m m' log (told q b ∷ log) (told_grows m q b m' tell) (λ r w. inr w) in
      let e : q.level + 1 ≡ h.position.level = lower o os refl ∙ ap (λ (r : Target). r.level) x.0.position in (
        stands_on m m' log (told q b ∷ log) (Some q) None h o (on h.position.level) (λ s y. inl (q, e, y, inr (inr (inl refl)))) x.0,
        all_on m m' log (told q b ∷ log) (Some h.position) hs os on x.1,
      )

  -- where the work gave q, the position stands above it; or, at level 1, without it, unless the first state meets q
  pub stands_gave : (m : Meaning) (log : List Event) (l : ℕ) (h : Held W) (o : Open) (step : ℕ) (q : Goal) (w : W) → 1 ≤ l → l + 1 ≡ h.position.level
      → Gave waits may t v l h.position.goal h.work step q w
      → Stands waits may t v m log None h o → Stands waits may t v m log (Some (at l q)) (with_work h w) o
  stands_gave m log l h o step q w le e gave st = record {
    position = st.position;
    step = st.step;
    once = λ x r among my. st.once x r among (gave.less x r.goal.need my);
    above = λ lt s x end firm meets. elim (st.above lt s x end firm meets) [
      | inl a ↦ inl a
      | inr (inl p) ↦ elim (gave.keeps s p.0 p.1) [
        | inl y ↦ inr (inl (p.0, y))
        | inr (inl y) ↦ inr (inr y)
        | inr (inr y) ↦ inl (subst (λ (k : ℕ). Handled v m log k s) e (pruned_handled t v m log l s le y))
      ]
      | inr (inr z) ↦ absurd z
    ];
    first = λ one. absurd (let z : ⊥ = omega (arith, one, e, le) in z);
  }

  pub stands_missed : (m : Meaning) (log : List Event) (l : ℕ) (h : Held W) (o : Open) (step : ℕ) (q : Goal) (w : W) → l ≡ 0 → l + 1 ≡ h.position.level
      → Gave waits may t v l h.position.goal h.work step q w → (Meets q t.first → ⊥)
      → Stands waits may t v m log None h o → Stands waits may t v m log None (with_work h w) o
  stands_missed m log l h o step q w zero e gave missed st = record {
    position = st.position;
    step = st.step;
    once = λ x r among my. st.once x r among (gave.less x r.goal.need my);
    above = λ lt. absurd (let z : ⊥ = omega (arith, lt, e, zero) in z);
    first = λ one x end firm meets.
        let p = st.first one x end firm meets in
        elim (gave.keeps t.first p.0 p.1) [
          | inl y ↦ (p.0, y)
          | inr (inl y) ↦ absurd (missed y)
          | inr (inr y) ↦ absurd (pruned_first t v (subst (λ (k : ℕ). MeetsPruned t v k t.first) zero y))
        ];
  }

  -- where nothing more comes, the position stands without its work
  pub stands_done : (m : Meaning) (log : List Event) (l : ℕ) (h : Held W) (o : Open) (w : W) → l + 1 ≡ h.position.level
      → ((step need : ℕ) → may w step need → ⊥) → Done waits may t v l h.position.goal h.work
      → Stands waits may t v m log None h o → Stands waits may t v m log None (with_work h w) o
  stands_done m log l h o w e none done st = record {
    position = st.position;
    step = st.step;
    once = λ x r among my. absurd (none x r.goal.need my);
    above = λ lt s x end firm meets. elim (st.above lt s x end firm meets) [
      | inl a ↦ inl a
      | inr (inl p) ↦ inl (subst (λ (k : ℕ). Handled v m log k s) e (pruned_handled t v m log l s (omega (arith, lt, e)) (done s p.0 p.1)))
      | inr (inr z) ↦ absurd z
    ];
    first = λ one x end firm meets.
        let p = st.first one x end firm meets in
        let z : l ≡ 0 = omega (arith, one, e) in
        absurd (pruned_first t v (subst (λ (k : ℕ). MeetsPruned t v k t.first) z (done t.first p.0 p.1)));
  }

  -- a position on which work begins
  pub stands_begun : (m : Meaning) (log : List Event) (q : Target) (step : ℕ) (w : W) → Begun waits may t q.goal w
      → Stands waits may t v m log None (record { position = q; step = step; work = w }) (fresh step q)
  stands_begun m log q step w begun = record {
    position = refl;
    step = refl;
    once = λ x r among. absurd among;
    above = λ _ s x end firm meets. inr (inl (begun s x end firm meets));
    first = λ _ x end firm meets. begun t.first x end firm meets;
  }

  -- what was given is due
  pub due_of : (l : ℕ) (p : Target) (w : W) (step : ℕ) (q : Goal) (w' : W) → 1 ≤ l → l + 1 ≡ p.level
      → Gave waits may t v l p.goal w step q w' → Due t p step (at l q)
  due_of l p w step q w' le e gave = record {
    level = le;
    lower = e;
    apart = gave.apart;
    leads = gave.leads;
    names = gave.names;
  }

  -- where nothing more comes, the position is exhausted
  pub exhausted : (m : Meaning) (log : List Event) (l : ℕ) (h : Held W) (o : Open) → l + 1 ≡ h.position.level
      → Done waits may t v l h.position.goal h.work → Stands waits may t v m log None h o
      → Exhausted t v (Covered m) log h.position
  exhausted m log l h o e done st = (
    (λ one step end firm meets.
        let p = st.first one step end firm meets in
        let z : l ≡ 0 = omega (arith, one, e) in
        pruned_first t v (subst (λ (k : ℕ). MeetsPruned t v k t.first) z (done t.first p.0 p.1))),
    λ lt s step end firm meets. elim (st.above lt s step end firm meets) [
      | inl a ↦ a
      | inr (inl p) ↦ subst (λ (k : ℕ). Handled v m log k s) e (pruned_handled t v m log l s (omega (arith, lt, e)) (done s p.0 p.1))
      | inr (inr z) ↦ absurd z
    ],
  )
