-- The examples.
use Rattle.std.proofs.Common.{◌≡◌, ℕ, zero, suc, ◌+◌, ◌<◌, ◌≤◌, Bool, true, false, ◌&&◌, T, eqb, leb, ◌⊎◌, List, [], ◌∷◌, sym, refl, ap, ◌∙◌, subst, inl, inr, arith, le→leb, eqb→eq, leb→le}
use lib.Bits.{bit_and}
use lib.Count.{ones-le}
use lib.Dec.{eqb_refl}
use Rattle.sets.specs.Sets.{bit, Has, Apart, Within, minus}
use Rattle.sets.proofs.Bits.{and_inside, inside_and}
use Rattle.sets.proofs.Members.{below_within, not_in_none, bit_one}
use Rattle.problem.specs.Actions.{Among as OfEffects}
use Rattle.problem.specs.Rows.{names_of}
use Rattle.problem.specs.Firm.{Task, OrderOf, Runs, FirmStep}
use Rattle.problem.specs.Runs.{Run, start, more, Goal, Meets}
use Rattle.problem.specs.Problems.{Fits}
use Rattle.problem.specs.declared.rows.EffectRow.{EffectRow}
use Rattle.store.specs.Positions.{Target, at, Covers}
use Rattle.store.specs.Stores.{Meaning, Covered, Blank, Told}
use Rattle.store.specs.declared.answer.Answer.TheVariants.{Kept, PassedOver}
use Rattle.outlook.specs.Outlooks.{Lawful}
use Rattle.claim.specs.Search.{Due, Dropped, fresh, with_below, Event, opened, told, opened_in, Search, begins, drops, opens, tells, Exhausted}
use Rattle.claim.specs.Turns.{NamedBelow, Passes, plan_checks, Turns}
use Rattle.claim.specs.Examples.{hopeless, easy, nothing_barred, all_barred, passed_over, one_kept, asked, NotWithinTwo, SpentAtTwo, PlanOfOne, NeverThenDeclined, first_turn, FiveTurns}
use Rattle.problem.proofs.Running.{empty_firm}

-- the sets of the examples: none, and the one atom
none : (k : ℕ) → Has 0 k → ⊥
none k h = not_in_none 0 k refl h

only_zero : (k : ℕ) → Has 1 k → k ≡ 0
only_zero k h = omega (arith, below_within 1 1 (omega arith) k h)

hopeless_fits : Fits hopeless
hopeless_fits = record {
  some_atom = omega arith;
  few_atoms = omega arith;
  some_hand = omega arith;
  few_hands = omega arith;
  first = λ k h. absurd (none k h);
  few_actions = omega arith;
  few_effects = λ k lt. omega arith;
  preconditions = λ k lt j h. absurd (none j h);
  effects = λ k lt e h. absurd h;
}

easy_fits : Fits easy
easy_fits = record {
  some_atom = omega arith;
  few_atoms = omega arith;
  some_hand = omega arith;
  few_hands = omega arith;
  first = λ k h. absurd (none k h);
  few_actions = omega arith;
  few_effects = λ k lt. omega arith;
  preconditions = λ k lt j h. absurd (none j h);
  effects = λ k lt e h. ⊎_one e h;
}
  where
    ⊎_one : (e : EffectRow) → OfEffects e (record { condition = 0; add = 1; delete = 0 } ∷ []) → Within 1 (names_of e)
    ⊎_one e (inl x) = subst (λ (y : EffectRow). Within 1 (names_of y)) (sym x) (below_within 1 1 (omega arith))
    ⊎_one e (inr x) = absurd x

-- without actions a firm step ends where it starts
stays : (s step end : ℕ) → FirmStep hopeless s step end → s ≡ end
stays s step end f = f.firm [] (record { once = tt; all = λ k h. absurd (no_action k h); only = λ k h. absurd h })
  where
    no_action : (k : ℕ) → Has step k → ⊥
    no_action k h = let z : k < 0 = f.allowed.known k h in omega arith

barring_nothing : (p : Task) → Lawful p nothing_barred
barring_nothing p = record {
  both = λ n a b. refl;
  level = λ n k s a b r x. x.4;
  closing = λ c k s e r x. x.4;
  among = λ c e. let z : ◌≡◌ {A = ℕ} 0 1 = cc in absurd (let y : ⊥ = omega arith in y);
}

abbrev the_goal : Goal
the_goal = record { need = 1; avoid = 0 }

unmet : Meets the_goal 0 → ⊥
unmet m = none 0 (m.holds 0 (bit_one 0))

empty : Blank (passed_over 0)
empty = record { nothing = λ q c. c; kept = refl; passed = refl }

nothing_dropped : (n : ℕ) (q : Target) → Dropped nothing_barred (passed_over n) q → ⊥
nothing_dropped n q (inl b) = b.4
nothing_dropped n q (inr c) = c

passing : (n : ℕ) (q : Target) → Told (passed_over n) q PassedOver (passed_over (n + 1))
passing n q = ((λ c. c), (λ r c. c), (λ r c. c), refl, refl)

-- the goal is fit to be asked
below_one : (m : ℕ) → m ≡ 1 → (NamedBelow m the_goal → ⊥) → ⊥
below_one m one x = x ((λ j h. omega (arith, only_zero j h)), (λ j h. absurd (none j h)))

not_shared : (Apart 1 0 → ⊥) → ⊥
not_shared x = x (λ j h h'. none j h')

fine : (p : Task) → p.atoms ≡ 1 → (m : Meaning) → m.kept ≤ 10 → m.passed ≤ 10 → (limit budget : ℕ) → limit ≤ 10 → budget ≤ 10
    → Passes (plan_checks p m (asked limit budget) limit)
fine p one m k l limit budget small few =
    (below_one p.atoms one, (not_shared, ((λ x. omega arith), ((λ x. omega arith), ((λ x. omega arith), ((λ x. omega arith), tt))))))

-- no step is left for the goal at level 1, since no step does anything
first_round : (m : Meaning) (log : List Event) → Exhausted hopeless nothing_barred (Covered m) log (at 1 the_goal)
first_round m log = (
  (λ e step end f meets. unmet (subst (λ (x : ℕ). Meets the_goal x) (sym (stays 0 step end f)) meets)),
  λ h. absurd (let z : ⊥ = omega arith in z),
)

below_two : (p : Task) → Due p (at 2 the_goal) 0 (at 1 the_goal)
below_two p = record {
  level = omega arith;
  lower = refl;
  apart = λ k h h'. none k h';
  leads = λ s meets. (s, empty_firm p s, meets);
  names = λ k h. inl h;
}

-- the goal at level 1 is opened and told, and then it is opened at level 2
two_opened : (budget : ℕ) → 2 ≤ budget
    → (log : List Event)
    × Search hopeless nothing_barred (asked 2 budget) (passed_over 0) 2 (fresh 0 (at 2 the_goal) ∷ []) log (passed_over 1)
    × (opened_in log ≡ 2)
two_opened budget enough = (
  opened 0 (at 2 the_goal) ∷ (told (at 1 the_goal) PassedOver ∷ (opened 0 (at 1 the_goal) ∷ [])),
  opens 0 (at 2 the_goal)
      (tells (fresh 0 (at 1 the_goal)) PassedOver (passed_over 1)
      (opens 0 (at 1 the_goal) begins (omega arith) (omega arith, unmet, refl, nothing_dropped 0 (at 1 the_goal)))
      (first_round (passed_over 0) (opened 0 (at 1 the_goal) ∷ [])) (passing 0 (at 1 the_goal)))
      (omega arith) (omega arith, unmet, refl, nothing_dropped 1 (at 2 the_goal)),
  refl,
)

pub not_within_two : NotWithinTwo
not_within_two =
    let s = two_opened 5 (omega arith) in (
      hopeless_fits,
      (
        empty,
        barring_nothing hopeless,
        (
          fine hopeless refl (passed_over 0) (omega arith) (omega arith) 2 5 (omega arith) (omega arith),
          record {
            not_shut = λ x. x.2.4;
            round = 2;
            st = [];
            log = told (at 2 the_goal) PassedOver ∷ (told (at 1 the_goal) PassedOver ∷ (opened 0 (at 1 the_goal) ∷ s.0));
            plan = [];
            search =
                tells (with_below (fresh 0 (at 2 the_goal)) 0 (at 1 the_goal)) PassedOver (passed_over 3)
                (tells (fresh 0 (at 1 the_goal)) PassedOver (passed_over 2)
                (opens 0 (at 1 the_goal) s.1 (omega (arith, s.2)) (below_two hopeless, (λ x. x), nothing_dropped 1 (at 1 the_goal)))
                (first_round (passed_over 1) (opened 0 (at 1 the_goal) ∷ s.0)) (passing 1 (at 1 the_goal))) (
                  (λ e. absurd (let z : ⊥ = omega arith in z)),
                  λ h x step end f meets.
                      (at 1 the_goal, refl, subst (λ (y : ℕ). Meets the_goal y) (sym (stays x step end f)) meets, inr (inr (inl refl))),
                )
                (passing 2 (at 2 the_goal));
            ends = (refl, refl, refl, unmet);
            steps = refl;
            written = refl;
            opened = omega (arith, s.2);
            left = refl;
            kept = refl;
            passed = refl;
          },
        ),
        refl,
      ),
    )

pub spent_at_two : SpentAtTwo
spent_at_two =
    let s = two_opened 2 (omega arith) in (
      hopeless_fits,
      (
        empty,
        barring_nothing hopeless,
        (
          fine hopeless refl (passed_over 0) (omega arith) (omega arith) 2 2 (omega arith) (omega arith),
          record {
            not_shut = λ x. x.2.4;
            round = 2;
            st = fresh 0 (at 2 the_goal) ∷ [];
            log = s.0;
            plan = [];
            search = s.1;
            ends = (refl, s.2, (0, at 1 the_goal, (below_two hopeless, (λ x. x), nothing_dropped 1 (at 1 the_goal))));
            steps = refl;
            written = refl;
            opened = sym s.2;
            left = refl;
            kept = refl;
            passed = refl;
          },
        ),
        refl,
      ),
    )

-- without actions every run ends in the first state
stays_first : (k s : ℕ) → Run hopeless k s → 0 ≡ s
stays_first zero s start = refl
stays_first (suc k) s (more {before} step end r f) = stays_first k before r ∙ stays before step end f

-- so nothing is ever reached that could be barred
barring_all : Lawful hopeless all_barred
barring_all = record {
  both = λ n a b. refl;
  level = λ n k s l h r x. none x.0 (subst (λ (y : ℕ). Has y x.0) (sym (stays_first k s r)) x.2);
  closing = λ c k s e r x. none x.0 (subst (λ (y : ℕ). Has y x.0) (sym (stays_first k s r)) x.2);
  among = λ c e. let z : 0 ≡ c = cc in omega arith;
}

pub never_then_declined : NeverThenDeclined
never_then_declined = (
  hopeless_fits,
  (
    (
      empty,
      barring_all,
      (
        fine hopeless refl (passed_over 0) (omega arith) (omega arith) 1 5 (omega arith) (omega arith),
        record {
          shut = (0, refl, (0, 0, bit_one 0, bit_one 0, tt));
          none = record { steps = refl; opened = refl; kept = refl; passed = refl; left = refl };
          written = refl;
          alike = refl;
        },
      ),
      refl,
    ),
    barring_all,
    (inr (below_one 1 refl, inr (not_shared, inl (omega arith, refl))), refl, refl),
    refl,
  ),
)

-- the one order of the one action
one_order : (order : List ℕ) → OrderOf 1 order → order ≡ 0 ∷ []
one_order [] l = absurd (l.all 0 (bit_one 0))
one_order (k ∷ []) l = ap (λ (x : ℕ). x ∷ []) (only_zero k (l.only k (inl refl)))
one_order (k ∷ (j ∷ ks)) l = absurd (l.once.0 (inl (only_zero k (l.only k (inl refl)) ∙ sym (only_zero j (l.only j (inr (inl refl)))))))

does : FirmStep easy 0 1 1
unfolding minus bit
does = record {
  allowed = record { known = λ k h. omega (arith, only_zero k h); few = omega (arith, ones-le 1 1 (omega arith)) };
  firm = λ order l. subst (λ (x : List ℕ). Runs easy.at 0 0 x 1) (sym (one_order order l)) (((λ k h. h), (refl, tt)), refl);
}

pub plan_of_one : PlanOfOne
plan_of_one = (
  easy_fits,
  (
    empty,
    barring_nothing easy,
    (
      fine easy refl (passed_over 0) (omega arith) (omega arith) 2 5 (omega arith) (omega arith),
      record {
        not_shut = λ x. x.2.4;
        round = 1;
        st = fresh 0 (at 1 the_goal) ∷ [];
        log = opened 0 (at 1 the_goal) ∷ [];
        plan = 1 ∷ [];
        search = opens 0 (at 1 the_goal) begins (omega arith) (omega arith, unmet, refl, nothing_dropped 0 (at 1 the_goal));
        ends = (refl, (1, 1, does, record { holds = λ _ h. h; lacks = λ k h h'. none k h }, refl));
        steps = refl;
        written = refl;
        opened = refl;
        left = refl;
        kept = refl;
        passed = refl;
      },
    ),
    refl,
  ),
)

-- to keep the goal at level 1
both : (a b : Bool) → T (a && b) → T a × T b
both true b t = (tt, t)
both false b t = absurd t

join : (a b : Bool) → T a → T b → T (a && b)
join true b s t = t
join false b s t = absurd s

keeping : Told (passed_over 0) (at 1 the_goal) Kept one_kept
keeping = (
  (λ c. c),
  (λ r c. inr (let x = both (leb r.level 1) (eqb (bit_and 1 r.goal.need) 1) c in record {
    level = leb→le _ _ x.0;
    need = and_inside 1 r.goal.need (eqb→eq _ _ x.1);
    avoid = λ k h. absurd (none k h);
  })),
  (λ r c. covers r c),
  refl,
  refl,
)
  where
    same : (x : ℕ) → x ≡ 1 → T (eqb x 1)
    same x e = rw e (eqb_refl 1)

    covers : (r : Target) → Covered (passed_over 0) r ⊎ Covers (at 1 the_goal) r → Covered one_kept r
    covers r (inl c) = absurd c
    covers r (inr c) =
        join (leb r.level 1) (eqb (bit_and 1 r.goal.need) 1)
        (le→leb _ _ c.level) (same _ (inside_and 1 r.goal.need c.need))

the_first : Turns hopeless (first_turn ∷ []) one_kept
the_first = (
  empty,
  barring_nothing hopeless,
  (
    fine hopeless refl (passed_over 0) (omega arith) (omega arith) 1 5 (omega arith) (omega arith),
    record {
      not_shut = λ x. x.2.4;
      round = 1;
      st = [];
      log = told (at 1 the_goal) Kept ∷ (opened 0 (at 1 the_goal) ∷ []);
      plan = [];
      search =
          tells (fresh 0 (at 1 the_goal)) Kept one_kept
          (opens 0 (at 1 the_goal) begins (omega arith) (omega arith, unmet, refl, nothing_dropped 0 (at 1 the_goal)))
          (first_round (passed_over 0) (opened 0 (at 1 the_goal) ∷ [])) keeping;
      ends = (refl, refl, refl, unmet);
      steps = refl;
      written = refl;
      opened = refl;
      left = refl;
      kept = refl;
      passed = refl;
    },
  ),
  refl,
)

pub five : FiveTurns
five = (
  hopeless_fits,
  (
    (
      (
        (the_first, tt, (inl ((λ x. omega (arith, x.0)), refl), refl), refl),
        barring_nothing hopeless,
        (
          fine hopeless refl one_kept (omega arith) (omega arith) 1 5 (omega arith) (omega arith),
          record {
            not_shut = λ x. x.2.4;
            round = 1;
            st = [];
            log = [];
            plan = [];
            search = drops begins (omega arith) unmet (inr tt);
            ends = (refl, refl, refl, unmet);
            steps = refl;
            written = refl;
            opened = refl;
            left = refl;
            kept = refl;
            passed = refl;
          },
        ),
        refl,
      ),
      tt,
      (((λ x. x (omega arith, omega arith)), (not_shared, tt)), refl, refl),
      refl,
    ),
    tt,
    empty,
    refl,
  ),
)
