-- The claim holds after every list of turns.
use Rattle.std.proofs.Common.{◌≡◌, ℕ, ◌+◌, ◌*◌, ◌^◌, ◌<◌, ◌≤◌, Bool, List, [], ◌∷◌, length, Ok, Err, Result, sym, refl, ap, ◌∙◌, subst, inl, inr, add-zero, mul-suc, add-one, arith}
use native.Mathlib.Decide.{dec_le}
use Rattle.sets.specs.Sets.{Apart}
use Rattle.problem.specs.Firm.{Task}
use Rattle.problem.specs.Runs.{Goal}
use Rattle.problem.specs.Problems.{Fits}
use Rattle.problem.specs.declared.refusal.Refusal.{Refusal}
use Rattle.store.specs.Positions.{Target}
use Rattle.store.specs.Stores.{Meaning, Blank}
use Rattle.outlook.specs.Outlooks.{View, Lawful}
use Rattle.claim.specs.Search.{Question, GoalNames, Open, Event, Search}
use Rattle.claim.specs.Turns.{NamedBelow, Passes, plan_checks, Answers, Plans, Reviews, Call, plans, reviews, clears, Promise, Turn, Brings, Turns}
use Rattle.claim.specs.Claim.{Sound, OfCall, Each, of_call, in_all, one_clear, clears_in, EveryListOfTurns, GoesOn, turn}
use Rattle.claim.specs.declared.outcome.Outcome.{Outcome}
use Rattle.claim.specs.declared.outcome.Outcome.TheVariants.{Plan, Never, NotWithin, Spent}
use Rattle.claim.specs.declared.report.Report.{Report}
use Rattle.claim.proofs.Counting.{positions_at_most}
use Rattle.claim.proofs.Storing.{Stored, stored}
use Rattle.claim.proofs.Answering.{planned_by}

-- a goal that passes the checks names atoms of the task, none of them both needed and avoided
pub named : (m : ℕ) (g : Goal) → ((NamedBelow m g → ⊥) → ⊥) → (k : ℕ) → GoalNames g k → k < m
named m g f k h = elim (dec_le m k) [
  | yes far ↦ absurd (f (λ w. elim h [ inl x ↦ omega (arith, w.0 k x) | inr x ↦ omega (arith, w.1 k x) ]))
  | no near ↦ omega arith
]

pub unshared : (a b : ℕ) → ((Apart a b → ⊥) → ⊥) → Apart a b
unshared a b f k x y = f (λ w. w k x y)

-- one more clear, or none
times_more : (k c : ℕ) → k * (c + 1) ≡ k * c + k
times_more k c = rw (add-one c) (mul-suc k c)

times_none : (k c : ℕ) → k * (c + 0) ≡ k * c
times_none k c = ap (λ (x : ℕ). k * x) (add-zero c)

-- a store keeps at most 32 × 3 ^ m between two clears
few : (m : ℕ) (x : Meaning) → Stored m x → x.kept ≤ 32 * 3 ^ m
few m x s = omega (arith, positions_at_most m s.ks s.proper s.different, s.count)

none_stored : (m : ℕ) (x : Meaning) → Blank x → Stored m x
none_stored m x b = record { ks = []; different = tt; proper = λ q h. absurd h; covered = λ q h. absurd h; count = sym b.kept }

-- what holds after a list of turns: the claim, and what is kept
record Holds (p : Task) (ts : List Turn) (m : Meaning) : Type 0 where
  each : Each p ts
  sound : Sound p m
  sum : in_all (λ r. r.opened) ts ≡ in_all (λ r. r.kept) ts + in_all (λ r. r.passed_over) ts + in_all (λ r. r.left_open) ts
  kept : in_all (λ r. r.kept) ts ≤ 32 * 3 ^ p.atoms * clears_in ts + m.kept
  stored : Stored p.atoms m

module _ (p : Task) (fits : Fits p) where
  -- what a search keeps, and a call of plan
  kept_by_search : (v : View) (a : Question) (room : ℕ) (m m' : Meaning) → Passes (plan_checks p m a room)
      → {n : ℕ} {st : List Open} {log : List Event} → Search p v a m n st log m' → Stored p.atoms m → Stored p.atoms m'
  kept_by_search v a room m m' ok search s =
      stored fits (omega (arith, ok.1.1.0)) (unshared a.goal.need a.goal.avoid ok.1.0) (named p.atoms a.goal ok.0) s search

  kept_by : (v : View) (a : Question) (r : Report) (old new : List ℕ) (m m' : Meaning) → (out : Outcome)
      → Passes (plan_checks p m a (length old)) → Answers p v a out r old new m m' → Stored p.atoms m
      → Stored p.atoms m' × (m'.kept ≡ m.kept + r.kept)
  kept_by v a r old new m m' Never ok h s =
      (subst (λ (x : Meaning). Stored p.atoms x) (sym h.alike) s, ap (λ (x : Meaning). x.kept) h.alike ∙ omega (arith, h.none.kept))
  kept_by v a r old new m m' Plan ok h s = (kept_by_search v a (length old) m m' ok h.search s, h.kept)
  kept_by v a r old new m m' NotWithin ok h s = (kept_by_search v a (length old) m m' ok h.search s, h.kept)
  kept_by v a r old new m m' Spent ok h s = (kept_by_search v a (length old) m m' ok h.search s, h.kept)

  -- a turn that changes nothing
  idle : (ts : List Turn) (m : Meaning) (call : Call) (m' : Meaning) → m' ≡ m → OfCall p m call m'
      → ((f : Report → ℕ) → of_call f call ≡ 0) → one_clear call ≡ 0 → Holds p ts m → Holds p (turn m call m' ∷ ts) m'
  idle ts m call m' e w z c h =
      let s : Sound p m' = subst (λ (x : Meaning). Sound p x) (sym e) h.sound in
      let same = ap (λ (x : Meaning). x.kept) e in
      record {
        each = (w, s, h.each);
        sound = s;
        sum = omega (arith, h.sum, z (λ r. r.opened), z (λ r. r.kept), z (λ r. r.passed_over), z (λ r. r.left_open));
        kept = rw c (omega (arith, h.kept, z (λ r. r.kept), times_none (32 * 3 ^ p.atoms) (clears_in ts)));
        stored = subst (λ (x : Meaning). Stored p.atoms x) (sym e) h.stored;
      }

  one_turn : (ts : List Turn) (m : Meaning) (call : Call) (m' : Meaning) → Brings p call → Promise p m call m' → Holds p ts m
      → Holds p (turn m call m' ∷ ts) m'
  one_turn ts m (plans v a (Ok r) old new) m' law x h =
      let now = planned_by p v law a (omega (arith, x.0.1.1.0)) m m' h.sound
      r.outcome r.steps r.opened r.kept r.passed_over r.left_open old new x.1 in
      let k = kept_by v a r old new m m' r.outcome x.0 x.1 h.stored in
      record {
        each = (now.0, now.1, h.each);
        sound = now.1;
        sum = omega (arith, h.sum, now.0.sum);
        kept = omega (arith, h.kept, k.1, times_none (32 * 3 ^ p.atoms) (clears_in ts));
        stored = k.0;
      }
  one_turn ts m (plans v a (Err e) old new) m' law x h = idle ts m (plans v a (Err e) old new) m' x.2 tt (λ f. refl) refl h
  one_turn ts m (reviews q (Ok b)) m' law x h = idle ts m (reviews q (Ok b)) m' x.2 tt (λ f. refl) refl h
  one_turn ts m (reviews q (Err e)) m' law x h = idle ts m (reviews q (Err e)) m' x.1 tt (λ f. refl) refl h
  one_turn ts m clears m' law x h = record {
    each = (tt, (λ q c. absurd (x.nothing q c)), h.each);
    sound = λ q c. absurd (x.nothing q c);
    sum = omega (arith, h.sum);
    kept = omega (arith, h.kept, few p.atoms m h.stored, times_more (32 * 3 ^ p.atoms) (clears_in ts));
    stored = none_stored p.atoms m' x;
  }

  all_turns : (ts : List Turn) (m : Meaning) → Turns p ts m → Holds p ts m
  all_turns [] m b = record {
    each = tt;
    sound = λ q c. absurd (b.nothing q c);
    sum = refl;
    kept = omega arith;
    stored = none_stored p.atoms m b;
  }
  all_turns (one ∷ ts) m x =
      let was = all_turns ts one.before x.0 in
      subst (λ (y : Meaning). Holds p (one ∷ ts) y) (sym x.3) (one_turn ts one.before one.call one.after x.1 x.2 was)

pub every_list : EveryListOfTurns
every_list p fits ts m x =
    let h = all_turns p fits ts m x in
    record {
      each = h.each;
      sound = h.sound;
      sum = h.sum;
      kept = omega (arith, h.kept, few p.atoms m h.stored, times_more (32 * 3 ^ p.atoms) (clears_in ts));
    }

-- a call that keeps its promise goes on from every list of turns
pub goes_on : (p : Task) → Fits p → (m : Meaning) (call : Call) (m' : Meaning) → Brings p call → Promise p m call m' → GoesOn p m call m'
goes_on p fits m call m' brings promise = record {
  follows = λ ts x. (x, brings, promise, refl);
  claims = λ ts x. every_list p fits (turn m call m' ∷ ts) m' (x, brings, promise, refl);
}

-- so each call, from the promise of its one turn
pub plan_goes_on : (p : Task) → Fits p → (v : View) → Lawful p v
    → (a : Question) (r : Result Report Refusal) (old new : List ℕ) (m m' : Meaning)
    → Plans p v a r old new m m' → GoesOn p m (plans v a r old new) m'
plan_goes_on p fits v law a r old new m m' x = goes_on p fits m (plans v a r old new) m' law x

pub review_goes_on : (p : Task) → Fits p → (q : Target) (r : Result Bool Refusal) (m m' : Meaning) → Reviews q r m m'
    → GoesOn p m (reviews q r) m'
review_goes_on p fits q r m m' x = goes_on p fits m (reviews q r) m' tt x

pub clear_goes_on : (p : Task) → Fits p → (m m' : Meaning) → Blank m' → GoesOn p m clears m'
clear_goes_on p fits m m' x = goes_on p fits m clears m' tt x
