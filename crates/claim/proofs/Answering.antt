-- What one call of plan comes to, from the law of its search.
use Rattle.std.proofs.Common.{◌≡◌, ℕ, ◌+◌, ◌<◌, ◌≤◌, List, [], ◌∷◌, length, take, drop, sym, refl, ap, ◌∙◌, subst, inl, inr, ⊎_elim, arith}
use native.Mathlib.Decide.{dec_le, ℕ_discrete}
use lib.Seq.{take-append_seam}
use Rattle.problem.specs.Firm.{Task}
use Rattle.problem.specs.Runs.{Run, Leads, Meets, Unreached, NeverReached}
use Rattle.store.specs.Positions.{at}
use Rattle.store.specs.Stores.{Meaning, Covered}
use Rattle.outlook.specs.Outlooks.{View, Lawful, Shut}
use Rattle.sets.specs.Listed.{Among, Different}
use Rattle.claim.specs.Search.{Question, Open, Event, Search, opened_in, kept_in, passed_in}
use Rattle.claim.specs.Turns.{Found, Searched, report, Answers}
use Rattle.claim.specs.Claim.{Sound, RuledOut, Listed, Planned, OneMore}
use Rattle.claim.specs.declared.outcome.Outcome.{Outcome}
use Rattle.claim.specs.declared.outcome.Outcome.TheVariants.{Plan, Never, NotWithin, Spent}
use Rattle.claim.specs.declared.report.Report.{Report}
use Rattle.claim.proofs.Reaching.{run_none, unreached_dropped}
use Rattle.claim.proofs.Opening.{Chain, along, path_length}
use Rattle.claim.proofs.Searching.{Past, chain, rooted, linked, sums, within, kept_grows, passed_grows, covers_some, covers_all, sound, begun, failed, entered}
use Rattle.claim.proofs.Listing.{levels_at_most, open_is, due_after, in_order}

past_less : (n k : ℕ) (st : List Open) → k < n → Past n st k
past_less n k [] h = omega arith
past_less n k (f ∷ fs) h = h

chain_length : (n : ℕ) (st : List Open) → Chain n st → length st ≤ n
chain_length n [] c = omega arith
chain_length n (f ∷ fs) c = omega (arith, c.0, c.1)

-- by the promise alone, whatever the store and the outlook are
module _ {p : Task} {v : View} {a : Question} {m m' : Meaning} where
  -- a plan that is found is a run to the goal, of as many steps as the round, and as many are open
  pub found : {n : ℕ} (st : List Open) {log : List Event} (steps : List ℕ) → Search p v a m n st log m' → Found p a st steps
      → (length steps ≡ n) × (length st ≡ n) × ((end : ℕ) × Leads p p.first steps end × Meets a.goal end)
  found {n} [] steps s x = elim (dec_le 1 n) [
    | yes h ↦ absurd (begun s h x.0)
    | no h ↦ (
      ap (λ (y : List ℕ). length y) x.1 ∙ omega arith,
      omega arith,
      (p.first, subst (λ (y : List ℕ). Leads p p.first y p.first) (sym x.1) refl, x.0),
    )
  ]
  found {n} (f ∷ fs) steps s x =
      let w = x.1 in
      let c = (chain s).0.0 in
      let e = along p n a.goal f fs (linked s) (rooted s) w.1 w.3 in (
        ap (λ (y : List ℕ). length y) w.4 ∙ omega (arith, path_length f fs, x.0),
        omega (arith, x.0),
        (e.0, subst (λ (y : List ℕ). Leads p p.first y e.0) (sym w.4) (w.1, w.2, e.1), e.2),
      )

  -- at the end of the last round each level not ruled out was opened
  levels : {n : ℕ} {st : List Open} {log : List Event} → Search p v a m n st log m' → n ≡ a.limit
      → (ns : List ℕ) → Different ns → ((k : ℕ) → Among k ns → (1 ≤ k) × (k ≤ a.limit) × (RuledOut v a.goal m k → ⊥))
      → length ns ≤ opened_in log
  levels {log} s e ns d f =
      levels_at_most a.goal log ns d (λ k h.
      let x = f k h in
      ⊎_elim (λ r. absurd (x.2 r)) (λ w. w) (entered s k x.0 (omega (arith, x.1))))

  module _ (r : Report) (old new : List ℕ) (h : Searched p v a r old new m m') where
    -- the plan stands at the start of the list
    pub plan_written : take r.steps new ≡ h.plan
    plan_written = rw (h.steps, h.written) (take-append_seam h.plan (drop (length h.plan) old))

    -- the numbers are those of the search
    pub kept_is : r.kept ≡ kept_in h.log
    kept_is = omega (arith, h.kept, kept_grows h.search)

    pub passed_is : r.passed_over ≡ passed_in h.log
    passed_is = omega (arith, h.passed, passed_grows h.search)

    pub sum_of : r.opened ≡ r.kept + r.passed_over + r.left_open
    sum_of = omega (arith, h.opened, h.left, kept_is, passed_is, sums h.search)

    pub in_budget : r.opened ≤ a.budget
    in_budget = omega (arith, h.opened, within h.search)

    listed : OneMore p v a r.outcome m m' h.log → Listed p v a r m m'
    listed more = record {
      log = h.log;
      in_order = in_order h.search;
      opened = h.opened;
      kept = kept_is;
      passed = passed_is;
      left = h.left ∙ ap (λ (x : List Open). length x) (sym (open_is h.search));
      more = more;
      covers = covers_some h.search;
      covers_all = covers_all h.search;
    }

-- on a sound store and with a lawful outlook
module _ (p : Task) (v : View) (law : Lawful p v) (a : Question) (short : a.limit ≤ 32) (m m' : Meaning) (was : Sound p m) where
  -- no run of at most k steps reaches the goal, if the round k has failed
  round_unreached : {n : ℕ} {st : List Open} {log : List Event} → Search p v a m n st log m'
      → (k : ℕ) → 1 ≤ k → k ≤ n → Past n st k → Unreached p k a.goal
  round_unreached s k h le past =
      let c = chain s in
      elim (failed s k h past) [
        | inl (inl c') ↦ was (at k a.goal) c'
        | inl (inr b) ↦ unreached_dropped p v law m was (at k a.goal) (omega arith) (inl b)
        | inr w ↦ (sound law short was s).1 (at k a.goal) w
      ]

  -- "never"
  pub never_reached : Shut v a.goal → NeverReached p a.goal
  never_reached x k s run meets =
      let b = x.2 in
      law.closing x.0 k s x.1 run (b.0, b.1, meets.holds b.0 b.2, meets.holds b.1 b.3, b.4)

  first_not : (s : ℕ) (k : ℕ) → (Meets a.goal p.first → ⊥) → Run p k s → k ≡ 0 → Meets a.goal s → ⊥
  first_not s k h run e meets = h (subst (λ (x : ℕ). Meets a.goal x) (sym (run_none p k s run e)) meets)

  -- "not within"
  pub none_within : {log : List Event} → Search p v a m a.limit [] log m' → (Meets a.goal p.first → ⊥)
      → Unreached p a.limit a.goal
  none_within s fails k t le run meets = elim (ℕ_discrete k 0) [
    | yes e ↦ first_not t k fails run e meets
    | no ne ↦ round_unreached s k (omega arith) le le k t (omega arith) run meets
  ]

  -- "plan": no run to the goal is shorter than the round
  pub least : {n : ℕ} {st : List Open} {log : List Event} → Search p v a m n st log m'
      → (k t : ℕ) → Run p k t → Meets a.goal t → n ≤ k
  least {n} {st} s k t run meets = elim (dec_le n k) [
    | yes le ↦ le
    | no gt ↦ absurd (elim (ℕ_discrete k 0) [
      | yes e ↦ first_not t k (begun s (omega arith)) run e meets
      | no ne ↦ round_unreached s k (omega arith) (omega arith) (past_less n k st (omega arith)) k t (omega arith) run meets
    ])
  ]

  -- all of the turn, by its outcome
  pub planned_by : (out : Outcome) (steps opened kept passed left : ℕ) (old new : List ℕ)
      → Answers p v a out (report out steps opened kept passed left) old new m m'
      → Planned p v a (report out steps opened kept passed left) new m m' × Sound p m'
  planned_by Plan steps opened kept passed left old new h =
      let r : Report = report Plan steps opened kept passed left in
      let same = plan_written r old new h in
      let e = found h.st h.plan h.search h.ends in (
        record {
          right = (
            rw same (sym h.steps),
            record {
              reaches = (e.2.0, rw same e.2.1, e.2.2);
              least = λ k t run meets. rw same (omega (arith, e.0, least h.search k t run meets));
            },
          );
          sum = sum_of r old new h;
          within = in_budget r old new h;
          counted = (omega (arith, h.left, h.steps, e.0, e.1), omega (arith, h.steps, e.0, (chain h.search).1));
          listed = listed r old new h tt;
        },
        (sound law short was h.search).0,
      )
  planned_by Never steps opened kept passed left old new h = (
    record {
      right = never_reached h.shut;
      sum = omega (arith, h.none.opened, h.none.kept, h.none.passed, h.none.left);
      within = omega (arith, h.none.opened);
      counted = h.none;
      listed = record {
        log = [];
        in_order = tt;
        opened = h.none.opened;
        kept = h.none.kept;
        passed = h.none.passed;
        left = h.none.left;
        more = tt;
        covers = λ q c. inl (subst (λ (x : Meaning). Covered x q) h.alike c);
        covers_all = λ q c. ⊎_elim (λ d. subst (λ (x : Meaning). Covered x q) (sym h.alike) d) (λ d. absurd d) c;
      };
    },
    subst (λ (x : Meaning). Sound p x) (sym h.alike) was,
  )
  planned_by NotWithin steps opened kept passed left old new h =
      let r : Report = report NotWithin steps opened kept passed left in
      let e = h.ends in
      let s : Search p v a m a.limit [] h.log m' = rw (e.1, e.2) at h.search in (
        record {
          right = none_within s e.3;
          sum = sum_of r old new h;
          within = in_budget r old new h;
          counted = (
            h.steps ∙ ap (λ (x : List ℕ). length x) e.0,
            h.left ∙ ap (λ (x : List Open). length x) e.1,
            λ ns d f. omega (arith, h.opened, levels s refl ns d f),
          );
          listed = listed r old new h tt;
        },
        (sound law short was h.search).0,
      )
  planned_by Spent steps opened kept passed left old new h =
      let r : Report = report Spent steps opened kept passed left in
      let e = h.ends in
      let c = chain h.search in
      let x = e.2 in
      let d = due_after h.search x.0 x.1 x.2 in (
        record {
          right = tt;
          sum = sum_of r old new h;
          within = in_budget r old new h;
          counted = (
            h.steps ∙ ap (λ (x : List ℕ). length x) e.0,
            h.opened ∙ e.1,
            omega (arith, h.left, chain_length h.round h.st c.0, c.1),
          );
          listed = listed r old new h (x.0, x.1, d.0, d.1);
        },
        (sound law short was h.search).0,
      )
