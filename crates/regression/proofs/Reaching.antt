-- A step leads into a goal exactly where each of its actions is fine and together they reach it.
use Rattle.std.proofs.Common.{◌≡◌, ℕ, Bool, true, Decides, ◌-◌, ◌^◌, ◌<◌, ◌≤◌, ◌≢◌, ◌⊎◌, sym, refl, ◌∙◌, subst, inl, inr, arith}
use native.Mathlib.Decide.{ℕ_discrete}
use Rattle.sets.specs.Sets.{Has, Inside, Apart, minus}
use Rattle.sets.proofs.Bits.{has?, bit_digit, bit_minus, same_bits, and_inside, and_not}
use Rattle.sets.proofs.Members.{has_lt, ones_minus, within_below, below_within}
use Rattle.problem.specs.Actions.{Action, cuts, gives}
use Rattle.problem.specs.Calm.{Calm, Ends}
use Rattle.problem.specs.Firm.{Task, Step}
use Rattle.problem.specs.Runs.{Goal, Meets}
use Rattle.problem.specs.Problems.{task_of}
use Rattle.problem.specs.declared.problem.Problem.{Problem}
use Rattle.problem.proofs.Effects.{fires_inside, inside_fires, gather_from, gather_has}
use Rattle.problem.proofs.Listed.{left_in, left_other, left_has, every_firm, firm_every}
use Rattle.problem.proofs.CalmRuns.{calm_every, calm_ends}
use Rattle.problem.proofs.FirmCalm.{firm_calm, firm_ends, part_calm}
use Rattle.regression.specs.Regions.{top_of}
use Rattle.regression.specs.Spans.{Between, Reached, Fine, Sure, Idle, SomeIdle}
use Rattle.regression.specs.Matters.{GoalNames, Serving, Concerns, Matters}
use Rattle.regression.specs.Verdicts.{Judged, both_of}
use Rattle.regression.specs.Reaching.{Reaches, Lean, Surely, Judges}
use Rattle.regression.specs.declared.verdict.Verdict.{Verdict}
use Rattle.regression.specs.declared.verdict.Verdict.TheVariants.{Yes, No, Ask}
use Rattle.sets.proofs.Parts.{or_left, or_right, or_either, and_both}
use Rattle.regression.proofs.Masks.{minus_not, some_member, so}
use Rattle.regression.proofs.Judging.{judged_both, judged_named, judged_is}
use Rattle.regression.proofs.Narrowing.{sure_narrow, some_idle_narrow}
use Rattle.regression.proofs.Local.{low, low_lt, low_alike, sure_alike, some_idle_alike, problem_narrow}

-- ---- in one state

module _ (at : ℕ → Action) (s step : ℕ) where
  fine_calm : ((i : ℕ) → Has step i → Fine at step i s s) → Calm at s step
  fine_calm f = record {
    ready = λ i hi. (f i hi).0;
    clash = λ i j hi hj ne. ((f i hi).1.0 j (left_has step i j hj (λ e. ne (sym e)))).0;
    needs = λ i j hi hj ne k h. ((f i hi).1.0 j (left_has step i j hj (λ e. ne (sym e)))).1 k (or_left _ _ k h);
    holds = λ i j hi hj ne e among fired k h.
        ((f i hi).1.0 j (left_has step i j hj (λ e. ne (sym e)))).1 k (or_right _ _ k (gather_has (λ e. e.condition) s k (at i).effects e among fired h));
    rests = λ i hi e among nf hyp.
        let rest = (f i hi).1.1 e among (λ k h. elim (hyp k h) [
          | inl a ↦ inl a
          | inr g ↦ inr (g.0, left_has step i g.0 g.1 g.2, g.3, g.4)
        ]) in
        nf (inside_fires s e (λ k h. elim (has? s k) [
          | yes a ↦ a
          | no n ↦ elim (hyp k h) [
            | inl a ↦ a
            | inr g ↦ absurd (rest k h n (g.0, left_has step i g.0 g.1 g.2, g.3, g.4))
          ]
        ]));
  }

  pub calm_fine : Calm at s step → (i : ℕ) → Has step i → Fine at step i s s
  calm_fine c i hi = (
    c.ready i hi,
    (
      (λ j hj.
          let hj' : Has step j = left_in step i j hj in
          let ne : i ≢ j = λ e. left_other step i j hj (sym e) in (
            c.clash i j hi hj' ne,
            λ k h. elim (or_either _ _ k h) [
              | inl a ↦ c.needs i j hi hj' ne k a
              | inr b ↦ (let r = gather_from (λ e. e.condition) s k (at i).effects b in c.holds i j hi hj' ne r.0 r.1 r.2 k r.3)
            ],
          )),
      (λ e among all k hc n g. c.rests i hi e among (λ f. n (fires_inside s e f k hc))
          (λ x hx. elim (all x hx) [ inl a ↦ inl a | inr y ↦ inr (y.0, left_in step i y.0 y.1, left_other step i y.0 y.1, y.2, y.3) ])),
    ),
  )

  module _ (q : Goal) (end : ℕ) (e : Ends at s step end) where
    reached_meets : Reached at step q s s → Meets q end
    reached_meets r = record {
      holds = λ k h. elim (r.0.1 k h) [
        | inl a ↦ e.stays k a (λ j hj c. r.0.0 j hj k h c)
        | inr g ↦ e.given g.0 g.1 k g.2
      ];
      lacks = λ k h he. elim (e.source k he) [
        | inl a ↦ (let c = r.1.1 k h a in e.gone c.0 c.1 k c.2 he)
        | inr g ↦ r.1.0 g.0 g.1 k h g.2
      ];
    }

    meets_reached : step < 2 ^ 64 → Meets q end → Reached at step q s s
    meets_reached lt m = (
      ((λ j hj k h c. e.gone j hj k c (m.holds k h)), (λ k h. e.source k (m.holds k h))),
      (
        (λ j hj k h g. m.lacks k h (e.given j hj k g)),
        (λ k h a. elim (some_member step (λ j. Has (cuts at s j) k) (λ j. has? (cuts at s j) k) lt) [
          | inl x ↦ x
          | inr f ↦ absurd (m.lacks k h (e.stays k a f))
        ]),
      ),
    )

  -- without an idle action
  drop_idle : (q : Goal) (i : ℕ) → Reached at step q s s → Idle at i (minus step (2 ^ i)) q s s → Reached at (minus step (2 ^ i)) q s s
  drop_idle q i r idle = (
    (
      (λ j hj. r.0.0 j (left_in step i j hj)),
      (λ k h. elim (r.0.1 k h) [
        | inl a ↦ inl a
        | inr g ↦ elim (ℕ_discrete g.0 i) [
          | no ne ↦ inr (g.0, left_has step i g.0 g.1 ne, g.2)
          | yes p ↦ elim (has? s k) [
            | yes a ↦ inl a
            | no n ↦ inr (idle.0 k h n (subst (λ (y : ℕ). Has (gives at s y) k) p g.2))
          ]
        ]
      ]),
    ),
    (
      (λ j hj. r.1.0 j (left_in step i j hj)),
      (λ k h a. let g = r.1.1 k h a in elim (ℕ_discrete g.0 i) [
        | no ne ↦ (g.0, left_has step i g.0 g.1 ne, g.2)
        | yes p ↦ idle.1 k h a (subst (λ (y : ℕ). Has (cuts at s y) k) p g.2)
      ]),
    ),
  )

-- ---- of a task of at most 64 actions

pub step_lt : (t : Task) (step : ℕ) → t.count ≤ 64 → Step t step → step < 2 ^ 64
step_lt t step few a = within_below 64 step (λ k h. omega (arith, a.known k h))

module _ (t : Task) (few : t.count ≤ 64) (q : Goal) (s : ℕ) where
  pub reaches_calm : (step : ℕ) → Reaches t q s step → Calm t.at s step
  reaches_calm step r = firm_calm t.at s step r.end (step_lt t step few r.firm.allowed) (firm_every _ _ _ _ r.firm.firm)

  pub reaches_sure : (step : ℕ) → Reaches t q s step → Sure t.at step q s s
  reaches_sure step r =
      let lt = step_lt t step few r.firm.allowed in (
        calm_fine t.at s step (reaches_calm step r),
        meets_reached t.at s step q r.end (firm_ends t.at s step r.end lt (firm_every _ _ _ _ r.firm.firm)) lt r.meets,
      )

  calm_reaches : (step : ℕ) → Step t step → Calm t.at s step → Reached t.at step q s s → Reaches t q s step
  calm_reaches step a c r =
      let e = calm_ends t.at s step c (step_lt t step few a) in
      record {
        end = e.0;
        firm = record { allowed = a; firm = every_firm _ _ _ _ (calm_every t.at s step c e.0 e.1) };
        meets = reached_meets t.at s step q e.0 e.1 r;
      }

  pub sure_reaches : (step : ℕ) → Step t step → Sure t.at step q s s → Reaches t q s step
  sure_reaches step a f = calm_reaches step a (fine_calm t.at s step f.0) f.1

  -- a step that leads into q does so without an idle action
  pub idle_reaches : (step i : ℕ) → Reaches t q s step → Has step i → Idle t.at i (minus step (2 ^ i)) q s s → Reaches t q s (minus step (2 ^ i))
  idle_reaches step i r hi idle =
      calm_reaches (minus step (2 ^ i))
      (record {
        known = λ k h. r.firm.allowed.known k (left_in step i k h);
        few = omega (arith, r.firm.allowed.few, ones_minus step i hi);
      })
      (part_calm t.at s step (minus step (2 ^ i)) (left_in step i) (reaches_calm step r))
      (drop_idle t.at s step q i (reaches_sure step r).1 idle)

  pub lean_busy : (step : ℕ) → Reaches t q s step → Lean t q s step → SomeIdle t.at step q s s → ⊥
  lean_busy step r lean d =
      lean (minus step (2 ^ d.0)) (left_in step d.0)
      (λ e. left_other step d.0 d.0 (subst (λ (y : ℕ). Has y d.0) (sym e) d.1) refl)
      (idle_reaches step d.0 r d.1 d.2)

-- ---- in the states of a region

not_in : (s avoid : ℕ) → Apart avoid s → minus s avoid ≡ s
not_in s avoid f = same_bits _ _ (λ k. elim (has? avoid k) [
  | yes h ↦ (let n : Has s k → ⊥ = f k h in omega (arith, bit_minus s avoid k, bit_digit s k))
  | no n ↦ omega (arith, bit_minus s avoid k, bit_digit avoid k)
])

pub top_avoids : (avoid x : ℕ) → avoid < 2 ^ 64 → Has (2 ^ 64 - 1 - avoid) x → Has avoid x → ⊥
top_avoids avoid x la h a =
    minus_not avoid avoid x (so _ _ x (and_not avoid avoid la la) (and_both avoid (2 ^ 64 - 1 - avoid) x a h)) a

-- a state of the region, as far as its first 64 atoms go, lies between need and all but avoid
pub low_between : (p : Goal) → p.need < 2 ^ 64 → p.avoid < 2 ^ 64 → (s : ℕ) → Meets p s → Between p.need (top_of p) (low s)
low_between p ln la s m = (
  (λ k h. (low_alike s).0 k (has_lt p.need k ln h) (m.holds k h)),
  and_inside (low s) (2 ^ 64 - 1 - p.avoid)
      (and_not (low s) p.avoid (low_lt s) la
      ∙ not_in (low s) p.avoid (λ k a h. m.lacks k a ((low_alike s).1 k (has_lt p.avoid k la a) h))),
)

module _ (p : Problem) (q : Goal) (wn : q.need < 2 ^ 64) (wa : q.avoid < 2 ^ 64) (step : ℕ) (a : Step (task_of p) step)
    (r : Goal) (ln : r.need < 2 ^ 64) (la : r.avoid < 2 ^ 64) where
  few_actions : (task_of p).count ≤ 64
  few_actions = p.sized.2

  back : (s : ℕ) → Sure (task_of p).at step q (low s) (low s) → Sure (task_of p).at step q s s
  back s = sure_alike (task_of p).at (problem_narrow p) (low s) s ((low_alike s).1, (low_alike s).0) q (below_within 64 _ wn) (below_within 64 _ wa) step

  pub surely_reaches : Surely (task_of p) q step r → (s : ℕ) → Meets r s → Reaches (task_of p) q s step
  surely_reaches f s m =
      let b = low_between r ln la s m in
      sure_reaches (task_of p) few_actions q s step a
      (back s (sure_narrow (task_of p).at r.need (top_of r) (low s) (low s) b.0 b.1 step q f))

  -- what holds in no state between the masks holds in no state of the region
  pub never_sure : ((s : ℕ) → Between r.need (top_of r) s → Sure (task_of p).at step q s s → ⊥)
      → (s : ℕ) → Meets r s → Reaches (task_of p) q s step → ⊥
  never_sure n s m g =
      n (low s) (low_between r ln la s m)
      (sure_alike (task_of p).at (problem_narrow p) s (low s) (low_alike s) q (below_within 64 _ wn) (below_within 64 _ wa) step
      (reaches_sure (task_of p) few_actions q s step g))

  pub idle_judges : SomeIdle (task_of p).at step q r.need (top_of r) → Judges (task_of p) q step r No
  idle_judges d s m g lean =
      let b = low_between r ln la s m in
      lean_busy (task_of p) few_actions q s step g lean
      (some_idle_alike (task_of p).at (problem_narrow p) (low s) s ((low_alike s).1, (low_alike s).0) q (below_within 64 _ wn) (below_within 64 _ wa) step
      (some_idle_narrow (task_of p).at r.need (top_of r) (low s) (low s) b.0 b.1 step q d))

  pub judges : (v : Verdict) → Judged r.need (top_of r) (Sure (task_of p).at step q) (Matters (task_of p).at step q) v → Judges (task_of p) q step r v
  judges Yes j = (j, surely_reaches j)
  judges No j = λ s m g lean. never_sure j s m g
  judges (Ask x) j = (has_lt (2 ^ 64 - 1 - r.avoid) x (omega arith) j.0, j.1, top_avoids r.avoid x la j.0, j.2, j.3)

-- ---- firm and reached together

module _ (at : ℕ → Action) (lo hi step : ℕ) (q : Goal) where
  pub certain_judged : (a b v : Verdict) → v ≡ both_of a b
      → Judged lo hi (λ l h. (i : ℕ) → Has step i → Fine at step i l h) (Concerns at step) a
      → Judged lo hi (Reached at step q) (λ x. GoalNames q x ⊎ Serving at step q x) b
      → Judged lo hi (Sure at step q) (Matters at step q) v
  certain_judged a b v e ja jb =
      judged_is lo hi (Sure at step q) (Matters at step q) _ v (sym e)
      (judged_both lo hi (λ l h. (i : ℕ) → Has step i → Fine at step i l h) (Reached at step q) (Matters at step q) a b
      (judged_named lo hi (λ l h. (i : ℕ) → Has step i → Fine at step i l h) _ (Matters at step q) (λ x n. inr n) a ja)
      (judged_named lo hi (Reached at step q) _ (Matters at step q) (λ x n. inl n) b jb))

  -- what is not reached is no step's
  pub certain_no : (b : Verdict) → b ≡ No → Judged lo hi (Reached at step q) (λ x. GoalNames q x ⊎ Serving at step q x) b
      → Judged lo hi (Sure at step q) (Matters at step q) No
  certain_no b e jb =
      let j : Judged lo hi (Reached at step q) (λ x. GoalNames q x ⊎ Serving at step q x) No = judged_is lo hi (Reached at step q) _ b No e jb in
      λ s w f. j s w f.1

  -- the verdict is yes just where it is sure, if there is a state at all
  pub sure_decides : Inside lo hi → (v : Verdict) → Judged lo hi (Sure at step q) (Matters at step q) v
      → (b : Bool) → (b ≡ true → v ≡ Yes) → (v ≡ Yes → b ≡ true) → Decides b (Sure at step q lo hi)
  sure_decides sub v j b is yes' = (
    (λ e. judged_is lo hi (Sure at step q) (Matters at step q) v Yes (is e) j),
    λ f. by v j yes' f,
  )
    where
      by : (v : Verdict) → Judged lo hi (Sure at step q) (Matters at step q) v → (v ≡ Yes → b ≡ true) → Sure at step q lo hi → b ≡ true
      by Yes j y f = y refl
      by No j y f = absurd (j lo ((λ k h. h), sub) (sure_narrow at lo hi lo lo (λ k h. h) sub step q f))
      by (Ask x) j y f = absurd (j.3 f)

-- need lies below all but avoid
pub need_below : (p : Goal) → p.need < 2 ^ 64 → p.avoid < 2 ^ 64 → Apart p.need p.avoid → Inside p.need (top_of p)
need_below p ln la f =
    and_inside p.need (2 ^ 64 - 1 - p.avoid) (and_not p.need p.avoid ln la ∙ not_in p.need p.avoid (λ k a n. f k n a))
