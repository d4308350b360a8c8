-- Only the first 64 atoms of a state count: the problem names no others.
use Rattle.std.proofs.Common.{◌≡◌, ℕ, ◌+◌, ◌-◌, ◌^◌, ◌<◌, List, length, take, drop, sym, ap, ◌∙◌, subst, ap₂, inl, inr, arith, length-drop, length-take}
use native.Mathlib.Decide.{dec_le}
use lib.Bits.{bit_and, bit_or, and_le_r}
use Rattle.std.proofs.lemmas.List.{get_or-take, get_or-drop}
use Rattle.sets.specs.Sets.{Has, Inside, Within, minus}
use Rattle.sets.proofs.Members.{all_marks, not_in_none}
use Rattle.problem.specs.Actions.{Action, Among, cuts, gives, FireAlike}
use Rattle.problem.specs.Rows.{effect_at, begins, names_of}
use Rattle.problem.specs.Problems.{task_of}
use Rattle.problem.specs.Runs.{Goal}
use Rattle.problem.specs.declared.rows.EffectRow.{EffectRow}
use Rattle.problem.specs.declared.problem.Problem.{Problem}
use Rattle.problem.proofs.Effects.{gather_alike, alike_all, same_tests, fires_inside, inside_fires}
use Rattle.problem.proofs.Placing.{row_past}
use Rattle.regression.specs.Spans.{Reached, Helped, Fine, Sure, Idle, SomeIdle, reads}
use Rattle.sets.proofs.Parts.{or_left, and_both, and_left}
use Rattle.regression.proofs.Places.{at_among}

-- the actions name only the first 64 atoms
pub record Narrow (at : ℕ → Action) : Type 0 where
  pub precondition : (i : ℕ) → Within 64 (at i).precondition
  pub condition : (i : ℕ) (e : EffectRow) → Among e (at i).effects → Within 64 e.condition

-- s and t have the same of the first 64 atoms
abbrev pub Alike : ℕ → ℕ → Type 0
Alike s t = ((k : ℕ) → k < 64 → Has s k → Has t k) × ((k : ℕ) → k < 64 → Has t k → Has s k)

-- the first 64 atoms of s
abbrev pub low : ℕ → ℕ
low s = bit_and s (2 ^ 64 - 1)

pub low_lt : (s : ℕ) → low s < 2 ^ 64
low_lt s = omega (arith, and_le_r s (2 ^ 64 - 1))

pub low_alike : (s : ℕ) → Alike s (low s)
low_alike s = ((λ k h a. and_both s (2 ^ 64 - 1) k a ((all_marks 64).all k h)), (λ k h a. and_left s (2 ^ 64 - 1) k a))

module _ (at : ℕ → Action) (narrow : Narrow at) (s t : ℕ) (same : Alike s t) where
  inside_alike : (c : ℕ) → Within 64 c → Inside c s → Inside c t
  inside_alike c w f k h = same.0 k (w k h) (f k h)

  alike : (i : ℕ) → FireAlike (at i).effects s t
  alike i = alike_all (at i).effects s t (λ e m. same_tests _ _
      (λ f. inside_fires t e (λ k h. same.0 k (narrow.condition i e m k h) (fires_inside s e f k h)))
      (λ f. inside_fires s e (λ k h. same.1 k (narrow.condition i e m k h) (fires_inside t e f k h))))

  cuts_alike : (i : ℕ) → cuts at t i ≡ cuts at s i
  cuts_alike i = gather_alike (λ e. e.delete) s t (at i).effects (alike i)

  gives_alike : (i : ℕ) → gives at t i ≡ gives at s i
  gives_alike i = ap₂ minus (gather_alike (λ e. e.add) s t (at i).effects (alike i)) (cuts_alike i)

  reads_alike : (i : ℕ) → reads at t i ≡ reads at s i
  reads_alike i = ap (bit_or (at i).precondition) (gather_alike (λ e. e.condition) s t (at i).effects (alike i))

  cut : (i k : ℕ) → Has (cuts at t i) k → Has (cuts at s i) k
  cut i k h = subst (λ (x : ℕ). Has x k) (cuts_alike i) h

  uncut : (i k : ℕ) → Has (cuts at s i) k → Has (cuts at t i) k
  uncut i k h = subst (λ (x : ℕ). Has x k) (sym (cuts_alike i)) h

  given : (i k : ℕ) → Has (gives at t i) k → Has (gives at s i) k
  given i k h = subst (λ (x : ℕ). Has x k) (gives_alike i) h

  ungive : (i k : ℕ) → Has (gives at s i) k → Has (gives at t i) k
  ungive i k h = subst (λ (x : ℕ). Has x k) (sym (gives_alike i)) h

  helped_alike : (others c k : ℕ) → Helped at others c t t k → Helped at others c s s k
  helped_alike others c k h = (h.0, h.1, (λ x hx hc. h.2 x hx (uncut h.0 x hc)), given h.0 k h.3)

  pub fine_alike : (step i : ℕ) → Fine at step i s s → Fine at step i t t
  fine_alike step i f = (
    inside_alike (at i).precondition (narrow.precondition i) f.0,
    (
      (λ j hj. (
        (λ k g c. (f.1.0 j hj).0 k (given i k g) (cut j k c)),
        (λ k g c. (f.1.0 j hj).1 k (subst (λ (x : ℕ). Has x k) (reads_alike i) g) (cut j k c)),
      )),
      (λ e m all k hc n g.
          let w = narrow.condition i e m in
          f.1.1 e m
          (λ x hx. elim (all x hx) [ inl a ↦ inl (same.1 x (w x hx) a) | inr y ↦ inr (helped_alike _ e.condition x y) ])
          k hc (λ a. n (same.0 k (w k hc) a)) (helped_alike _ e.condition k g)),
    ),
  )

  module _ (q : Goal) (wn : Within 64 q.need) (wa : Within 64 q.avoid) where
    reached_alike : (step : ℕ) → Reached at step q s s → Reached at step q t t
    reached_alike step r = (
      (
        (λ j hj k h c. r.0.0 j hj k h (cut j k c)),
        (λ k h. elim (r.0.1 k h) [ inl a ↦ inl (same.0 k (wn k h) a) | inr g ↦ inr (g.0, g.1, ungive g.0 k g.2) ]),
      ),
      (
        (λ j hj k h g. r.1.0 j hj k h (given j k g)),
        (λ k h a. let g = r.1.1 k h (same.1 k (wa k h) a) in (g.0, g.1, uncut g.0 k g.2)),
      ),
    )

    pub sure_alike : (step : ℕ) → Sure at step q s s → Sure at step q t t
    sure_alike step f = ((λ i h. fine_alike step i (f.0 i h)), reached_alike step f.1)

    idle_alike : (i others : ℕ) → Idle at i others q s s → Idle at i others q t t
    idle_alike i others d = (
      (λ k h n g. let r = d.0 k h (λ a. n (same.0 k (wn k h) a)) (given i k g) in (r.0, r.1, ungive r.0 k r.2)),
      (λ k h a c. let r = d.1 k h (same.1 k (wa k h) a) (cut i k c) in (r.0, r.1, uncut r.0 k r.2)),
    )

    pub some_idle_alike : (step : ℕ) → SomeIdle at step q s s → SomeIdle at step q t t
    some_idle_alike step d = (d.0, d.1, idle_alike d.0 _ d.2)

-- ---- a problem names only the first 64 atoms

effect_of : (es : List EffectRow) (c b : ℕ) (e : EffectRow) → Among e (take c (drop b es)) → (j : ℕ) × (j < length es) × (e ≡ effect_at es j)
effect_of es c b e m =
    let r = at_among (take c (drop b es)) e m in
    let lt : r.0 < length (take c (drop b es)) = r.1 in
    let below : r.0 < c = omega (arith, lt, length-take c (drop b es)) in (
      b + r.0,
      omega (arith, lt, length-take c (drop b es), length-drop b es),
      r.2 ∙ get_or-take c (drop b es) r.0 _ below ∙ get_or-drop b es r.0 _,
    )

pub problem_narrow : (p : Problem) → Narrow (task_of p).at
problem_narrow p = record {
  precondition = λ i k h. elim (dec_le (length p.actions.now) i) [
    | yes past ↦ absurd (not_in_none _ k (row_past p.actions.now i past) h)
    | no below ↦ omega (arith, p.named_preconditions i (omega arith) k h, p.sized.0.1)
  ];
  condition = λ i e m k h.
      let n : ℕ = length p.effects.now in
      let r = effect_of p.effects.now (begins p.actions.now n (i + 1) - begins p.actions.now n i) (begins p.actions.now n i) e m in
      let named : k < p.atoms = p.named_effects r.0 r.1 k
      (subst (λ (y : EffectRow). Has (names_of y) k) r.2 (or_left _ _ k (or_left e.condition e.add k h))) in
      omega (arith, named, p.sized.0.1);
}
