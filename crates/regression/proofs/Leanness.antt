-- Every step that leads into a goal has a lean part that does, and each action of a lean step helps.
use Rattle.std.proofs.Common.{◌≡◌, ℕ, zero, suc, ◌^◌, ◌<◌, ◌≤◌, ◌⊎◌, List, [], ◌∷◌, refl, subst, inl, inr, arith}
use lib.Count.{ones}
use Rattle.sets.specs.Sets.{Has, Inside, minus}
use Rattle.sets.proofs.Bits.{has?, same_members}
use Rattle.sets.proofs.Members.{ones_minus, minus_lt, not_in_none}
use Rattle.problem.specs.Actions.{Action, Among, cuts, gives}
use Rattle.problem.specs.Firm.{Task}
use Rattle.problem.specs.Runs.{Goal}
use Rattle.problem.specs.declared.rows.EffectRow.{EffectRow}
use Rattle.problem.proofs.Effects.{gather_from}
use Rattle.problem.proofs.Listed.{left_in, left_has}
use Rattle.regression.specs.Spans.{Idle}
use Rattle.regression.specs.Reaching.{Reaches, Lean}
use Rattle.regression.specs.Nodes.{Pair, Lies}
use Rattle.regression.specs.Roots.{Useful, Helps}
use Rattle.regression.specs.declared.node.Node.{Node}
use Rattle.sets.proofs.Parts.{or_right}
use Rattle.regression.proofs.Masks.{minus_from, some_member, not?}
use Rattle.regression.proofs.Reaching.{step_lt, reaches_sure, idle_reaches, lean_busy}

-- ---- idleness can be decided

each? : (set : ℕ) (P : ℕ → Type 0) → ((k : ℕ) → Dec (P k)) → set < 2 ^ 64 → Dec ((k : ℕ) → Has set k → P k)
each? set P d lt = elim (some_member set (λ k. P k → ⊥) (λ k. not? _ (d k)) lt) [
  | inl x ↦ no (λ f. x.2 (f x.0 x.1))
  | inr f ↦ yes (λ k h. elim (d k) [ yes p ↦ p | no n ↦ absurd (f k h n) ])
]

some? : (set : ℕ) (P : ℕ → Type 0) → ((k : ℕ) → Dec (P k)) → set < 2 ^ 64 → Dec ((k : ℕ) × Has set k × P k)
some? set P d lt = elim (some_member set P d lt) [ inl x ↦ yes x | inr f ↦ no (λ x. f x.0 x.1 x.2) ]

imp? : (A B : Type 0) → Dec A → Dec B → Dec (A → B)
imp? A B (no n) b = yes (λ a. absurd (n a))
imp? A B (yes a) (yes b) = yes (λ _. b)
imp? A B (yes a) (no n) = no (λ f. n (f a))

both? : (A B : Type 0) → Dec A → Dec B → Dec (A × B)
both? A B (no n) b = no (λ p. n p.0)
both? A B (yes a) (no n) = no (λ p. n p.1)
both? A B (yes a) (yes b) = yes (a, b)

idle? : (at : ℕ → Action) (i others : ℕ) (q : Goal) (s : ℕ) → others < 2 ^ 64 → q.need < 2 ^ 64 → q.avoid < 2 ^ 64 → Dec (Idle at i others q s s)
idle? at i others q s lo ln la =
    both? _ _
    (each? q.need _ (λ k. imp? _ _ (not? _ (has? s k)) (imp? _ _ (has? (gives at s i) k) (some? others _ (λ j. has? (gives at s j) k) lo))) ln)
    (each? q.avoid _ (λ k. imp? _ _ (has? s k) (imp? _ _ (has? (cuts at s i) k) (some? others _ (λ j. has? (cuts at s j) k) lo))) la)

-- ---- lean parts

module _ (t : Task) (few : t.count ≤ 64) (q : Goal) (ln : q.need < 2 ^ 64) (la : q.avoid < 2 ^ 64) (s : ℕ) where
  -- a step with no idle action is lean
  busy_lean : (step : ℕ) → step < 2 ^ 64 → ((i : ℕ) → Has step i → Idle t.at i (minus step (2 ^ i)) q s s → ⊥) → Lean t q s step
  busy_lean step lt f part sub ne g =
      elim (some_member step (λ i. Has part i → ⊥) (λ i. not? _ (has? part i)) lt) [
        | inr all ↦ ne (same_members part step sub (λ k h. elim (has? part k) [ yes y ↦ y | no n ↦ absurd (all k h n) ]))
        | inl x ↦ (
            let i : ℕ = x.0 in
            let r = (reaches_sure t few q s part g).1 in
            let other : (j : ℕ) → Has part j → Has (minus step (2 ^ i)) j =
            λ j hj. left_has step i j (sub j hj) (λ e. x.2 (subst (λ (y : ℕ). Has part y) e hj)) in
            f i x.1 (
              (λ k hk nt h. elim (r.0.1 k hk) [ inl a ↦ absurd (nt a) | inr p ↦ (p.0, other p.0 p.1, p.2) ]),
              (λ k hk ht h. let p = r.1.1 k hk ht in (p.0, other p.0 p.1, p.2)),
            ))
      ]

  abbrev Part : ℕ → Type 0
  Part step = (part : ℕ) × Inside part step × Pair t q s part

  lean_more : (step : ℕ) → step < 2 ^ 64 → Reaches t q s step
      → ((i : ℕ) × Has step i × Idle t.at i (minus step (2 ^ i)) q s s) ⊎ ((i : ℕ) → Has step i → Idle t.at i (minus step (2 ^ i)) q s s → ⊥)
      → ((i : ℕ) → Has step i → Reaches t q s (minus step (2 ^ i)) → Part (minus step (2 ^ i))) → Part step
  lean_more step lt g (inr f) ih = (step, (λ k h. h), record { reaches = g; lean = busy_lean step lt f })
  lean_more step lt g (inl x) ih =
      let r = ih x.0 x.1 (idle_reaches t few q s step x.0 g x.1 x.2) in
      (r.0, (λ k h. left_in step x.0 k (r.1 k h)), r.2)

  some_idle? : (step : ℕ) → step < 2 ^ 64
      → ((i : ℕ) × Has step i × Idle t.at i (minus step (2 ^ i)) q s s) ⊎ ((i : ℕ) → Has step i → Idle t.at i (minus step (2 ^ i)) q s s → ⊥)
  some_idle? step lt =
      some_member step (λ i. Idle t.at i (minus step (2 ^ i)) q s s) (λ i. idle? t.at i (minus step (2 ^ i)) q s (minus_lt step (2 ^ i) lt) ln la) lt

  lean_part : (n step : ℕ) → ones step ≡ n → step < 2 ^ 64 → Reaches t q s step → Part step
  lean_part zero step e lt g =
      lean_more step lt g (some_idle? step lt) (λ i h _. absurd (let z : ⊥ = omega (arith, ones_minus step i h) in z))
  lean_part (suc n) step e lt g =
      lean_more step lt g (some_idle? step lt)
      (λ i h r. lean_part n (minus step (2 ^ i)) (omega (arith, ones_minus step i h)) (minus_lt step (2 ^ i) lt) r)

  -- ---- helping effects

  some_effect : (es : List EffectRow) (P : EffectRow → Type 0) → ((e : EffectRow) → Dec (P e))
      → ((e : EffectRow) × Among e es × P e) ⊎ ((e : EffectRow) → Among e es → P e → ⊥)
  some_effect [] P d = inr (λ e i. absurd i)
  some_effect (x ∷ es) P d = elim (d x) [
    | yes p ↦ inl (x, inl refl, p)
    | no n ↦ elim (some_effect es P d) [
      | inl r ↦ inl (r.0, inr r.1, r.2)
      | inr f ↦ inr (λ e i p. elim i [ inl z ↦ n (subst P z p) | inr j ↦ f e j p ])
    ]
  ]

  useful? : (e : EffectRow) → Dec (Useful q e)
  useful? e = elim (some? q.need (λ k. Has e.add k) (λ k. has? e.add k) ln) [
    | yes x ↦ yes (x.0, inl (x.2, x.1))
    | no n ↦ elim (some? q.avoid (λ k. Has e.delete k) (λ k. has? e.delete k) la) [
      | yes y ↦ yes (y.0, inr (y.2, y.1))
      | no m ↦ no (λ u. elim u.1 [ inl a ↦ n (u.0, a.1, a.0) | inr b ↦ m (u.0, b.1, b.0) ])
    ]
  ]

  lean_helps : (step i : ℕ) → Pair t q s step → Has step i → Helps q (t.at i).effects
  lean_helps step i pair hi =
      elim (some_effect (t.at i).effects (Useful q) useful?) [
        | inl x ↦ x
        | inr f ↦ absurd (lean_busy t few q s step pair.reaches pair.lean (
          i,
          hi,
          (
            (λ k hk nt h. absurd (
                let r = gather_from (λ e. e.add) s k (t.at i).effects (minus_from _ _ k h) in f r.0 r.1 (k, inl (r.3, hk)))),
            (λ k hk ht h. absurd (
                let r = gather_from (λ e. e.delete) s k (t.at i).effects h in f r.0 r.1 (k, inr (r.3, hk)))),
          ),
        ))
      ]

  -- every step that leads into the goal has a lean part that lies in the root
  pub root_parts : (r : Node) → r.chosen ≡ 0 → r.region.need ≡ 0 → r.region.avoid ≡ 0
      → ((i : ℕ) → i < t.count → Helps q (t.at i).effects → Has r.candidates i)
      → (step : ℕ) → Reaches t q s step → (part : ℕ) × Inside part step × Pair t q s part × Lies r s part
  root_parts r ec en ea all step g =
      let l = lean_part (ones step) step refl (step_lt t step few g.firm.allowed) g in
      let pair : Pair t q s l.0 = l.2 in (
        l.0,
        l.1,
        pair,
        record {
          meets = record { holds = λ j hj. absurd (not_in_none _ j en hj); lacks = λ j hj _. not_in_none _ j ea hj };
          least = λ j hj. absurd (not_in_none _ j ec hj);
          most = λ j hj. or_right _ _ j (all j (pair.reaches.firm.allowed.known j hj) (lean_helps l.0 j pair hj));
        },
      )
