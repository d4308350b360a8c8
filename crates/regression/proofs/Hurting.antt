-- Verdicts on whether one action leaves another alone.
use Rattle.std.proofs.Common.{◌≡◌, ℕ, ◌⊎◌, sym, ◌∙◌, inl, inr}
use lib.Bits.{bit_and, bit_or}
use Rattle.sets.specs.Sets.{Has, minus}
use Rattle.sets.proofs.Bits.{has?}
use Rattle.sets.proofs.Members.{not_in_none}
use Rattle.problem.specs.Actions.{Action, gather, cuts}
use Rattle.problem.specs.declared.rows.EffectRow.{EffectRow}
use Rattle.regression.specs.Spans.{Between, reads, sure_gives, may_give, wanted, Unhurt}
use Rattle.regression.specs.Matters.{Rubs, Touches}
use Rattle.regression.specs.Verdicts.{Judged, Asks}
use Rattle.regression.specs.declared.verdict.Verdict.{Verdict}
use Rattle.sets.proofs.Parts.{or_left, or_right, or_either, and_both, and_left, and_right}
use Rattle.regression.proofs.Masks.{nothing, or_none, minus_has, minus_from, some_in, so}
use Rattle.regression.proofs.Firing.{touch, touched, open_in_hi, settled_cuts, settled_reads, cuts_up, gives_up, reads_up, gives_settled}
use Rattle.regression.proofs.Naming.{deleter, giver, names_changed, names_read}
use Rattle.regression.proofs.Judging.{asked}

module _ (at : ℕ → Action) (lo hi i j : ℕ) where
  -- a sure hurt
  hurt : (s : ℕ) → Between lo hi s → (k : ℕ) → Has (sure_gives at lo hi i) k ⊎ Has (reads at lo i) k → Has (cuts at lo j) k → Unhurt at i j s s → ⊥
  hurt s b k (inl g) c u = u.0 k (gives_up at lo hi s s b.0 b.1 i k g) (cuts_up at lo hi s s b.0 b.1 j k c)
  hurt s b k (inr g) c u = u.1 k (reads_up at lo hi s s b.0 b.1 i k g) (cuts_up at lo hi s s b.0 b.1 j k c)

  pub unhurt_no : (sure : ℕ) → sure ≡ bit_and (bit_or (sure_gives at lo hi i) (reads at lo i)) (cuts at lo j) → (sure ≡ 0 → ⊥)
      → (s : ℕ) → Between lo hi s → Unhurt at i j s s → ⊥
  unhurt_no sure es n s b =
      let m = some_in sure n in
      let h = so _ _ m.0 es m.1 in
      hurt s b m.0 (or_either _ _ m.0 (and_left _ _ m.0 h)) (and_right _ _ m.0 h)

module _ (at : ℕ → Action) (lo hi i j may : ℕ) (em : may ≡ bit_and (bit_or (may_give at lo hi i) (reads at hi i)) (cuts at hi j)) where
  may_has : (k : ℕ) → Has (bit_or (may_give at lo hi i) (reads at hi i)) k → Has (cuts at hi j) k → Has may k
  may_has k g c = so _ _ k (sym em) (and_both _ _ k g c)

  -- what may be hurt: i may give it or have to find it, and j may delete it
  at_risk : (k : ℕ) → Has may k → (Has (may_give at lo hi i) k ⊎ Has (reads at hi i) k) × Has (cuts at hi j) k
  at_risk k h = let m = so _ _ k em h in (or_either _ _ k (and_left _ _ k m), and_right _ _ k m)

  pub unhurt_yes : may ≡ 0 → Unhurt at i j lo hi
  unhurt_yes e = (
    (λ k g c. not_in_none may k e (may_has k (or_left _ _ k g) c)),
    (λ k g c. not_in_none may k e (may_has k (or_right _ _ k g) c)),
  )

  abbrev Rubbed : ℕ → Type 0
  Rubbed x = Rubs at i (at j) x ⊎ Rubs at j (at i) x

  -- an effect of i that is asked about touches j, and the other way round
  touches_j : (own : ℕ) → own ≡ minus may (reads at lo i) → (e : EffectRow) (k : ℕ) → Has (touch own own own e) k → Touches e (at j)
  touches_j own eo e k h =
      let by : Has own k → Has (cuts at hi j) k = λ o. (at_risk k (minus_from _ _ k (so _ _ k eo o))).1 in
      elim (touched own own own e k h) [
        | inl t ↦ (k, inl (inl t.0, names_changed at j k (deleter at hi j k (by t.1))))
        | inr t ↦ elim t [
          | inl m ↦ (k, inl (inr m.0, names_changed at j k (deleter at hi j k (by m.1))))
          | inr m ↦ (k, inr (m.0, deleter at hi j k (by m.1)))
        ]
      ]

  touches_i : (e : EffectRow) (k : ℕ) → Has (touch 0 may 0 e) k → Touches e (at i)
  touches_i e k h = elim (touched 0 may 0 e k h) [
    | inl t ↦ absurd (nothing k t.1)
    | inr t ↦ elim t [
      | inr m ↦ absurd (nothing k m.1)
      | inl m ↦ (
        k,
        inl (
          inr m.0,
          elim (at_risk k m.1).0 [
            | inl g ↦ names_changed at i k (giver at lo hi i k g)
            | inr r ↦ names_read at hi i k r
          ],
        ),
      )
    ]
  ]

  module _ (own ask : ℕ) (eo : own ≡ minus may (reads at lo i))
      (ea : ask ≡ bit_or (gather (wanted lo own own own) hi (at i).effects) (gather (wanted lo 0 may 0) hi (at j).effects)) where
    reads_settled : ask ≡ 0 → (k : ℕ) → Has own k → Has (reads at hi i) k → Has (reads at lo i) k
    reads_settled e k h r =
        elim (or_either _ _ k r) [
          | inl x ↦ or_left _ _ k x
          | inr x ↦ or_right _ _ k (settled_reads lo hi own own own (at i).effects (or_none _ _ (sym ea ∙ e)).0 k h x)
        ]

    surely : ask ≡ 0 → (k : ℕ) → Has may k → Has (sure_gives at lo hi i) k ⊎ Has (reads at lo i) k
    surely e k h = elim (has? (reads at lo i) k) [
      | yes y ↦ inr y
      | no y ↦ (let o : Has own k = so _ _ k (sym eo) (minus_has may (reads at lo i) k h y) in
          elim (at_risk k h).0 [
            | inl x ↦ inl (gives_settled at lo hi own own i (or_none _ _ (sym ea ∙ e)).0 k o x)
            | inr x ↦ inr (reads_settled e k o x)
          ])
    ]

    pub unhurt_asked : (may ≡ 0 → ⊥) → (v : Verdict) → Asks ask v → Judged lo hi (Unhurt at i j) Rubbed v
    unhurt_asked n =
        let m = some_in may n in
        let k : ℕ = m.0 in
        let r = at_risk k m.1 in
        asked lo hi (Unhurt at i j) Rubbed ask
        (λ e s b. hurt at lo hi i j s b k (surely e k m.1) (settled_cuts lo hi 0 may 0 (at j).effects (or_none _ _ (sym ea ∙ e)).1 k m.1 r.1))
        (λ x h. elim (or_either _ _ x (so _ _ x ea h)) [
          | inl y ↦ (let o = open_in_hi lo hi own own own (at i).effects x y in
              (o.0, o.1, inl (o.2.0, o.2.1, o.2.2, touches_j own eo o.2.0 o.2.3.0 o.2.3.1)))
          | inr y ↦ (let o = open_in_hi lo hi 0 may 0 (at j).effects x y in
              (o.0, o.1, inr (o.2.0, o.2.1, o.2.2, touches_i o.2.0 o.2.3.0 o.2.3.1)))
        ])
        (λ u. elim r.0 [ inl g ↦ u.0 k g r.1 | inr g ↦ u.1 k g r.1 ])
