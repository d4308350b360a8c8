-- Verdicts on effects that must not come to fire, and on preconditions.
use Rattle.std.proofs.Common.{◌≡◌, ℕ, ◌+◌, ◌<◌, ◌≤◌, Bool, true, false, cond, T, eqb, ◌⊎◌, List, length, sym, refl, ap, ◌∙◌, subst, inl, inr, eqb→eq, arith}
use native.Mathlib.Decide.{ℕ_discrete}
use lib.Bits.{bit_and}
use Rattle.sets.specs.Sets.{Has, Inside, Apart, minus}
use Rattle.sets.proofs.Bits.{has?, inside_and, and_inside, apart_and, and_apart}
use Rattle.sets.proofs.Members.{not_in_none}
use Rattle.problem.specs.Actions.{Action, Among, adds, deletes, cuts}
use Rattle.problem.specs.Rows.{effect_at}
use Rattle.problem.specs.declared.rows.EffectRow.{EffectRow}
use Rattle.regression.specs.Spans.{Between, may_give, Union, opens, may_help, Helped, Rest, RestAll}
use Rattle.regression.specs.Matters.{Stirs, Sways, Stirred}
use Rattle.regression.specs.Verdicts.{Judged, both_of, OfAll, Asks}
use Rattle.regression.specs.declared.verdict.Verdict.{Verdict}
use Rattle.sets.proofs.Parts.{and_both, and_left, and_right}
use Rattle.regression.proofs.Masks.{nothing, minus_has, minus_from, minus_not, some_in, so}
use Rattle.regression.proofs.Firing.{cond_zero, settled_adds, settled_cuts, cuts_down, gives_up}
use Rattle.regression.proofs.Naming.{giver}
use Rattle.regression.proofs.Unions.{union_none}
use Rattle.regression.proofs.Judging.{asked, judged_named, all_more, all_judged}
use Rattle.regression.proofs.Places.{among_at, at_among}
use Rattle.regression.proofs.Goals.{sways}

help_from : (x g k : ℕ) (b : Bool) → eqb x 0 ≡ b → Has (cond b g 0) k → (x ≡ 0) × Has g k
help_from x g k true q h = (eqb→eq x 0 (subst T (sym q) tt), h)
help_from x g k false q h = absurd (nothing k h)

module _ (at : ℕ → Action) (lo hi others c gain : ℕ) (ug : Union (may_help at lo hi c) others gain) where
  -- what the others may give to the condition
  helped_gain : (k : ℕ) → Helped at others c lo hi k → Has gain k
  helped_gain k h =
      let e : bit_and (cuts at lo h.0) c ≡ 0 = apart_and _ _ (λ x hx hc. h.2 x hc hx) in
      ug.into h.0 h.1 k (so _ _ k (sym (cond_zero (bit_and (cuts at lo h.0) c) (may_give at lo hi h.0) 0 e)) h.3)

  gain_helped : (k : ℕ) → Has gain k → Helped at others c lo hi k
  gain_helped k h =
      let u = ug.from k h in
      let j : ℕ = u.0 in
      let f = help_from (bit_and (cuts at lo j) c) (may_give at lo hi j) k (eqb (bit_and (cuts at lo j) c) 0) refl u.2 in
      (j, u.1, (λ x hx hc. and_apart (cuts at lo j) c f.0 x hc hx), f.1)

  pub rest_absent : (absent : ℕ) → absent ≡ minus c hi → (bit_and absent gain ≡ absent → ⊥) → Rest at others c lo hi
  rest_absent absent e n all = absurd (n (inside_and absent gain (λ k h.
      let m : Has (minus c hi) k = so _ _ k e h in
      elim (all k (minus_from c hi k m)) [ inl y ↦ absurd (minus_not c hi k m y) | inr g ↦ helped_gain k g ])))

  module _ (missing : ℕ) (em : missing ≡ minus c lo) where
    is_missing : (k : ℕ) → Has c k → (Has lo k → ⊥) → Has missing k
    is_missing k h n = so _ _ k (sym em) (minus_has c lo k h n)

    missing_is : (k : ℕ) → Has missing k → Has c k × (Has lo k → ⊥)
    missing_is k h = let m = so _ _ k em h in (minus_from c lo k m, minus_not c lo k m)

    pub rest_still : bit_and missing gain ≡ 0 → Rest at others c lo hi
    rest_still e all k hc n g = not_in_none (bit_and missing gain) k e (and_both missing gain k (is_missing k hc n) (helped_gain k g))

    abbrev Stirring : ℕ → Type 0
    Stirring x = (Has c x × Stirs at others c) ⊎ Sways at others c x

    module _ (absent : ℕ) (ea : absent ≡ minus c hi) (all : bit_and absent gain ≡ absent) (ne : bit_and missing gain ≡ 0 → ⊥) where
      one : (k : ℕ) × Has (bit_and missing gain) k
      one = some_in (bit_and missing gain) ne

      one_missing : Has missing one.0
      one_missing = and_left missing gain one.0 one.1

      one_helped : Helped at others c lo hi one.0
      one_helped = gain_helped one.0 (and_right missing gain one.0 one.1)

      absent_helped : (k : ℕ) → Has c k → (Has hi k → ⊥) → Helped at others c lo hi k
      absent_helped k hc n = gain_helped k (and_inside absent gain all k (so _ _ k (sym ea) (minus_has c hi k hc n)))

      unsure : Rest at others c lo hi → ⊥
      unsure r =
          r (λ k hc. elim (has? hi k) [ yes y ↦ inl y | no n ↦ inr (absent_helped k hc n) ])
          one.0 (missing_is one.0 one_missing).0 (missing_is one.0 one_missing).1 one_helped

      stirs : Stirs at others c
      stirs =
          let h = one_helped in
          let g = giver at lo hi h.0 one.0 h.3 in
          (h.0, h.1, (g.0, g.1, (one.0, g.2, (missing_is one.0 one_missing).0)))

      pub rest_open : (bit_and missing hi ≡ 0 → ⊥) → (v : Verdict) → Asks (bit_and missing hi) v → Judged lo hi (Rest at others c) Stirring v
      rest_open no-o =
          asked lo hi (Rest at others c) Stirring (bit_and missing hi) (λ e. absurd (no-o e))
          (λ x h. let m = missing_is x (and_left missing hi x h) in (and_right missing hi x h, m.1, inl (m.0, stirs)))
          unsure

      module _ (none : bit_and missing hi ≡ 0) (ask : ℕ) (ua : Union (opens at lo hi missing c) others ask) where
        outside : (k : ℕ) → Has missing k → Has hi k → ⊥
        outside k m h = not_in_none (bit_and missing hi) k none (and_both missing hi k m h)

        -- who may help does help, where nothing of it is open
        helps : ask ≡ 0 → (s : ℕ) → Between lo hi s → (k : ℕ) → Has missing k → Helped at others c lo hi k → Helped at others c s s k
        helps z s b k m h =
            let j : ℕ = h.0 in
            let shut = union_none (opens at lo hi missing c) others ask ua z j h.1 in
            let apart : Apart c (cuts at hi j) = λ x hx hc. h.2 x hx (settled_cuts lo hi missing c 0 (at j).effects shut x hx hc) in (
              j,
              h.1,
              (λ x hx hc. apart x hx (cuts_down at lo hi s s b.0 b.1 j x hc)),
              gives_up at lo hi s s b.0 b.1 j k (minus_has (adds lo (at j).effects) (deletes hi (at j).effects) k
                  (settled_adds lo hi missing c 0 (at j).effects shut k m (minus_from _ _ k h.3)) (apart k (missing_is k m).0)),
            )

        pub rest_asked : (v : Verdict) → Asks ask v → Judged lo hi (Rest at others c) Stirring v
        rest_asked =
            asked lo hi (Rest at others c) Stirring ask
            (λ z s b r. r
            (λ k hc. elim (has? lo k) [
              | yes y ↦ inl (b.0 k y)
              | no n ↦ (let m = is_missing k hc n in inr (helps z s b k m (absent_helped k hc (outside k m))))
            ])
            one.0 (missing_is one.0 one_missing).0 (λ y. outside one.0 one_missing (b.1 one.0 y))
            (helps z s b one.0 one_missing one_helped))
            (λ x h. let f = sways at lo hi others c missing c ask (λ k m. (missing_is k m).0) (λ k m. m) ua x h in (f.0, f.1, inr f.2))
            unsure

-- ---- a precondition

module _ (lo hi c missing : ℕ) (em : missing ≡ minus c lo) where
  lacks : (k : ℕ) → Has missing k → Has c k × (Has lo k → ⊥)
  lacks k h = let m = so _ _ k em h in (minus_from c lo k m, minus_not c lo k m)

  pub ready_yes : missing ≡ 0 → Inside c lo
  ready_yes e k h = elim (has? lo k) [ yes y ↦ y | no n ↦ absurd (not_in_none missing k e (so _ _ k (sym em) (minus_has c lo k h n))) ]

  pub ready_no : (absent : ℕ) → absent ≡ minus c hi → (absent ≡ 0 → ⊥) → (s : ℕ) → Between lo hi s → Inside c s → ⊥
  ready_no absent ea n s b f =
      let m = some_in absent n in
      let h = so _ _ m.0 ea m.1 in
      minus_not c hi m.0 h (b.1 m.0 (f m.0 (minus_from c hi m.0 h)))

  pub ready_asked : (missing ≡ 0 → ⊥) → (v : Verdict) → Asks (bit_and missing hi) v → Judged lo hi (λ l h. Inside c l) (λ x. Has c x) v
  ready_asked n =
      let m = some_in missing n in
      let k : ℕ = m.0 in
      asked lo hi (λ l h. Inside c l) (λ x. Has c x) (bit_and missing hi)
      (λ e s b f. not_in_none (bit_and missing hi) k e (and_both missing hi k m.1 (b.1 k (f k (lacks k m.1).0))))
      (λ x h. let l = lacks x (and_left missing hi x h) in (and_right missing hi x h, l.1, l.0))
      (λ f. (lacks k m.1).1 (f k (lacks k m.1).0))

-- ---- along the effects of an action

-- the effect stands before the place n
abbrev pub Before : List EffectRow → ℕ → EffectRow → Type 0
Before es n e = (m : ℕ) × (m < n) × (e ≡ effect_at es m)

module _ (at : ℕ → Action) (lo hi others : ℕ) (es : List EffectRow) where
  -- the verdict on one effect
  abbrev pub RestsIn : EffectRow → Verdict → Type 0
  RestsIn e v = Judged lo hi (Rest at others e.condition) (Stirred at es others) v

  pub one_before : (n : ℕ) → n < length es → (v last : Verdict) → OfAll (Before es n) RestsIn v
      → Judged lo hi (Rest at others (effect_at es n).condition)
      (λ x. (Has (effect_at es n).condition x × Stirs at others (effect_at es n).condition) ⊎ Sways at others (effect_at es n).condition x) last
      → OfAll (Before es (n + 1)) RestsIn (both_of v last)
  one_before n h v last a o =
      all_more (Before es n) (Before es (n + 1)) (effect_at es n) RestsIn (λ e b. (b.0, omega (arith, b.1), b.2)) (n, omega arith, refl)
      (λ e b. elim (ℕ_discrete b.0 n) [
        | yes q ↦ inr (b.2 ∙ ap (effect_at es) q)
        | no q ↦ inl (b.0, omega (arith, b.1), b.2)
      ]) v last a
      (judged_named lo hi (Rest at others (effect_at es n).condition) _ (Stirred at es others) (λ x m. (effect_at es n, among_at es n h, m)) last o)

  pub among_rests : {v : Verdict} → OfAll (λ e. Among e es) RestsIn v → Judged lo hi (RestAll at es others) (Stirred at es others) v
  among_rests a = all_judged lo hi (λ e. Rest at others e.condition) (Stirred at es others) a (λ e w m j. j)

  pub before_among : (n : ℕ) → n ≤ length es → (e : EffectRow) → Before es n e → Among e es
  before_among n h e b = subst (λ (y : EffectRow). Among y es) (sym b.2) (among_at es b.0 (omega (arith, b.1)))

  pub among_before : (n : ℕ) → n ≡ length es → (e : EffectRow) → Among e es → Before es n e
  among_before n h e m = let r = at_among es e m in (r.0, omega (arith, r.1), r.2)
