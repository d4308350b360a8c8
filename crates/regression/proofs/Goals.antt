-- Verdicts on what a step does to the atoms of a goal.
use Rattle.std.proofs.Common.{◌≡◌, ℕ, ◌⊎◌, sym, ◌∙◌, ap₂, inl, inr}
use lib.Bits.{bit_and}
use Rattle.sets.specs.Sets.{Has, Inside, minus}
use Rattle.sets.proofs.Bits.{has?}
use Rattle.sets.proofs.Members.{not_in_none}
use Rattle.problem.specs.Actions.{Action, cuts}
use Rattle.problem.specs.Runs.{Goal}
use Rattle.problem.specs.declared.rows.EffectRow.{EffectRow}
use Rattle.regression.specs.Spans.{Between, sure_gives, may_give, Union, opens, Kept, Got, Ungiven, Cleared, Reached}
use Rattle.regression.specs.Matters.{GoalNames, Changes, Sways, Serving}
use Rattle.regression.specs.Verdicts.{Judged, both_of, Asks}
use Rattle.regression.specs.declared.verdict.Verdict.{Verdict}
use Rattle.sets.proofs.Parts.{and_both, and_left, and_right}
use Rattle.regression.proofs.Masks.{nothing, minus_has, minus_from, minus_not, some_in, so}
use Rattle.regression.proofs.Firing.{touch, open_in_hi, touched, settled_cuts, cuts_up, cuts_down, gives_up, gives_down, gives_settled}
use Rattle.regression.proofs.Unions.{union_none}
use Rattle.regression.proofs.Judging.{judged_both, judged_named, judged_is, asked}

-- what an effect that was asked about changes
changed : (q w w' : ℕ) (e : EffectRow) (k : ℕ) → Inside w q → Inside w' q → Has (touch w w' 0 e) k → Changes e k × Has q k
changed q w w' e k a d h = elim (touched w w' 0 e k h) [
  | inl t ↦ (inl t.0, a k t.1)
  | inr t ↦ elim t [ inl m ↦ (inr m.0, d k m.1) | inr m ↦ absurd (nothing k m.1) ]
]

-- an open atom of the step is fresh, and sways the set
pub sways : (at : ℕ → Action) (lo hi step q w w' ask : ℕ) → Inside w q → Inside w' q → Union (opens at lo hi w w') step ask
    → (x : ℕ) → Has ask x → Has hi x × (Has lo x → ⊥) × Sways at step q x
sways at lo hi step q w w' ask a d u x h =
    let r = u.from x h in
    let o = open_in_hi lo hi w w' 0 (at r.0).effects x r.2 in
    let c = changed q w w' o.2.0 o.2.3.0 a d o.2.3.1 in
    (o.0, o.1, (r.0, r.1, (o.2.0, o.2.1, o.2.2, (o.2.3.0, c.0, c.1))))

module _ (at : ℕ → Action) (lo hi step q : ℕ) where
  abbrev Name : ℕ → Type 0
  Name x = Has q x ⊎ Sways at step q x

  module _ (sure may : ℕ) (us : Union (cuts at lo) step sure) (um : Union (cuts at hi) step may) where
    pub kept_yes : bit_and q may ≡ 0 → Kept at step q lo hi
    kept_yes e j hj k hq c = not_in_none (bit_and q may) k e (and_both q may k hq (um.into j hj k c))

    pub kept_no : (bit_and q sure ≡ 0 → ⊥) → (s : ℕ) → Between lo hi s → Kept at step q s s → ⊥
    kept_no n s b f =
        let m = some_in (bit_and q sure) n in
        let k : ℕ = m.0 in
        let r = us.from k (and_right q sure k m.1) in
        f r.0 r.1 k (and_left q sure k m.1) (cuts_up at lo hi s s b.0 b.1 r.0 k r.2)

    pub kept_asked : (bit_and q may ≡ 0 → ⊥) → (ask : ℕ) → Union (opens at lo hi 0 (bit_and q may)) step ask → (v : Verdict) → Asks ask v
        → Judged lo hi (Kept at step q) Name v
    kept_asked n ask ua =
        let m = some_in (bit_and q may) n in
        let k : ℕ = m.0 in
        let r = um.from k (and_right q may k m.1) in
        asked lo hi (Kept at step q) Name ask
        (λ e s b f.
        let low = settled_cuts lo hi 0 (bit_and q may) 0 (at r.0).effects (union_none _ step ask ua e r.0 r.1) k m.1 r.2 in
        f r.0 r.1 k (and_left q may k m.1) (cuts_up at lo hi s s b.0 b.1 r.0 k low))
        (λ x h. let f = sways at lo hi step q 0 (bit_and q may) ask (λ x z. absurd (nothing x z)) (and_left q may) ua x h in (f.0, f.1, inr f.2))
        (λ f. f r.0 r.1 k (and_left q may k m.1) r.2)

    module _ (m : ℕ) (em : m ≡ minus (bit_and q hi) sure) where
      -- what may stay: it may be there, and is not surely deleted
      stays : (k : ℕ) → Has m k → Has q k × Has hi k × (Has sure k → ⊥)
      stays k h =
          let g : Has (minus (bit_and q hi) sure) k = so _ _ k em h in
          let f = minus_from (bit_and q hi) sure k g in
          (and_left q hi k f, and_right q hi k f, minus_not (bit_and q hi) sure k g)

      pub cleared_yes : m ≡ 0 → Cleared at step q lo hi
      cleared_yes e k hq h = elim (has? sure k) [
        | yes y ↦ us.from k y
        | no n ↦ absurd (not_in_none m k e (so _ _ k (sym em) (minus_has (bit_and q hi) sure k (and_both q hi k hq h) n)))
      ]

      pub cleared_no : (u : ℕ) → u ≡ minus (bit_and q lo) may → (u ≡ 0 → ⊥) → (s : ℕ) → Between lo hi s → Cleared at step q s s → ⊥
      cleared_no u eu n s b f =
          let x = some_in u n in
          let k : ℕ = x.0 in
          let h : Has (minus (bit_and q lo) may) k = so _ _ k eu x.1 in
          let g = minus_from (bit_and q lo) may k h in
          let r = f k (and_left q lo k g) (b.0 k (and_right q lo k g)) in
          minus_not (bit_and q lo) may k h (um.into r.0 r.1 k (cuts_down at lo hi s s b.0 b.1 r.0 k r.2))

      module _ (ne : m ≡ 0 → ⊥) where
        wrong : (k : ℕ) × Has m k
        wrong = some_in m ne

        unsure : Cleared at step q lo hi → ⊥
        unsure f =
            let k : ℕ = wrong.0 in
            let t = stays k wrong.1 in
            let r = f k t.0 t.1 in
            t.2 (us.into r.0 r.1 k r.2)

        pub cleared_open : (o : ℕ) → o ≡ minus m lo → (o ≡ 0 → ⊥) → (v : Verdict) → Asks o v → Judged lo hi (Cleared at step q) Name v
        cleared_open o eo no-o =
            asked lo hi (Cleared at step q) Name o (λ e. absurd (no-o e))
            (λ x h. let g = so _ _ x eo h in let t = stays x (minus_from m lo x g) in (t.1, minus_not m lo x g, inl t.0))
            unsure

        pub cleared_asked : (o : ℕ) → o ≡ minus m lo → o ≡ 0 → (ask : ℕ) → Union (opens at lo hi 0 m) step ask → (v : Verdict) → Asks ask v
            → Judged lo hi (Cleared at step q) Name v
        cleared_asked o eo z ask ua =
            let k : ℕ = wrong.0 in
            let t = stays k wrong.1 in
            let low : Has lo k = elim (has? lo k) [
              | yes y ↦ y
              | no n ↦ absurd (not_in_none o k z (so _ _ k (sym eo) (minus_has m lo k wrong.1 n)))
            ] in
            asked lo hi (Cleared at step q) Name ask
            (λ e s b f.
            let r = f k t.0 (b.0 k low) in
            t.2 (us.into r.0 r.1 k
            (settled_cuts lo hi 0 m 0 (at r.0).effects (union_none _ step ask ua e r.0 r.1) k wrong.1
            (cuts_down at lo hi s s b.0 b.1 r.0 k r.2))))
            (λ x h. let f = sways at lo hi step q 0 m ask (λ x w. absurd (nothing x w)) (λ x w. (stays x w).0) ua x h in (f.0, f.1, inr f.2))
            unsure

  module _ (sure may : ℕ) (us : Union (sure_gives at lo hi) step sure) (um : Union (may_give at lo hi) step may) where
    pub ungiven_yes : bit_and q may ≡ 0 → Ungiven at step q lo hi
    ungiven_yes e j hj k hq c = not_in_none (bit_and q may) k e (and_both q may k hq (um.into j hj k c))

    pub ungiven_no : (bit_and q sure ≡ 0 → ⊥) → (s : ℕ) → Between lo hi s → Ungiven at step q s s → ⊥
    ungiven_no n s b f =
        let m = some_in (bit_and q sure) n in
        let k : ℕ = m.0 in
        let r = us.from k (and_right q sure k m.1) in
        f r.0 r.1 k (and_left q sure k m.1) (gives_up at lo hi s s b.0 b.1 r.0 k r.2)

    pub ungiven_asked : (bit_and q may ≡ 0 → ⊥) → (ask : ℕ) → Union (opens at lo hi (bit_and q may) (bit_and q may)) step ask → (v : Verdict) → Asks ask v
        → Judged lo hi (Ungiven at step q) Name v
    ungiven_asked n ask ua =
        let m = some_in (bit_and q may) n in
        let k : ℕ = m.0 in
        let r = um.from k (and_right q may k m.1) in
        asked lo hi (Ungiven at step q) Name ask
        (λ e s b f.
        let low = gives_settled at lo hi (bit_and q may) 0 r.0 (union_none _ step ask ua e r.0 r.1) k m.1 r.2 in
        f r.0 r.1 k (and_left q may k m.1) (gives_up at lo hi s s b.0 b.1 r.0 k low))
        (λ x h. let f = sways at lo hi step q (bit_and q may) (bit_and q may) ask (and_left q may) (and_left q may) ua x h in (f.0, f.1, inr f.2))
        (λ f. f r.0 r.1 k (and_left q may k m.1) r.2)

    module _ (m : ℕ) (em : m ≡ minus (minus q lo) sure) where
      -- what may be wanting: it may be absent, and is not surely given
      wants : (k : ℕ) → Has m k → Has q k × (Has lo k → ⊥) × (Has sure k → ⊥)
      wants k h =
          let g : Has (minus (minus q lo) sure) k = so _ _ k em h in
          let f = minus_from (minus q lo) sure k g in
          (minus_from q lo k f, minus_not q lo k f, minus_not (minus q lo) sure k g)

      pub got_yes : m ≡ 0 → Got at step q lo hi
      got_yes e k hq = elim (has? lo k) [
        | yes h ↦ inl h
        | no n ↦ elim (has? sure k) [
          | yes h ↦ inr (us.from k h)
          | no o ↦ absurd (not_in_none m k e (so _ _ k (sym em) (minus_has (minus q lo) sure k (minus_has q lo k hq n) o)))
        ]
      ]

      pub got_no : (u : ℕ) → u ≡ minus (minus q hi) may → (u ≡ 0 → ⊥) → (s : ℕ) → Between lo hi s → Got at step q s s → ⊥
      got_no u eu n s b f =
          let x = some_in u n in
          let k : ℕ = x.0 in
          let h : Has (minus (minus q hi) may) k = so _ _ k eu x.1 in
          let g = minus_from (minus q hi) may k h in
          elim (f k (minus_from q hi k g)) [
            | inl y ↦ minus_not q hi k g (b.1 k y)
            | inr r ↦ minus_not (minus q hi) may k h (um.into r.0 r.1 k (gives_down at lo hi s s b.0 b.1 r.0 k r.2))
          ]

      module _ (ne : m ≡ 0 → ⊥) where
        lacking : (k : ℕ) × Has m k
        lacking = some_in m ne

        not_sure : Got at step q lo hi → ⊥
        not_sure f =
            let k : ℕ = lacking.0 in
            let t = wants k lacking.1 in
            elim (f k t.0) [ inl y ↦ t.1 y | inr r ↦ t.2 (us.into r.0 r.1 k r.2) ]

        pub got_open : (bit_and m hi ≡ 0 → ⊥) → (v : Verdict) → Asks (bit_and m hi) v → Judged lo hi (Got at step q) Name v
        got_open no-o =
            asked lo hi (Got at step q) Name (bit_and m hi) (λ e. absurd (no-o e))
            (λ x h. let t = wants x (and_left m hi x h) in (and_right m hi x h, t.1, inl t.0)) not_sure

        pub got_asked : bit_and m hi ≡ 0 → (ask : ℕ) → Union (opens at lo hi m m) step ask → (v : Verdict) → Asks ask v → Judged lo hi (Got at step q) Name v
        got_asked z ask ua =
            let k : ℕ = lacking.0 in
            let t = wants k lacking.1 in
            asked lo hi (Got at step q) Name ask
            (λ e s b f. elim (f k t.0) [
              | inl y ↦ not_in_none (bit_and m hi) k z (and_both m hi k lacking.1 (b.1 k y))
              | inr r ↦ t.2 (us.into r.0 r.1 k
                  (gives_settled at lo hi m 0 r.0 (union_none _ step ask ua e r.0 r.1) k lacking.1
                  (gives_down at lo hi s s b.0 b.1 r.0 k r.2)))
            ])
            (λ x h. let f = sways at lo hi step q m m ask (λ x w. (wants x w).0) (λ x w. (wants x w).0) ua x h in (f.0, f.1, inr f.2))
            not_sure

-- ---- all four together

module _ (at : ℕ → Action) (lo hi step : ℕ) (q : Goal) where
  abbrev Told : ℕ → Type 0
  Told x = GoalNames q x ⊎ Serving at step q x

  of_need : (x : ℕ) → Has q.need x ⊎ Sways at step q.need x → Told x
  of_need x (inl h) = inl (inl h)
  of_need x (inr s) = inr (s.0, s.1, (s.2.0, s.2.1, s.2.2, (s.2.3.0, s.2.3.1, inl s.2.3.2)))

  of_avoid : (x : ℕ) → Has q.avoid x ⊎ Sways at step q.avoid x → Told x
  of_avoid x (inl h) = inl (inr h)
  of_avoid x (inr s) = inr (s.0, s.1, (s.2.0, s.2.1, s.2.2, (s.2.3.0, s.2.3.1, inr s.2.3.2)))

  pub reached_judged : (a b c d ab cd v : Verdict) → ab ≡ both_of a b → cd ≡ both_of c d → v ≡ both_of ab cd
      → Judged lo hi (Kept at step q.need) (λ x. Has q.need x ⊎ Sways at step q.need x) a
      → Judged lo hi (Got at step q.need) (λ x. Has q.need x ⊎ Sways at step q.need x) b
      → Judged lo hi (Ungiven at step q.avoid) (λ x. Has q.avoid x ⊎ Sways at step q.avoid x) c
      → Judged lo hi (Cleared at step q.avoid) (λ x. Has q.avoid x ⊎ Sways at step q.avoid x) d
      → Judged lo hi (Reached at step q) Told v
  reached_judged a b c d ab cd v e f g ja jb jc jd =
      let needed = judged_both lo hi (Kept at step q.need) (Got at step q.need) Told a b
      (judged_named lo hi (Kept at step q.need) _ Told of_need a ja) (judged_named lo hi (Got at step q.need) _ Told of_need b jb) in
      let avoided = judged_both lo hi (Ungiven at step q.avoid) (Cleared at step q.avoid) Told c d
      (judged_named lo hi (Ungiven at step q.avoid) _ Told of_avoid c jc) (judged_named lo hi (Cleared at step q.avoid) _ Told of_avoid d jd) in
      judged_is lo hi (Reached at step q) Told _ v (sym (g ∙ ap₂ both_of e f))
      (judged_both lo hi (λ l h. Kept at step q.need l h × Got at step q.need l h)
      (λ l h. Ungiven at step q.avoid l h × Cleared at step q.avoid l h) Told (both_of a b) (both_of c d) needed avoided)
