-- What is asked about one action concerns the step.
use Rattle.std.proofs.Common.{◌≡◌, ℕ, ◌^◌, ◌≢◌, ◌⊎◌, List, sym, ap, ◌∙◌, subst, subst₂, inl, inr}
use Rattle.sets.specs.Sets.{Has, Inside, minus}
use Rattle.problem.specs.Actions.{Action}
use Rattle.problem.specs.declared.rows.EffectRow.{EffectRow}
use Rattle.problem.proofs.Listed.{left_in, left_other}
use Rattle.regression.specs.Spans.{Unhurt, UnhurtBy, RestAll, Fine}
use Rattle.regression.specs.Matters.{Rubs, Stirred, Rubbed, Concerns}
use Rattle.regression.specs.Verdicts.{Judged, both_of, OfAll}
use Rattle.regression.specs.declared.verdict.Verdict.{Verdict}
use Rattle.regression.proofs.Masks.{so}
use Rattle.regression.proofs.Judging.{judged_both, judged_named, judged_is, all_judged}

module _ (at : ℕ → Action) (step i : ℕ) (hi-in : Has step i) where
  abbrev Others : ℕ
  Others = minus step (2 ^ i)

  apart : (j : ℕ) → Has Others j → i ≢ j
  apart j h e = left_other step i j h (sym e)

  rubbed_concerns : (x : ℕ) → Rubbed at i Others x → Concerns at step x
  rubbed_concerns x r = elim r.2 [
    | inl a ↦ (i, hi-in, inr (r.0, left_in step i r.0 r.1, left_other step i r.0 r.1, a))
    | inr b ↦ (r.0, left_in step i r.0 r.1, inr (i, hi-in, apart r.0 r.1, b))
  ]

  stirred_concerns : (x : ℕ) → Stirred at (at i).effects Others x → Concerns at step x
  stirred_concerns x r = elim r.2 [
    | inl a ↦ (
        let s = a.1 in (
          i,
          hi-in,
          inr (
            s.0,
            left_in step i s.0 s.1,
            left_other step i s.0 s.1,
            (r.0, r.1, a.0, (s.2.2.0, inr (s.2.2.2, (s.2.0, s.2.1, s.2.2.1)))),
          ),
        ))
    | inr b ↦ (
      b.0,
      left_in step i b.0 b.1,
      inr (
        i,
        hi-in,
        apart b.0 b.1,
        (b.2.0, b.2.1, b.2.2, (b.2.3.0, inl (b.2.3.1, inr (r.0, r.1, inl b.2.3.2)))),
      ),
    )
  ]

  module _ (lo hi others : ℕ) (eo : others ≡ Others) where
    -- what the others do, named by the step
    pub unhurt_concerns : (k : ℕ) → k ≡ i → (v : Verdict) → Judged lo hi (UnhurtBy at k others) (Rubbed at k others) v
        → Judged lo hi (UnhurtBy at i Others) (Concerns at step) v
    unhurt_concerns k ek v j =
        judged_named lo hi (UnhurtBy at i Others) (Rubbed at i Others) (Concerns at step) rubbed_concerns v
        (subst₂ (λ (x y : ℕ). Judged lo hi (UnhurtBy at x y) (Rubbed at x y) v) ek eo j)

    rest_concerns : (es : List EffectRow) → es ≡ (at i).effects → (v : Verdict) → Judged lo hi (RestAll at es others) (Stirred at es others) v
        → Judged lo hi (RestAll at (at i).effects Others) (Concerns at step) v
    rest_concerns es ee v j =
        judged_named lo hi (RestAll at (at i).effects Others) (Stirred at (at i).effects Others) (Concerns at step) stirred_concerns v
        (subst (λ (y : ℕ). Judged lo hi (RestAll at (at i).effects y) (Stirred at (at i).effects y) v) eo
        (subst (λ (y : List EffectRow). Judged lo hi (RestAll at y others) (Stirred at y others) v) ee j))

  module _ (lo hi : ℕ) where
    -- the verdicts on what each of the others does are one on what they do
    pub unhurt_judged : (others : ℕ) → others ≡ Others → {P : ℕ → Verdict → Type 0} {v : Verdict} → OfAll (Has others) P v
        → ((j : ℕ) (w : Verdict) → Has others j → P j w → Judged lo hi (Unhurt at i j) (λ x. Rubs at i (at j) x ⊎ Rubs at j (at i) x) w)
        → Judged lo hi (UnhurtBy at i Others) (Concerns at step) v
    unhurt_judged others eo {P} {v} a f =
        subst (λ (y : ℕ). Judged lo hi (UnhurtBy at i y) (Concerns at step) v) eo
        (all_judged lo hi (λ j. Unhurt at i j) (Concerns at step) a
        (λ j w m p. judged_named lo hi (Unhurt at i j) _ (Concerns at step) (λ x n. rubbed_concerns x (j, so _ _ j eo m, n)) w (f j w m p)))

    pub fine_judged : (own near far calm v : Verdict) → calm ≡ both_of near far → v ≡ both_of own calm
        → Judged lo hi (λ l h. Inside (at i).precondition l) (λ x. Has (at i).precondition x) own
        → Judged lo hi (UnhurtBy at i Others) (Concerns at step) near
        → Judged lo hi (RestAll at (at i).effects Others) (Stirred at (at i).effects Others) far
        → Judged lo hi (Fine at step i) (Concerns at step) v
    fine_judged own near far calm v ec ev jo jn jf =
        let P : ℕ → ℕ → Type 0 = λ l h. Inside (at i).precondition l in
        let o : Judged lo hi P (Concerns at step) own =
        judged_named lo hi P (λ x. Has (at i).precondition x) (Concerns at step) (λ x h. (i, hi-in, inl h)) own jo in
        let r : Judged lo hi (RestAll at (at i).effects Others) (Concerns at step) far =
        judged_named lo hi (RestAll at (at i).effects Others) (Stirred at (at i).effects Others) (Concerns at step) stirred_concerns far jf in
        judged_is lo hi (Fine at step i) (Concerns at step) _ v (sym (ev ∙ ap (both_of own) ec))
        (judged_both lo hi P (λ l h. UnhurtBy at i Others l h × RestAll at (at i).effects Others l h) (Concerns at step) own (both_of near far) o
        (judged_both lo hi (UnhurtBy at i Others) (RestAll at (at i).effects Others) (Concerns at step) near far jn r))
