-- One turn of the loops over an action's effects.
use Rattle.std.proofs.Common.{MatchBool, ◌≡◌, ℕ, zero, suc, ◌+◌, ◌-◌, ◌<◌, ◌≤◌, Bool, true, false, cond, not, List, [], ◌∷◌, length, drop, Some, None, Decides, sym, refl, ap, ◌∙◌, subst, arith}
use mathlib.Core.Bool.{beq}
use Rattle.std.specs.List.{AllWithin, HoldsAt}
use Rattle.std.specs.Borrow.{Bor}
use native.Mathlib.Decide.{dec_le}
use lib.Bits.{bit_or, or_zero_r}
use Rattle.std.proofs.lemmas.List.{at_drop_more, at_drop_all, drop_more, get_or_default}
use Rattle.std.proofs.lemmas.Bool.{false≢true, eqb-true, eq-eqb, ne_eqb, both_ways}
use Rattle.std.proofs.lemmas.Bool.Decides.{same_from_decides}
use Rattle.sets.specs.Sets.{Inside}
use Rattle.sets.specs.Search.{Holds, First, NextFitting}
use Rattle.sets.proofs.Bits.{bit_of_or, same_bits, and_inside, inside_and}
use Rattle.problem.specs.Rows.{effect_at}
use Rattle.problem.specs.Actions.{gather, fires, FireAlike}
use Rattle.problem.specs.declared.rows.EffectRow.{EffectRow}

pub or_assoc : (a b c : ℕ) → bit_or (bit_or a b) c ≡ bit_or a (bit_or b c)
or_assoc a b c = same_bits _ _ (λ k. omega (arith, bit_of_or (bit_or a b) c k, bit_of_or a b k, bit_of_or a (bit_or b c) k, bit_of_or b c k))

-- an effect fires just where its condition lies inside the state
pub fires_decides : (s : ℕ) (e : EffectRow) → Decides (fires s e) (Inside e.condition s)
fires_decides s e = (λ t. and_inside e.condition s (eqb-true _ _ t), λ f. eq-eqb _ _ (inside_and e.condition s f))

-- the effect held against the state s, by the one search
abbrev pub Fits : ℕ → EffectRow → Type 0
Fits s e = Inside e.condition s

unfit : (s : ℕ) (es : List EffectRow) (k : ℕ) → k < length es → (Holds (Fits s) es k → ⊥) → fires s (effect_at es k) ≡ false
unfit s es k lt f = ne_eqb _ _ (λ e.
    f (lt, λ d. subst (Fits s) (get_or_default es k _ d lt) (and_inside (effect_at es k).condition s e)))

fit : (s : ℕ) (es : List EffectRow) (k : ℕ) → Holds (Fits s) es k → fires s (effect_at es k) ≡ true
fit s es k h = (fires_decides s (effect_at es k)).1 (h.1 _)

module _ (part : EffectRow → ℕ) (s : ℕ) (es : List EffectRow) where
  here : (i : ℕ) → i < length es
      → gather part s (drop i es)
      ≡ cond (fires s (effect_at es i)) (bit_or (part (effect_at es i)) (gather part s (drop (i + 1) es))) (gather part s (drop (i + 1) es))
  here i lt = at_drop_more (gather part s) es i _ lt

  -- effects that do not fire are passed over
  passed : (d i : ℕ) → i + d ≤ length es → ((k : ℕ) → k < i + d → i ≤ k → Holds (Fits s) es k → ⊥)
      → gather part s (drop i es) ≡ gather part s (drop (i + d) es)
  passed zero i le f = let e : i ≡ i + 0 = omega arith in ap (λ (x : ℕ). gather part s (drop x es)) e
  passed (suc d) i le f =
      let lt : i < length es = omega arith in
      let e : i + 1 + d ≡ i + suc d = omega arith in
      let one : gather part s (drop i es) ≡ gather part s (drop (i + 1) es) =
      rw (unfit s es i lt (f i (omega arith) (omega arith))) at (here i lt) in
      one ∙ passed d (i + 1) (omega arith) (λ k a b. f k (omega arith) (omega arith)) ∙ ap (λ (x : ℕ). gather part s (drop x es)) e

  to : (i j : ℕ) → i ≤ j → j ≤ length es → ((k : ℕ) → k < j → i ≤ k → Holds (Fits s) es k → ⊥)
      → gather part s (drop i es) ≡ gather part s (drop j es)
  to i j le end f =
      let e : i + (j - i) ≡ j = omega arith in
      passed (j - i) i (omega arith) (λ k a b. f k (omega arith) b) ∙ ap (λ (x : ℕ). gather part s (drop x es)) e

  module _ (acc from : ℕ) (inv : bit_or acc (gather part s (drop from es)) ≡ gather part s es) where
    -- the next effect that fires
    pub gather_more : (i : ℕ) → First (Fits s) es from (Some i)
        → bit_or (bit_or acc (part (effect_at es i))) (gather part s (drop (i + 1) es)) ≡ gather part s es
    gather_more i h =
        let lt : i < length es = h.1.0 in
        let one : gather part s (drop i es) ≡ bit_or (part (effect_at es i)) (gather part s (drop (i + 1) es)) =
        rw (fit s es i h.1) at (here i lt) in
        or_assoc acc (part (effect_at es i)) (gather part s (drop (i + 1) es))
        ∙ ap (bit_or acc) (sym one) ∙ ap (bit_or acc) (sym (to from i h.0 (omega arith) h.2)) ∙ inv

    -- no effect more fires
    pub gather_all : First (Fits s) es from None → acc ≡ gather part s es
    gather_all h =
        let none : gather part s (drop from es) ≡ 0 =
        elim (dec_le from (length es)) [
          | yes le ↦ to from (length es) le (omega arith) (λ k a b. h k b) ∙ at_drop_all (gather part s) es (length es) (omega arith)
          | no gt ↦ at_drop_all (gather part s) es from (omega arith)
        ] in
        sym (or_zero_r acc) ∙ ap (bit_or acc) (sym none) ∙ inv

-- the same, in a walk along those that fire
module _ (part : EffectRow → ℕ) (s a from acc to : ℕ) (es rows : List EffectRow) (r : rows ≡ es) (p : a ≡ s) (inv : bit_or acc (gather part s (drop from es)) ≡ gather part s es) where
  pub gather_fitting : (e : Bor EffectRow) → NextFitting (λ x. Inside x.condition a) rows from (Some e) to → bit_or (bit_or acc (part e.now)) (gather part s (drop to es)) ≡ gather part s es
  gather_fitting e h = rw (h.2 (effect_at [] 0), h.3, r) (gather_more part s es acc from inv h.0 (rw (← p, ← r) h.1))

  pub gather_no_more : NextFitting (λ x. Inside x.condition a) rows from None to → acc ≡ gather part s es
  gather_no_more h = gather_all part s es acc from inv (rw (← p, ← r) h)

pub beq_apart : (x y : Bool) → not (beq x y) ≡ true → x ≡ y → ⊥
beq_apart true true e = λ _. both_ways false refl e
beq_apart true false e = λ p. both_ways true (p) refl
beq_apart false true e = λ p. both_ways true (sym p) refl
beq_apart false false e = λ _. both_ways false refl e

pub beq_same : (x y : Bool) → not (beq x y) ≡ false → x ≡ y
beq_same true true e = refl
beq_same true false e = e
beq_same false true e = sym e
beq_same false false e = refl

pub eqb_same : (x y : Bool) → beq x y ≡ true → x ≡ y
eqb_same true true e = refl
eqb_same true false e = sym e
eqb_same false true e = e
eqb_same false false e = refl

pub same_eqb : (x y : Bool) → x ≡ y → beq x y ≡ true
same_eqb true y e = rw (← e) refl
same_eqb false y e = rw (← e) refl

-- what is left of the effects fires alike where its first does and the others do
pub alike_more : (s t : ℕ) (es : List EffectRow) (i : ℕ) → i < length es
    → FireAlike (drop i es) s t ≡ ((fires s (effect_at es i) ≡ fires t (effect_at es i)) × FireAlike (drop (i + 1) es) s t)
alike_more s t es i h = ap (λ l. FireAlike l s t) (drop_more es i _ h)

-- what the two tests of an effect say of its firing
module _ (s t : ℕ) (e : EffectRow) (x y : Bool) (p : Decides x (Fits s e)) (q : Decides y (Fits t e)) where
  pub tests_alike : x ≡ y → fires s e ≡ fires t e
  tests_alike z = same_from_decides (fires s e) x (fires_decides s e) p ∙ z ∙ sym (same_from_decides (fires t e) y (fires_decides t e) q)

  pub alike_tests : fires s e ≡ fires t e → x ≡ y
  alike_tests z = same_from_decides x (fires s e) p (fires_decides s e) ∙ z ∙ same_from_decides (fires t e) y (fires_decides t e) q

-- effects fire alike where each of them does
pub all_alike : (es : List EffectRow) (s t : ℕ) → ((k : ℕ) → k < length es → fires s (effect_at es k) ≡ fires t (effect_at es k)) → FireAlike es s t
all_alike [] s t f = tt
all_alike (e ∷ es) s t f = (f 0 (omega arith), all_alike es s t (λ k lt. f (suc k) (omega arith)))

pub alike_at : (es : List EffectRow) (s t : ℕ) → FireAlike es s t → (k : ℕ) → k < length es → fires s (effect_at es k) ≡ fires t (effect_at es k)
alike_at [] s t f k lt = absurd (omega arith)
alike_at (e ∷ es) s t f zero lt = f.0
alike_at (e ∷ es) s t f (suc k) lt = alike_at es s t f.1 k (omega arith)

-- what a walk along the effects says of their firing
pub each_alike :
    (es : List EffectRow) (s t : ℕ) (r : Bool)
    → MatchBool r (AllWithin (λ e. fires s e ≡ fires t e) es 0 (length es)) ((k : ℕ) × (k < length es) × HoldsAt (λ e. fires s e ≡ fires t e → ⊥) es k)
    → Decides r (FireAlike es s t)
each_alike es s t true h = ((λ _. all_alike es s t (λ k lt. h k (effect_at [] 0) (omega arith) lt)), λ _. refl)
each_alike es s t false h = ((λ e. absurd (false≢true e)), λ all. absurd (h.2 (effect_at [] 0) (alike_at es s t all h.0 h.1)))
