-- The actions that help, one by one.
use Rattle.std.proofs.Common.{◌≡◌, ℕ, ◌+◌, ◌^◌, ◌<◌, Bool, true, false, List, length, Decides, MatchBool, refl, sym, subst, inl, inr, arith}
use Rattle.std.specs.List.{AllWithin, HoldsAt}
use Rattle.std.proofs.lemmas.Bool.{false≢true}
use native.Mathlib.Decide.{ℕ_discrete}
use lib.Bits.{bit_and, bit_or}
use Rattle.sets.specs.Sets.{Has, Marks}
use Rattle.sets.proofs.Members.{bit_one, not_in_none}
use Rattle.problem.specs.Rows.{effect_at}
use Rattle.problem.specs.Runs.{Goal}
use Rattle.problem.specs.declared.rows.EffectRow.{EffectRow}
use Rattle.regression.specs.Roots.{Useful, Helps}
use Rattle.regression.proofs.Places.{among_at, at_among}
use Rattle.sets.proofs.Parts.{or_left, or_right, or_either, and_both, and_left, and_right}
use Rattle.regression.proofs.Masks.{nothing, some_in, one_only, so}

pub useful_from : (q : Goal) (e : EffectRow) → (bit_or (bit_and e.add q.need) (bit_and e.delete q.avoid) ≡ 0 → ⊥) → Useful q e
useful_from q e n =
    let m = some_in (bit_or (bit_and e.add q.need) (bit_and e.delete q.avoid)) n in (
      m.0,
      elim (or_either _ _ m.0 m.1) [
        | inl a ↦ inl (and_left e.add q.need m.0 a, and_right e.add q.need m.0 a)
        | inr b ↦ inr (and_left e.delete q.avoid m.0 b, and_right e.delete q.avoid m.0 b)
      ],
    )

pub useless : (q : Goal) (e : EffectRow) → bit_or (bit_and e.add q.need) (bit_and e.delete q.avoid) ≡ 0 → Useful q e → ⊥
useless q e z u =
    not_in_none _ u.0 z (elim u.1 [
      | inl a ↦ or_left _ _ u.0 (and_both e.add q.need u.0 a.0 a.1)
      | inr b ↦ or_right _ _ u.0 (and_both e.delete q.avoid u.0 b.0 b.1)
    ])

-- the bits of an effect by which it is useful
abbrev pub use_of : Goal → EffectRow → ℕ
use_of q e = bit_or (bit_and e.add q.need) (bit_and e.delete q.avoid)

-- what `any` says of the effects
pub helps_decides : (q : Goal) (es : List EffectRow) (r : Bool)
    → MatchBool r ((k : ℕ) × (k < length es) × HoldsAt (λ e. use_of q e ≡ 0 → ⊥) es k) (AllWithin (λ e. use_of q e ≡ 0) es 0 (length es))
    → Decides r (Helps q es)
helps_decides q es true m = (
  (λ _. (effect_at es m.0, among_at es m.0 m.1, useful_from q (effect_at es m.0) (m.2 _))),
  λ _. refl,
)
helps_decides q es false m = (
  (λ z. absurd (false≢true z)),
  λ h. absurd (
      let r = at_among es h.0 h.1 in
      useless q (effect_at es r.0) (m r.0 _ (omega arith) r.1) (subst (Useful q) r.2 h.2)),
)

-- the numbers below i of which H holds, one more number later
module _ (H : ℕ → Type 0) where
  abbrev pub Found : ℕ → ℕ → Type 0
  Found i c = Marks c (λ k. (k < i) × H k)

  pub found_none : Found 0 0
  found_none = record { only = λ k h. absurd (nothing k h); all = λ k h. absurd (let z : ⊥ = omega (arith, h.0) in z) }

  pub found_more : (i c one : ℕ) → one ≡ 2 ^ i → H i → Found i c → Found (i + 1) (bit_or c one)
  found_more i c one e h f = record {
    only = λ k m. elim (or_either c one k m) [
      | inl a ↦ (let r = f.only k a in (omega (arith, r.0), r.1))
      | inr b ↦ (let p = one_only k i (so _ _ k e b) in (omega arith, subst H (sym p) h))
    ];
    all = λ k g. elim (ℕ_discrete k i) [
      | yes p ↦ or_right c one k (so _ _ k (sym e) (subst (λ (y : ℕ). Has (2 ^ i) y) (sym p) (bit_one i)))
      | no n ↦ or_left c one k (f.all k (omega (arith, g.0), g.1))
    ];
  }

  pub found_same : (i c : ℕ) → (H i → ⊥) → Found i c → Found (i + 1) c
  found_same i c n f = record {
    only = λ k m. let r = f.only k m in (omega (arith, r.0), r.1);
    all = λ k g. elim (ℕ_discrete k i) [ yes p ↦ absurd (n (subst H p g.1)) | no ne ↦ f.all k (omega (arith, g.0), g.1) ];
  }
