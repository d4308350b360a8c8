-- One atom less to avoid.
use Rattle.std.proofs.Common.{◌≡◌, ℕ, ◌-◌, ◌^◌, ◌<◌, ◌≢◌, Some, sym, refl, subst, inl, inr, arith}
use native.Mathlib.Decide.{dec_le}
use Rattle.sets.specs.Sets.{Has, Inside, minus, Takes}
use Rattle.sets.proofs.Bits.{bit_not, bit_past, inside_le, le_inside}
use Rattle.sets.proofs.Members.{inside_lt, minus_lt}
use Rattle.sets.proofs.Walking.{took_out, others_left}
use Rattle.problem.specs.Firm.{Task}
use Rattle.problem.specs.Runs.{Goal}
use Rattle.problem.proofs.Listed.{left_in, left_other, left_has}
use Rattle.regression.specs.Reaching.{Surely}
use Rattle.regression.specs.Nodes.{Shrunk}
use Rattle.regression.proofs.Masks.{so}
use Rattle.regression.proofs.Taking.{Done, all_left, none_done, still_left, done_either, all_done}
use Rattle.regression.proofs.Narrowing.{sure_narrow}

-- the less is avoided, the more may be there
top_more : (a b : ℕ) → b < 2 ^ 64 → Inside a b → Inside (2 ^ 64 - 1 - b) (2 ^ 64 - 1 - a)
top_more a b lb sub =
    le_inside (2 ^ 64 - 1 - b) (2 ^ 64 - 1 - a) (λ k. elim (dec_le 64 k) [
      | yes past ↦ omega (arith, bit_past 64 (2 ^ 64 - 1 - b) k (omega arith) past)
      | no below ↦ omega (arith, bit_not 64 b k lb (omega arith), bit_not 64 a k (inside_lt a b sub lb) (omega arith), inside_le a b sub k)
    ])

-- what is sure while less is avoided is sure while more is
pub surely_more : (t : Task) (q : Goal) (step need a b : ℕ) → b < 2 ^ 64 → Inside a b
    → Surely t q step (record { need = need; avoid = a }) → Surely t q step (record { need = need; avoid = b })
surely_more t q step need a b lb sub f =
    sure_narrow t.at need (2 ^ 64 - 1 - a) need (2 ^ 64 - 1 - b) (λ k h. h) (top_more a b lb sub) step q f

-- the region with another set to avoid
abbrev pub avoiding : Goal → ℕ → Goal
avoiding p avoid = record { need = p.need; avoid = avoid }

-- of the atoms tried so far, which are those not left, none can be spared
pub record Tried (t : Task) (q : Goal) (step : ℕ) (p : Goal) (left avoid : ℕ) : Type 0 where
  pub part : Inside avoid p.avoid
  pub kept : Inside left avoid
  pub still : Surely t q step (avoiding p avoid)
  pub least : (x : ℕ) → Done avoid left x → Surely t q step (avoiding p (minus avoid (2 ^ x))) → ⊥

module _ (t : Task) (q : Goal) (step : ℕ) (p : Goal) (lp : p.avoid < 2 ^ 64) where
  pub tried_start : (left : ℕ) → left ≡ p.avoid → Surely t q step p → Tried t q step p left p.avoid
  tried_start left e f = record {
    part = λ k h. h;
    kept = all_left p.avoid left e;
    still = f;
    least = λ x d. absurd (none_done p.avoid left e x d);
  }

  module _ (left x left' avoid : ℕ) (tk : Takes left (Some x) left') (r : Tried t q step p left avoid) where
    la : avoid < 2 ^ 64
    la = inside_lt avoid p.avoid r.part lp

    next_other : (k : ℕ) → Has left' k → k ≢ x
    next_other k h e = took_out left x left' tk (subst (Has left') e h)

    pub tried_kept : (fewer : ℕ) → fewer ≡ minus avoid (2 ^ x) → (Surely t q step (avoiding p fewer) → ⊥) → Tried t q step p left' avoid
    tried_kept fewer e n = record {
      part = r.part;
      kept = still_left avoid left x left' r.kept tk;
      still = r.still;
      least = λ k h f. elim (done_either avoid left x left' r.kept tk k h) [
        | inl d ↦ r.least k d f
        | inr i ↦ n (subst (λ (y : ℕ). Surely t q step (avoiding p y)) (sym e) (subst (λ (y : ℕ). Surely t q step (avoiding p (minus avoid (2 ^ y)))) i f))
      ];
    }

    pub tried_taken : (fewer : ℕ) → fewer ≡ minus avoid (2 ^ x) → Surely t q step (avoiding p fewer) → Tried t q step p left' fewer
    tried_taken fewer e f =
        let in_avoid : (k : ℕ) → Has fewer k → Has avoid k = λ k h. left_in avoid x k (so _ _ k e h) in
        record {
          part = λ k h. r.part k (in_avoid k h);
          kept = λ k h. so _ _ k (sym e) (left_has avoid x k (still_left avoid left x left' r.kept tk k h) (next_other k h));
          still = f;
          least = λ k d g.
              let out : Has left k → ⊥ = λ l. d.1 (others_left left x left' tk k l (left_other avoid x k (so _ _ k e d.0))) in
              r.least k (in_avoid k d.0, out)
              (surely_more t q step p.need (minus fewer (2 ^ k)) (minus avoid (2 ^ k)) (minus_lt avoid (2 ^ k) la)
              (λ y hy. left_has avoid k y (in_avoid y (left_in fewer k y hy)) (left_other fewer k y hy)) g);
        }

  pub tried_end : (left avoid : ℕ) → left ≡ 0 → Tried t q step p left avoid → Shrunk t q step p (avoiding p avoid)
  tried_end left avoid e r = record {
    need = refl;
    avoid = r.part;
    still = r.still;
    least = λ k h. r.least k (all_done avoid left e k h);
  }
