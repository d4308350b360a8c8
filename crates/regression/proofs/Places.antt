-- Effects by their places.
use Rattle.std.proofs.Common.{◌≡◌, ℕ, zero, suc, ◌<◌, List, [], ◌∷◌, length, refl, inl, inr, arith}
use Rattle.problem.specs.Actions.{Among}
use Rattle.problem.specs.Rows.{effect_at}
use Rattle.problem.specs.declared.rows.EffectRow.{EffectRow}

pub among_at : (es : List EffectRow) (n : ℕ) → n < length es → Among (effect_at es n) es
among_at [] n h = absurd (let z : ⊥ = omega arith in z)
among_at (e ∷ es) zero h = inl refl
among_at (e ∷ es) (suc n) h = inr (among_at es n (omega arith))

pub at_among : (es : List EffectRow) (e : EffectRow) → Among e es → (n : ℕ) × (n < length es) × (e ≡ effect_at es n)
at_among [] e i = absurd i
at_among (x ∷ es) e (inl p) = (0, omega arith, p)
at_among (x ∷ es) e (inr i) = let r = at_among es e i in (suc r.0, omega (arith, r.1), r.2)
