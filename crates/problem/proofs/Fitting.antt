-- Every problem stands for a task that fits.
use Rattle.std.proofs.Common.{◌≡◌, ℕ, zero, suc, ◌+◌, ◌-◌, ◌<◌, List, [], ◌∷◌, length, take, drop, sym, subst, inl, inr, arith}
use Rattle.std.proofs.lemmas.List.{length-take}
use Rattle.sets.specs.Sets.{Within}
use Rattle.problem.specs.Rows.{effect_at, begins, names_of}
use Rattle.problem.specs.Actions.{Among}
use Rattle.problem.specs.Theorems.{ProblemsFit}
use Rattle.problem.specs.declared.rows.EffectRow.{EffectRow}

-- what stands in a part of the effects stands in the effects
among_take : (n : ℕ) (es : List EffectRow) (e : EffectRow) → Among e (take n es) → Among e es
among_take zero es e i = absurd i
among_take (suc n) [] e i = i
among_take (suc n) (x ∷ es) e (inl p) = inl p
among_take (suc n) (x ∷ es) e (inr i) = inr (among_take n es e i)

among_drop : (n : ℕ) (es : List EffectRow) (e : EffectRow) → Among e (drop n es) → Among e es
among_drop zero es e i = i
among_drop (suc n) [] e i = i
among_drop (suc n) (x ∷ es) e i = inr (among_drop n es e i)

-- and has a place there
among_at : (es : List EffectRow) (e : EffectRow) → Among e es → (j : ℕ) × (j < length es) × (effect_at es j ≡ e)
among_at [] e i = absurd i
among_at (x ∷ es) e (inl p) = (0, omega arith, sym p)
among_at (x ∷ es) e (inr i) = let r = among_at es e i in (suc r.0, omega (arith, r.1), r.2)

pub problem_fits : ProblemsFit
problem_fits p =
    let rows = p.actions.now in
    let effects : List EffectRow = p.effects.now in
    let n : ℕ = length effects in
    record {
      some_atom = p.sized.0.0;
      few_atoms = p.sized.0.1;
      some_hand = p.sized.1.0;
      few_hands = p.sized.1.1;
      first = p.named_first;
      few_actions = p.sized.2;
      few_effects = λ k lt.
          omega (arith, length-take (begins rows n (k + 1) - begins rows n k) (drop (begins rows n k) effects), p.sized.3 k lt);
      preconditions = p.named_preconditions;
      effects = λ k lt e i.
          let a = among_drop (begins rows n k) effects e (among_take (begins rows n (k + 1) - begins rows n k) (drop (begins rows n k) effects) e i) in
          let r = among_at effects e a in
          subst (λ (x : EffectRow). Within p.atoms (names_of x)) r.2 (p.named_effects r.0 r.1);
    }
