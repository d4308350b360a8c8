use Rattle.std.proofs.Common.{refl, arith}
use Rattle.sets.proofs.Members.{not_in_none}
use Rattle.problem.proofs.problem.Problem.blank.Goals as goal

pub invariant_of-result : goal.invariant_of-result
invariant_of-result c = record {
  placed = (refl, λ k z. absurd (let n : ⊥ = omega arith in n));
  sized = ((omega arith, omega arith), (omega arith, omega arith), omega arith, λ k z. absurd (let n : ⊥ = omega arith in n));
  named_first = λ k h. absurd (not_in_none 0 k refl h);
  named_preconditions = λ k z. absurd (let n : ⊥ = omega arith in n);
  named_effects = λ k z. absurd (let n : ⊥ = omega arith in n);
}
