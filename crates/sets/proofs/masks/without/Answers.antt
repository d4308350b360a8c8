use Rattle.std.proofs.Common.{ℕ, sym, subst, arith}
use Rattle.sets.specs.Sets.{Has, Marks}
use Rattle.sets.proofs.Bits.{and_not, minus_marks}
use Rattle.sets.proofs.masks.without.Goals as goal

pub returns : goal.returns
returns c =
    let a : ℕ = c.args.a in
    let b : ℕ = c.args.b in
    let e = and_not a b (omega arith) (omega arith) in
    record { is = e; members = subst (λ (x : ℕ). Marks x (λ k. Has a k × (Has b k → ⊥))) (sym e) (minus_marks a b) }
