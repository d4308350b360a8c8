use Rattle.std.proofs.Common.{rules, arith, refl, ◌+◌, ◌≤◌, length}
use Rattle.std.proofs.lemmas.Iterator.{YieldsList-from_range, cases_from_all}
use Rattle.sets.proofs.Chains.{all_below_decides}
use Rattle.problem.specs.Rows.{begins}
use Rattle.problem.proofs.making.few_effects.Goals as goal

pub returns : goal.returns
returns c =
    all_below_decides (length c.args.actions.now) (λ k. begins c.args.actions.now c.args.n (k + 1) ≤ begins c.args.actions.now c.args.n k + 8) c.all.result (
    cases_from_all _ _ _
    (λ k. begins c.args.actions.now c.args.n (k + 1) ≤ begins c.args.actions.now c.args.n k + 8)
    (λ k. begins c.args.actions.now c.args.n (k + 1) ≤ begins c.args.actions.now c.args.n k + 8 → ⊥)
    c.all.ensures.ran (YieldsList-from_range 0 (length c.args.actions.now) (length c.args.actions.now) refl (omega arith))
    (λ x q k. search rules) (λ x q k. search rules)
    )
