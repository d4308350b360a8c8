use Rattle.std.proofs.Common.{rules, arith, refl, ◌+◌, ◌≤◌, length}
use Rattle.std.proofs.lemmas.Iterator.{YieldsList-from_range, cases_from_all}
use Rattle.sets.proofs.Chains.{all_below_decides}
use Rattle.problem.specs.Rows.{begins}
use Rattle.problem.proofs.making.placed.Goals as goal

pub returns-then-begin-eq0 : goal.returns-then-begin-eq0
returns-then-begin-eq0 c =
    let all = all_below_decides (length c.args.actions.now) (λ k. begins c.args.actions.now c.args.n k ≤ begins c.args.actions.now c.args.n (k + 1)) c.all.result (
    cases_from_all _ _ _
    (λ k. begins c.args.actions.now c.args.n k ≤ begins c.args.actions.now c.args.n (k + 1))
    (λ k. begins c.args.actions.now c.args.n k ≤ begins c.args.actions.now c.args.n (k + 1) → ⊥)
    c.all.ensures.ran (YieldsList-from_range 0 (length c.args.actions.now) (length c.args.actions.now) refl (omega arith))
    (λ x q k. search rules) (λ x q k. search rules)
    ) in (
      (λ e. (search rules, all.0 e)),
      λ p. all.1 p.1,
    )
