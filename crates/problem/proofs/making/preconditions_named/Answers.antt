use Rattle.std.proofs.Common.{rules}
use Rattle.std.proofs.lemmas.Iterator.{YieldsList-from_slice, cases_from_all}
use Rattle.sets.specs.Sets.{Within}
use Rattle.sets.proofs.Chains.{all_rows_decide}
use Rattle.problem.proofs.making.preconditions_named.Goals as goal

pub returns : goal.returns
returns c =
    all_rows_decide c.args.actions.now _ (λ row. Within c.args.m row.precondition) c.all.result (
    cases_from_all _ _ _ (λ row. Within c.args.m row.precondition) (λ row. Within c.args.m row.precondition → ⊥)
    c.all.ensures.ran (YieldsList-from_slice c.args.actions.now cc) (λ x q k. search rules) (λ x q k. search rules)
    )
