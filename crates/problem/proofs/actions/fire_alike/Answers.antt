use Rattle.std.proofs.Common.{rules, rules, ◌≡◌}
use Rattle.std.proofs.lemmas.Iterator.{YieldsList-from_slice, cases_from_all}
use Rattle.problem.specs.Actions.{fires}
use Rattle.problem.proofs.Steps.{each_alike}
use Rattle.problem.proofs.actions.fire_alike.Goals as goal

pub returns : goal.returns
returns c =
    each_alike c.args.effects.now c.args.s c.args.t c.all.result (
    cases_from_all _ _ _ (λ e. fires c.args.s e ≡ fires c.args.t e) (λ e. fires c.args.s e ≡ fires c.args.t e → ⊥)
    c.all.ensures.ran (YieldsList-from_slice c.args.effects.now cc) (λ x q k. search rules) (λ x q k. search rules)
    )
