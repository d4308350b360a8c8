use Rattle.std.proofs.Common.{◌≡◌, rules}
use borrow.Author.Tests.{tests}
use Rattle.std.proofs.lemmas.Iterator.{YieldsList-from_slice, cases_from_any}
use Rattle.regression.proofs.Rooting.{use_of, helps_decides}
use Rattle.regression.proofs.opening.helps.Goals as goal

pub returns : goal.returns
returns c =
    let q = c.args.aim in
    helps_decides q c.args.effects.now c.any.result
    (cases_from_any _ _ _ (λ e. use_of q e ≡ 0 → ⊥) (λ e. use_of q e ≡ 0) c.any.ensures.ran (YieldsList-from_slice c.args.effects.now c.iter.ensures.rest)
    (λ x q k. search (rules, tests)) (λ x q k. search (rules, tests)))
