use Rattle.std.proofs.lemmas.Result.{err_from_is_err_and}
use Rattle.claim.proofs.Turning.{review_goes_on}
use Rattle.planner.proofs.Reviewing.{reviewed, review_refused}
use Rattle.planner.proofs.asking.review.Goals as goal

pub returns-in_err-position : goal.returns-in_err-position
returns-in_err-position g c =
    let p = err_from_is_err_and c.from_residual.result c.from_residual.ensures.1 in
    rw (p.1, p.2) (
    let x = review_refused _ _ _ c.in_err-position.ensures in
    record { promise = x; claim = λ t fits. review_goes_on t fits _ _ _ _ x })

pub returns : goal.returns
returns g c =
    let e = c.in_ok-position.ensures in
    let x = reviewed _ _ _ _ e.0 e.1 c.review.ensures in
    record { promise = x; claim = λ t fits. review_goes_on t fits _ _ _ _ x }
