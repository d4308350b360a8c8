use Rattle.std.proofs.Common.{◌≡◌, rules}
use Rattle.regression.proofs.Taking.{all_left, none_done, still_left, done_more, done_now, done_either, all_done}
use Rattle.regression.proofs.Unions.{gathered_none, gathered_more, gathered_all}
use Rattle.regression.proofs.totals.union_of.Goals as goal

pub loop-i-init : goal.loop-i-init
loop-i-init g c =
    let e : c.into_iter-i-iterator.result.left ≡ c.args.set = search rules in
    (all_left _ _ e, gathered_none (none_done _ _ e))

pub loop-i-preserved : goal.loop-i-preserved
loop-i-preserved g c =
    let sub = c.loop-i.invariant.0 in
    let tk = c.in-Some.ensures.steps in (
      still_left _ _ _ _ sub tk,
      gathered_more (done_more _ _ _ _ sub tk) (done_now _ _ _ _ sub tk) (done_either _ _ _ _ sub tk) c.loop-i.invariant.1 c.part-union.ensures,
    )

pub returns : goal.returns
returns g c = gathered_all (λ j d. d.0) (all_done _ _ c.in-None.ensures.steps.0) c.loop-i.invariant.1
