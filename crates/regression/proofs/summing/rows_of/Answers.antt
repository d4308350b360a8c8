use Rattle.std.proofs.Common.{◌≡◌, ◌<◌, refl, ◌∙◌, arith, rules, length-set}
use Rattle.regression.proofs.Taking.{all_left, none_done, still_left, done_either, fewer_left, all_done}
use Rattle.regression.proofs.Rows.{filled_none, filled_more, filled_tells}
use Rattle.regression.proofs.summing.rows_of.Goals as goal

pub loop-count-init : goal.loop-count-init
loop-count-init c =
    let e : c.into_iter-count-iterator.result.iter.left ≡ c.args.step = search rules in
    let z : c.into_iter-count-iterator.result.count ≡ 0 = search rules in (
      all_left _ _ e,
      rw (z, e) (omega (arith, c.requires)),
      refl,
      rw z (filled_none _ _ _ _ (none_done _ _ e)),
    )

pub loop-count-preserved : goal.loop-count-preserved
loop-count-preserved c =
    let sub = c.loop-count.invariant.0 in
    let s = c.in-Some.ensures.steps in
    let room : c.in-Some.count < 4 = omega (arith, s.1, c.loop-count.invariant.1, fewer_left _ _ _ s.0) in (
      still_left _ _ _ _ sub s.0,
      omega (arith, s.2, c.loop-count.invariant.1, fewer_left _ _ _ s.0),
      length-set c.loop-count.rows _ _ ∙ c.loop-count.invariant.2,
      rw (s.2, s.1) (filled_more _ _ _ _ _ _ (done_either _ _ _ _ sub s.0) _ c.loop-count.rows
          (omega (arith, room, s.1, c.loop-count.invariant.2)) c.loop-count.invariant.3 c.doing.result c.doing.ensures),
    )

pub returns : goal.returns
returns c =
    filled_tells _ c.args.step _ _ _ _ _ (all_done _ _ c.in-None.ensures.steps.0.0) (omega (arith, c.loop-count.invariant.1)) c.loop-count.invariant.3
