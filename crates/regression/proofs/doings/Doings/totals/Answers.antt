use Rattle.std.proofs.Common.{◌≡◌, rules}
use Rattle.regression.proofs.Taking.{all_left, none_done, still_left, done_more, done_now, done_either, all_done}
use Rattle.regression.proofs.Unions.{gathered_none, gathered_more, gathered_union}
use Rattle.regression.proofs.doings.Doings.totals.Goals as goal

pub loop-i-init : goal.loop-i-init
loop-i-init c =
    let e : c.into_iter-i-iterator.result.left ≡ c.args.part = search rules in
    let gs : c.default-give.result.sure ≡ 0 = search rules in
    let gm : c.default-give.result.may ≡ 0 = search rules in
    let cs : c.default-cut.result.sure ≡ 0 = search rules in
    let cm : c.default-cut.result.may ≡ 0 = search rules in
    let none = none_done _ _ e in
    (all_left _ _ e, rw gs (gathered_none none), rw gm (gathered_none none), rw cs (gathered_none none), rw cm (gathered_none none))

pub loop-i-preserved : goal.loop-i-preserved
loop-i-preserved c =
    let sub = c.loop-i.invariant.0 in
    let tk = c.in-Some.ensures.steps in
    let d = c.of-one.ensures in
    let more = done_more _ _ _ _ sub tk in
    let now = done_now _ _ _ _ sub tk in
    let either = done_either _ _ _ _ sub tk in (
      still_left _ _ _ _ sub tk,
      rw c.bitor-give.ensures.0 (gathered_more more now either c.loop-i.invariant.1 d.give_sure),
      rw c.bitor-give.ensures.1 (gathered_more more now either c.loop-i.invariant.2 d.give_may),
      rw c.bitor-cut.ensures.0 (gathered_more more now either c.loop-i.invariant.3 d.cut_sure),
      rw c.bitor-cut.ensures.1 (gathered_more more now either c.loop-i.invariant.4 d.cut_may),
    )

pub returns : goal.returns
returns c =
    let all = all_done _ _ c.in-None.ensures.steps.0 in
    record {
      give_sure = gathered_union (λ j d. d.0) all c.loop-i.invariant.1;
      give_may = gathered_union (λ j d. d.0) all c.loop-i.invariant.2;
      cut_sure = gathered_union (λ j d. d.0) all c.loop-i.invariant.3;
      cut_may = gathered_union (λ j d. d.0) all c.loop-i.invariant.4;
    }
