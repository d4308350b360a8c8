use Rattle.std.proofs.Common.{◌≡◌, rules}
use borrow.Author.Tests.{tests}
use Rattle.regression.specs.declared.verdict.Verdict.TheVariants.{No}
use Rattle.regression.proofs.Taking.{Done, still_left, done_more, done_now, done_either, all_done}
use Rattle.regression.proofs.Judging.{all_more, all_as, all_no}
use Rattle.regression.proofs.joining.all_of.Goals as goal

pub returns-then-eq : goal.returns-then-eq
returns-then-eq g c =
    let is : c.both-verdict.result ≡ No = search (rules, tests) in
    let sub = c.loop-i.invariant.0 in
    let tk = c.in-Some.ensures.steps in
    all_no {In = Done c.args.set c.next.new.self.left} (λ j d. d.0) is
    (rw c.both-verdict.ensures (all_more (Done c.args.set c.loop-i.i-iterator.left) (Done c.args.set c.next.new.self.left) c.in-Some.i
    (goal.F-post g c.args.judge) (done_more _ _ _ _ sub tk) (done_now _ _ _ _ sub tk) (done_either _ _ _ _ sub tk) _ _ c.loop-i.invariant.1 c.judge.ensures))

pub loop-i-preserved : goal.loop-i-preserved
loop-i-preserved g c =
    let sub = c.loop-i.invariant.0 in
    let tk = c.in-Some.ensures.steps in (
      still_left _ _ _ _ sub tk,
      rw c.both-verdict.ensures (all_more (Done c.args.set c.loop-i.i-iterator.left) (Done c.args.set c.next.new.self.left) c.in-Some.i
          (goal.F-post g c.args.judge) (done_more _ _ _ _ sub tk) (done_now _ _ _ _ sub tk) (done_either _ _ _ _ sub tk) _ _ c.loop-i.invariant.1 c.judge.ensures),
    )

pub returns : goal.returns
returns g c =
    all_as (λ j d. d.0) (all_done _ _ c.in-None.ensures.steps.0) c.loop-i.invariant.1
