use Rattle.std.proofs.Common.{◌≡◌, ℕ, ◌+◌, List, subst₂, arith, rules}
use borrow.Author.Tests.{tests}
use Rattle.problem.specs.declared.rows.EffectRow.{EffectRow}
use Rattle.problem.proofs.Listed.{left_in}
use Rattle.regression.specs.Spans.{RestAll}
use Rattle.regression.specs.Matters.{Stirred}
use Rattle.regression.specs.Told.{acts}
use Rattle.regression.specs.Verdicts.{Judged}
use Rattle.regression.specs.declared.verdict.Verdict.TheVariants.{No}
use Rattle.regression.proofs.Masks.{so}
use Rattle.regression.proofs.Judging.{all_as, all_no}
use Rattle.regression.proofs.Resting.{one_before, before_among, among_before, among_rests}
use Rattle.regression.proofs.doings.Doings.rest_all.Goals as goal

pub rest-requires : goal.rest-requires
rest-requires c k h = left_in _ c.args.i k (so _ _ k c.without_one-others.ensures h)

pub returns-then-eq : goal.returns-then-eq
returns-then-eq c =
    let d = c.args.self.now in
    let is : c.both-verdict.result ≡ No = search (rules, tests) in
    let es = c.effects_of-e-items.result.now in
    subst₂ (λ (y : ℕ) (z : List EffectRow). Judged d.lo d.hi (RestAll (acts d) z y) (Stirred (acts d) z y) No)
    c.without_one-others.ensures c.effects_of-e-items.ensures
    (among_rests (acts d) d.lo d.hi _ es
    (all_no (before_among (acts d) d.lo d.hi c.without_one-others.result es (c.loop-e.e-index + 1) (omega arith)) is
    (rw c.both-verdict.ensures (one_before (acts d) d.lo d.hi _ es c.loop-e.e-index c.loop-e-test.true _ _ c.loop-e.invariant c.rest.ensures))))

pub loop-e-preserved : goal.loop-e-preserved
loop-e-preserved c =
    let d = c.args.self.now in
    rw c.both-verdict.ensures (one_before (acts d) d.lo d.hi _ _ c.loop-e.e-index c.loop-e-test.true _ _ c.loop-e.invariant c.rest.ensures)

pub returns : goal.returns
returns c =
    let d = c.args.self.now in
    let es = c.effects_of-e-items.result.now in
    subst₂ (λ (y : ℕ) (z : List EffectRow). Judged d.lo d.hi (RestAll (acts d) z y) (Stirred (acts d) z y) c.loop-e.verdict)
    c.without_one-others.ensures c.effects_of-e-items.ensures
    (among_rests (acts d) d.lo d.hi _ es
    (all_as (before_among (acts d) d.lo d.hi c.without_one-others.result es c.loop-e.e-index (omega arith))
    (among_before (acts d) d.lo d.hi c.without_one-others.result es c.loop-e.e-index (omega arith)) c.loop-e.invariant))
