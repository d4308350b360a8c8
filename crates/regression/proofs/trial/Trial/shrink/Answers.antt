use Rattle.std.proofs.Common.{◌≡◌, refl, arith, rules}
use Rattle.std.proofs.lemmas.Bool.{false≢true}
use Rattle.problem.specs.Problems.{task_of}
use Rattle.problem.proofs.Listed.{left_in}
use Rattle.regression.proofs.Masks.{so}
use Rattle.regression.proofs.Shrinking.{tried_start, tried_kept, tried_taken, tried_end}
use Rattle.regression.proofs.trial.Trial.shrink.Goals as goal

pub loop-atom-init : goal.loop-atom-init
loop-atom-init c =
    let e : c.into_iter-atom-iterator.result.left ≡ c.args.self.region.avoid = search rules in
    tried_start (task_of c.args.self.problem.now) c.args.self.aim c.args.self.step c.args.self.region (omega arith) _ e c.requires

pub invariant_of-fewer_avoided-clause-apart : goal.invariant_of-fewer_avoided-clause-apart
invariant_of-fewer_avoided-clause-apart c k n a =
    c.args.self.apart k n (c.loop-atom.invariant.part k (left_in c.loop-atom.avoid c.in-Some.atom k (so _ _ k c.without_one-fewer.ensures a)))

pub loop-atom-preserved-then-surely : goal.loop-atom-preserved-then-surely
loop-atom-preserved-then-surely c =
    tried_taken (task_of c.args.self.problem.now) c.args.self.aim c.args.self.step c.args.self.region (omega arith) _ _ _ c.loop-atom.avoid
    c.in-Some.ensures.steps c.loop-atom.invariant c.without_one-fewer.result c.without_one-fewer.ensures (c.if-surely.ensures.0 refl)

pub loop-atom-preserved : goal.loop-atom-preserved
loop-atom-preserved c =
    tried_kept (task_of c.args.self.problem.now) c.args.self.aim c.args.self.step c.args.self.region (omega arith) _ _ _ c.loop-atom.avoid
    c.in-Some.ensures.steps c.loop-atom.invariant c.without_one-fewer.result c.without_one-fewer.ensures
    (λ f. false≢true (c.if-surely.ensures.1 f))

pub returns : goal.returns
returns c =
    tried_end (task_of c.args.self.problem.now) c.args.self.aim c.args.self.step c.args.self.region (omega arith) _ c.loop-atom.avoid
    c.in-None.ensures.steps.0 c.loop-atom.invariant
