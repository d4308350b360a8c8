use Rattle.std.proofs.lemmas.Bool.{false≢true}
use Rattle.problem.specs.Problems.{task_of}
use Rattle.regression.proofs.Stacking.{kept_treated}
use Rattle.regression.proofs.next.treat.Goals as goal

pub returns : goal.returns
returns g c =
    kept_treated (task_of c.args.problem.now) c.args.aim (g.D.Dismissal.dismissed c.args.dismissal.now) c.args.node
    (λ d. false≢true (c.if-dismisses.ensures.1 d)) c.expand.result c.expand.ensures
