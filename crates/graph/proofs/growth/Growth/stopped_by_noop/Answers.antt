use Rattle.std.proofs.Common.{refl}
use Rattle.std.proofs.lemmas.Bool.{false≢true}
use Rattle.problem.specs.Problems.{task_of}
use Rattle.graph.specs.Tables.{level_of}
use Rattle.graph.proofs.Sure.{worked_out}
use Rattle.graph.proofs.Excluding.{unstopped, stopped, self_marks}
use Rattle.graph.proofs.growth.Growth.stopped_by_noop.Goals as goal

pub returns-then-not-has : goal.returns-then-not-has
returns-then-not-has c =
    let p = c.args.self.now.links.now.problem.now in
    unstopped (task_of p) (level_of c.args.self.now.layer) c.args.atom p.sized.2 (λ h. false≢true (c.if-not-has.ensures.1 h))

pub returns : goal.returns
returns c =
    let links = c.args.self.now.links.now in
    stopped (task_of links.problem.now) (level_of c.args.self.now.layer) c.args.atom c.single-one.result _ c.requires c.single-one.ensures (self_marks _)
    links.moves (worked_out links.problem.now links.moves links.moved) (c.if-not-has.ensures.0 refl) _ _ c.touching.ensures c.without.ensures.members
