use Rattle.std.proofs.Common.{refl, arith}
use Rattle.std.proofs.lemmas.Bool.{false≢true}
use Rattle.graph.specs.Turning.{row}
use Rattle.graph.specs.Growths.{task_in}
use Rattle.graph.specs.Tables.{level_of}
use Rattle.graph.proofs.Excluding.{excluded, none_excluded, self_marks}
use Rattle.graph.proofs.growth.Growth.exclusive_with.Goals as goal

pub returns-then-not-has : goal.returns-then-not-has
returns-then-not-has c s =
    none_excluded (task_in c.args.self.now) (level_of c.args.self.now.layer) c.args.self.now.facts c.args.atom s.facts (λ h. false≢true (c.if-not-has.ensures.1 h))

pub returns : goal.returns
returns c s =
    excluded (task_in c.args.self.now) (level_of c.args.self.now.layer) c.args.self.now.layer.facts c.args.self.now.facts c.args.atom (row c.args.self.now.supports) s.moves.few (omega arith)
    (self_marks _) s.supports s.facts c.beaten-nodes.result (c.beaten-nodes.ensures s) _ _ _ _
    c.without.ensures.members c.union_of.ensures c.without-2.ensures.members c.without-3.ensures.members (c.if-not-has.ensures.0 refl)
