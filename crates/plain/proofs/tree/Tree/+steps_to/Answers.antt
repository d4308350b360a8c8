use Rattle.std.proofs.Common.{vec_items, arith}
use Rattle.plain.proofs.Paths.{lead_more}
use Rattle.plain.proofs.tree.Tree.+steps_to.Goals as goal

pub returns : goal.returns
returns t c = lead_more (vec_items c.args.self.now.reached) c.args.i c.index-last.result.now _ _ (omega arith) c.requires.known c.index-last.ensures
    c.in_ok-steps.ensures c.in_ok-push.ensures.items
