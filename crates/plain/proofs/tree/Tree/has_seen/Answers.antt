use Rattle.std.proofs.Common.{◌≡◌}
use Rattle.sets.proofs.Places.{found_decides}
use Rattle.plain.specs.declared.reached.Reached.{Reached}
use Rattle.plain.proofs.tree.Tree.has_seen.Goals as goal

pub returns : goal.returns
returns c = found_decides (λ (e : Reached). e.state ≡ c.args.state) _ _ _ _ c.deref.ensures.value c.is_some.ensures c.next_fit.ensures
