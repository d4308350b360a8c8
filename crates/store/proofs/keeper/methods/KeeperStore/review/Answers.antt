use Rattle.store.specs.Positions.{target_of}
use Rattle.store.proofs.Keeping.{found_covers}
use Rattle.store.proofs.keeper.methods.KeeperStore.review.Goals as goal

pub returns : goal.returns
returns g c =
    let found = found_covers (target_of c.args.position.now) _ _ _ _ c.entries.ensures c.is_some.ensures c.first_covering.ensures in
    record { value = found.0; decides = found.1 }
