use Rattle.std.proofs.Common.{◌<◌, ◌≤◌, arith, rules}
use Rattle.planner.proofs.Beginning.{room_for, begins_some, one_few, opened_entered, opened_shape}
use Rattle.planner.proofs.path.Path.open.Goals as goal

pub unwrap-part-requires : goal.unwrap-part-requires
unwrap-part-requires g c =
    begins_some _ _ c.begin_work.result c.begin_work.ensures
    (λ full. omega (arith, full.0, c.requires.shape.nodes, room_for _ _ c.requires.shape c.requires.shallow))

pub overflow_add-self-2 : goal.overflow_add-self-2
overflow_add-self-2 g c =
    let begins = rw (c.unwrap-part.ensures, c.problem.ensures) at c.begin_work.ensures in
    let lt : c.args.self.now.len < 4128 = room_for _ _ c.requires.shape c.requires.shallow in
    let few : c.unwrap-part.result.count ≤ 129 = one_few _ c.args.self.now _ _ _ begins in
    search rules

pub returns : goal.returns
returns g c =
    let begins = rw (c.unwrap-part.ensures, c.problem.ensures) at c.begin_work.ensures in
    record {
      entered = opened_entered _ _ c.args.position c.args.step _ _ c.requires.shallow c.requires.shape c.begin_work.auto.nodes begins;
      shape = opened_shape _ _ c.args.position c.args.step _ _ c.requires.shallow c.requires.shape c.begin_work.auto.nodes begins;
    }
