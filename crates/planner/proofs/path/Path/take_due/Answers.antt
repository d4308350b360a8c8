use Rattle.std.proofs.Common.{◌<◌, ◌≤◌, refl, ◌∙◌, rules}
use Rattle.planner.proofs.Taking.{low_base, took_due, due_shape, due_few, took_none, none_shape, never_full}
use Rattle.planner.proofs.path.Path.take_due.Goals as goal

pub overflow_add-self : goal.overflow_add-self
overflow_add-self g c =
    let v = g.O.Outlook.view c.args.outlook.now in
    let f = c.lowest-base.result in
    let brings = rw c.problem.ensures at c.in-Made.ensures.finds in
    let few : c.in-Made.left ≤ 129 = due_few _ v _ f c.lowest-base.ensures c.requires.some c.requires.shape
    _ c.next_due.auto.nodes c.next_due.ensures.below _ _ refl _ brings in
    let low : f.base < 4128 = low_base _ v _ f c.lowest-base.ensures c.requires.some c.requires.shape in
    search rules

pub returns-in-Made-clause-took : goal.returns-in-Made-clause-took
returns-in-Made-clause-took g c =
    let brings = rw c.problem.ensures at c.in-Made.ensures.finds in
    took_due _ (g.O.Outlook.view c.args.outlook.now) _ c.lowest-base.result c.lowest-base.ensures c.requires.some c.requires.shape
    _ c.next_due.auto.nodes c.next_due.ensures.below _ _ refl _ brings

pub returns-in-Made-clause-shape : goal.returns-in-Made-clause-shape
returns-in-Made-clause-shape g c =
    let brings = rw c.problem.ensures at c.in-Made.ensures.finds in
    due_shape _ (g.O.Outlook.view c.args.outlook.now) _ c.lowest-base.result c.lowest-base.ensures c.requires.some c.requires.shape
    _ c.next_due.auto.nodes c.next_due.ensures.below _ _ refl _ brings

pub returns-in-Done-clause-took : goal.returns-in-Done-clause-took
returns-in-Done-clause-took g c =
    let carried = rw c.problem.ensures at c.in-Done.ensures.finds in
    took_none _ (g.O.Outlook.view c.args.outlook.now) _ c.lowest-base.result c.lowest-base.ensures c.requires.some c.requires.shape
    _ c.next_due.auto.nodes c.next_due.ensures.below carried

pub returns-in-Done-clause-shape : goal.returns-in-Done-clause-shape
returns-in-Done-clause-shape g c =
    let carried = rw c.problem.ensures at c.in-Done.ensures.finds in
    none_shape _ (g.O.Outlook.view c.args.outlook.now) _ c.lowest-base.result c.lowest-base.ensures c.requires.some c.requires.shape
    _ c.next_due.auto.nodes c.next_due.ensures.below carried

pub unreachable-requires : goal.unreachable-requires
unreachable-requires g c =
    let full = rw c.problem.ensures at c.in-NoRoom.ensures.finds.1 in
    never_full _ (g.O.Outlook.view c.args.outlook.now) _ c.lowest-base.result c.lowest-base.ensures c.requires.some c.requires.shape
    _ (c.next_due.auto.nodes ∙ c.requires.shape.nodes) full
