use Rattle.std.proofs.Common.{◌≡◌}
use Rattle.planner.specs.Works.{Shape, Seeks}
use Rattle.planner.proofs.search.search.Given as goal

-- so many rounds failed, nothing is open and nothing is written
abbrev pub invariant-loop-failed : goal.invariant-loop-failed
invariant-loop-failed g l = record {
  unwritten : l.list ≡ l.fn.list;
  none : l.path.depth ≡ 0;
  shape : Shape (g.O.Outlook.task l.outlook) l.path;
  sought : Seeks (g.O.Outlook.task l.outlook) (g.O.Outlook.view l.outlook) l.question (g.S.Store.meaning l.fn.store) (g.S.Store.meaning l.store)
      l.failed l.path l.opened;
}
