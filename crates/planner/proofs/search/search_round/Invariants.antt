use Rattle.std.proofs.Common.{◌≡◌, ◌+◌, ◌-◌, ◌*◌}
use Rattle.store.specs.Stores.{Meaning}
use Rattle.planner.specs.Works.{Shape, Seeks}
use Rattle.planner.proofs.search.search_round.Given as goal

-- a search that was under way in the round before is under way in this one, and nothing is written
abbrev pub invariant-loop-path : goal.invariant-loop-path
invariant-loop-path g l = record {
  unwritten : l.list ≡ l.fn.list;
  shape : Shape (g.O.Outlook.task l.outlook) l.path;
  sought : (m₀ : Meaning)
      → Seeks (g.O.Outlook.task l.outlook) (g.O.Outlook.view l.outlook) l.question m₀ (g.S.Store.meaning l.fn.store) l.failed l.fn.path l.fn.opened
      → Seeks (g.O.Outlook.task l.outlook) (g.O.Outlook.view l.outlook) l.question m₀ (g.S.Store.meaning l.store) l.round l.path l.opened;
}

-- a turn opens a position or takes one away
abbrev pub decreases-loop-path : goal.decreases-loop-path
decreases-loop-path g l = 2 * (l.question.budget - l.opened) + l.path.depth
