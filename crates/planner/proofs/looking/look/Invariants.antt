use Rattle.std.proofs.Common.{◌≡◌, ℕ, ◌+◌}
use Rattle.store.specs.Stores.{Meaning}
use Rattle.claim.specs.Search.{Question}
use Rattle.claim.specs.Turns.{NamedBelow}
use Rattle.planner.specs.Works.{held_of, lowest_of, lowest_weight, Shape, Seeks}
use Rattle.planner.proofs.looking.look.Given as goal

-- a search that was under way on the path is so still, and its lowest position is where it was
abbrev pub invariant-loop-due : goal.invariant-loop-due
invariant-loop-due g l = record {
  shape : Shape (g.O.Outlook.task l.outlook) l.path;
  depth : l.path.depth ≡ l.fn.path.depth;
  frames : l.path.frames ≡ l.fn.path.frames;
  level : (lowest_of (held_of l.path)).level ≡ l.level + 1;
  named : NamedBelow (g.O.Outlook.task l.outlook).atoms (lowest_of (held_of l.path)).goal;
  sought : (a : Question) (m₀ : Meaning) (n k : ℕ)
      → Seeks (g.O.Outlook.task l.outlook) (g.O.Outlook.view l.outlook) a m₀ (g.S.Store.meaning l.store) n l.fn.path k
      → Seeks (g.O.Outlook.task l.outlook) (g.O.Outlook.view l.outlook) a m₀ (g.S.Store.meaning l.store) n l.path k;
}

abbrev pub decreases-loop-due : goal.decreases-loop-due
decreases-loop-due g l = lowest_weight (held_of l.path)
