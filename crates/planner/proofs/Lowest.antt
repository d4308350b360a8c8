-- What is known of the lowest position of a search that is under way.
use Rattle.std.proofs.Common.{◌≡◌, ℕ, ◌+◌, ◌-◌, ◌<◌, ◌≤◌, length, ap, subst, arith}
use Rattle.problem.specs.Firm.{Task}
use Rattle.problem.specs.Problems.{Fits}
use Rattle.store.specs.Positions.{Target, Proper}
use Rattle.store.specs.Stores.{Meaning}
use Rattle.outlook.specs.Outlooks.{View}
use Rattle.claim.specs.Search.{Question}
use Rattle.claim.specs.Turns.{NamedBelow}
use Rattle.planner.specs.Frames.{frame_at}
use Rattle.planner.specs.Works.{position, lowest_of, held_of}
use Rattle.planner.specs.Endings.{UnderWay}
use Rattle.planner.specs.declared.path.Path.{Path}
use Rattle.planner.proofs.Holding.{held_length, held_lowest_of}
use Rattle.planner.proofs.Rounds.{short, list_room, held_few, lowest_deep, lowest_named, lowest_placed, tell_room}

module _ {t : Task} {v : View} {a : Question} {m : Meaning} {room n k : ℕ} {p : Path} (x : UnderWay t v a m room n p k) where
  few : (length (held_of p) ≤ n) × (n ≤ a.limit) × (k ≤ a.budget)
  few = held_few t v a x.start m n k (held_of p) x.sought

  long : length (held_of p) ≡ p.depth
  long = held_length p.depth p.frames p.nodes p.len

  pub under_budget : k ≤ a.budget
  under_budget = few.2

  pub in_list : p.depth ≤ room
  in_list = omega (arith, few.0, few.1, long, list_room t x.start a room x.checks)

  module _ (some : 0 < p.depth) where
    held_some : 0 < length (held_of p)
    held_some = omega (arith, long)

    here : lowest_of (held_of p) ≡ position (frame_at p.frames (p.depth - 1))
    here = held_lowest_of p.depth p.frames p.nodes p.len some

    pub low_enough : (frame_at p.frames (p.depth - 1)).position.level + p.depth ≤ 33
    low_enough =
        omega (arith, lowest_deep t v a x.start m n k (held_of p) held_some x.sought, ap (λ (r : Target). r.level) here, long, few.1, short t x.start a room x.checks)

    module _ (fits : Fits t) where
      pub is_named : NamedBelow t.atoms (frame_at p.frames (p.depth - 1)).position.goal
      is_named = subst (λ (r : Target). NamedBelow t.atoms r.goal) here (lowest_named t v a x.start m n k fits room x.checks (held_of p) held_some x.sought)

      pub is_placed : Proper (position (frame_at p.frames (p.depth - 1))) × NamedBelow t.atoms (frame_at p.frames (p.depth - 1)).position.goal
      is_placed =
          subst (λ (r : Target). Proper r × NamedBelow t.atoms r.goal) here
          (lowest_placed t v a x.start m n k fits room x.checks (held_of p) held_some x.sought)

      pub can_tell : m.kept + m.passed < 16000000
      can_tell = tell_room t v a x.start m n k fits room x.checks (held_of p) held_some x.sought
