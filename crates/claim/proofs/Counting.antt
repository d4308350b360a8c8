-- How many different positions of a problem there can be.
use Rattle.std.proofs.Common.{ℕ, ◌*◌, ◌^◌, ◌<◌, ◌≤◌, List, length, inl, inr}
use Rattle.sets.specs.Sets.{Apart}
use Rattle.sets.specs.Listed.{Among, Different}
use Rattle.store.specs.Positions.{Target}
use Rattle.store.proofs.Counting.{few_positions}
use Rattle.claim.specs.Search.{GoalNames}

-- a position of the problem: its level is from 1 to 32, its sets are apart and name atoms of the problem
pub record Proper (atoms : ℕ) (q : Target) : Type 0 where
  pub low : 1 ≤ q.level
  pub high : q.level ≤ 32
  pub apart : Apart q.goal.need q.goal.avoid
  pub named : (k : ℕ) → GoalNames q.goal k → k < atoms

-- pairwise different positions over m atoms: at most 32 × 3 ^ m
pub positions_at_most : (m : ℕ) (qs : List Target) → ((r : Target) → Among r qs → Proper m r) → Different qs → length qs ≤ 32 * 3 ^ m
positions_at_most m qs f d =
    few_positions m qs (λ q a.
    let h = f q a in (
      record { ranked = (h.low, h.high); apart = h.apart },
      record { need = λ k x. h.named k (inl x); avoid = λ k x. h.named k (inr x) },
    )) d
