-- What a node stands for, and what becomes of it.
use Rattle.std.specs.Prelude.{◌≡◌, ℕ, ◌+◌, ◌-◌, ◌^◌, ◌<◌, ◌⊎◌, bit_or, count_ones}
use Rattle.sets.specs.Sets.{Has, Inside, Apart, minus}
use Rattle.problem.specs.Firm.{Task, FirmStep}
use Rattle.problem.specs.Runs.{Goal, Meets}
use Rattle.regression.specs.Matters.{GoalNames, ActionNames}
use Rattle.regression.specs.Reaching.{Reaches, Lean, Surely}
use Rattle.regression.specs.declared.node.Node.{Node}
use Rattle.regression.specs.declared.node.Next.{Next}
use Rattle.regression.specs.declared.node.Next.TheVariants.{Drop, Due, Split}

-- the step takes s into the goal, and no smaller part of it does
pub record Pair (t : Task) (q : Goal) (s step : ℕ) : Type 0 where
  pub reaches : Reaches t q s step
  pub lean : Lean t q s step

-- the state and the step lie in the node: the state in its region, and the step has all the chosen actions and otherwise only candidates
pub record Lies (n : Node) (s step : ℕ) : Type 0 where
  pub meets : Meets n.region s
  pub least : Inside n.chosen step
  pub most : Inside step (bit_or n.chosen n.candidates)

-- the actions still to be decided on, and the atoms
abbrev pub undecided : Node → ℕ
undecided n = count_ones n.candidates + count_ones (minus (2 ^ 64 - 1) (bit_or n.region.need n.region.avoid))

-- the region names only atoms that the goal or the chosen actions name
abbrev pub Named : Task → Goal → Node → Type 0
Named t q n =
    (k : ℕ) → GoalNames n.region k → GoalNames q k ⊎ ((i : ℕ) × Has n.chosen i × ActionNames (t.at i) k)

-- each pair that lies in n lies in a or b, and nothing in both; what lies in them lies in n; less of each is undecided
pub record Splits (t : Task) (q : Goal) (n a b : Node) : Type 0 where
  pub either : (s step : ℕ) → Pair t q s step → Lies n s step → Lies a s step ⊎ Lies b s step
  pub never_both : (s step : ℕ) → Lies a s step → Lies b s step → ⊥
  pub first_in : (s step : ℕ) → Lies a s step → Lies n s step
  pub second_in : (s step : ℕ) → Lies b s step → Lies n s step
  pub first_less : undecided a < undecided n
  pub second_less : undecided b < undecided n
  pub first_named : Named t q n → Named t q a
  pub second_named : Named t q n → Named t q b

-- the region without the atom x in avoid
abbrev pub allowing : Goal → ℕ → Goal
allowing p x = record { need = p.need; avoid = minus p.avoid (2 ^ x) }

-- r is p with as little to avoid as the step surely bears
pub record Shrunk (t : Task) (q : Goal) (step : ℕ) (p r : Goal) : Type 0 where
  pub need : r.need ≡ p.need
  pub avoid : Inside r.avoid p.avoid
  pub still : Surely t q step r
  pub least : (x : ℕ) → Has r.avoid x → Surely t q step (allowing r x) → ⊥

-- the chosen step leads into the goal from every state of p, the node's region with less to avoid; no other step lies in the node
pub record Settles (t : Task) (q : Goal) (n : Node) (p : Goal) : Type 0 where
  pub apart : Apart n.region.need n.region.avoid
  pub shrunk : Shrunk t q n.chosen n.region p
  pub leads : (s : ℕ) → Meets p s → Reaches t q s n.chosen
  pub only : (s step : ℕ) → Pair t q s step → Lies n s step → step ≡ n.chosen

abbrev pub Expanded : Task → Goal → Node → Next → Type 0
Expanded t q n Drop = (s step : ℕ) → Pair t q s step → Lies n s step → ⊥
Expanded t q n (Due p) = Settles t q n p
Expanded t q n (Split a b) = Splits t q n a b

-- r is the node n with the action k chosen
pub record WithAction (t : Task) (n : Node) (k : ℕ) (r : Node) : Type 0 where
  pub chosen : r.chosen ≡ bit_or n.chosen (2 ^ k)
  pub candidates : r.candidates ≡ minus n.candidates (2 ^ k)
  pub need : r.region.need ≡ bit_or n.region.need (t.at k).precondition
  pub avoid : r.region.avoid ≡ n.region.avoid

-- no step that has all of chosen is firm in a state of the region
abbrev pub Hopeless : Task → ℕ → Goal → Type 0
Hopeless t chosen p = (s step end : ℕ) → Meets p s → Inside chosen step → FirmStep t s step end → ⊥

-- a closed node: the chosen step alone
abbrev pub closed : ℕ → Goal → Node
closed chosen p = record { chosen = chosen; candidates = 0; region = p }
