-- Work on a goal: the nodes of one part of a stack, and what a call leaves of them.
use Rattle.std.specs.Prelude.{◌≡◌, ℕ, zero, suc, ◌+◌, ◌-◌, ◌^◌, ◌<◌, ◌≤◌, ◌⊎◌, List, [], ◌∷◌, length, slice_index_or}
use Rattle.sets.specs.Sets.{Has, Inside, Apart}
use Rattle.problem.specs.Firm.{Task}
use Rattle.problem.specs.Runs.{Goal, Meets}
use Rattle.regression.specs.Reaching.{Reaches, MakesDue, Surely}
use Rattle.regression.specs.Nodes.{Pair, Lies, undecided, Named, Splits, Settles, allowing}
use Rattle.regression.specs.declared.node.Node.{Node}
use Rattle.regression.specs.declared.node.Next.{Next}
use Rattle.regression.specs.declared.node.Next.TheVariants.{Drop, Due, Split}
use Rattle.regression.specs.declared.found.Found.{Found}
use Rattle.regression.specs.declared.found.Found.TheVariants.{Made, Done, NoRoom}

-- the node at a place
abbrev pub node_in : List Node → ℕ → Node
node_in nodes i = slice_index_or nodes i (record { chosen = 0; candidates = 0; region = record { need = 0; avoid = 0 } })

-- so many nodes from a place on, the last first
abbrev pub part_of : List Node → ℕ → ℕ → List Node
part_of nodes start zero = []
part_of nodes start (suc n) = node_in nodes (start + n) ∷ part_of nodes start n

-- the state and the step lie in one of the nodes
abbrev pub LiesIn : List Node → ℕ → ℕ → Type 0
LiesIn [] s step = ⊥
LiesIn (n ∷ ns) s step = Lies n s step ⊎ LiesIn ns s step

-- nothing lies in two of the nodes
abbrev pub Disjoint : List Node → Type 0
Disjoint [] = Unit {0}
Disjoint (n ∷ ns) = ((s step : ℕ) → Lies n s step → LiesIn ns s step → ⊥) × Disjoint ns

-- each node names only atoms that the goal or its chosen actions name
abbrev pub AllNamed : Task → Goal → List Node → Type 0
AllNamed t q [] = Unit {0}
AllNamed t q (n ∷ ns) = Named t q n × AllNamed t q ns

-- what is undecided of a node, with the nodes under it, is at most 128: so there are never more than 129 nodes
abbrev pub Slim : List Node → Type 0
Slim [] = Unit {0}
Slim (n ∷ ns) = (undecided n + length ns ≤ 128) × Slim ns

-- the nodes are those of work on the goal
pub record Orderly (t : Task) (q : Goal) (ns : List Node) : Type 0 where
  pub named : AllNamed t q ns
  pub disjoint : Disjoint ns
  pub slim : Slim ns

-- how much there is to do at most: a node that is split leaves two, each with less to decide
abbrev pub weight : Node → ℕ
weight n = 2 ^ suc (undecided n) - 1

abbrev pub weights : List Node → ℕ
weights [] = 0
weights (n ∷ ns) = weight n + weights ns

-- the state meets a dismissed goal
abbrev pub Dismissed : (Goal → Type 0) → ℕ → Type 0
Dismissed D s = (g : Goal) × D g × Meets g s

-- what becomes of one node
abbrev pub Treated : Task → Goal → (Goal → Type 0) → Node → Next → Type 0
Treated t q D n Drop = (s step : ℕ) → Pair t q s step → Lies n s step → Dismissed D s
Treated t q D n (Due p) = Settles t q n p × (D n.region → ⊥)
Treated t q D n (Split a b) = Splits t q n a b

-- from the nodes before to those after: each pair still lies in one of them, or its state is met by what is answered, or is dismissed;
-- nothing is added; and the work stays orderly
pub record Carried (t : Task) (q : Goal) (D : Goal → Type 0) (met : ℕ → Type 0) (before after : List Node) : Type 0 where
  pub pairs : (s step : ℕ) → Pair t q s step → LiesIn before s step → LiesIn after s step ⊎ (met s ⊎ Dismissed D s)
  pub within : (s step : ℕ) → LiesIn after s step → LiesIn before s step
  pub orderly : Orderly t q before → Orderly t q after
  pub lighter : weights after ≤ weights before

-- the step makes p due: it leads into the goal from every state of p; it lay, from the least state of p, in a node before and lies in none
-- after, so no later answer has this step and this need; nothing can be spared in avoid; p with more to avoid was not dismissed; and of the
-- empty step p is the goal itself
pub record Brings (t : Task) (q : Goal) (D : Goal → Type 0) (before after : List Node) (step : ℕ) (p : Goal) : Type 0 where
  pub carried : Carried t q D (Meets p) before after
  pub apart : Apart p.need p.avoid
  pub leads : (s : ℕ) → Meets p s → Reaches t q s step
  pub taken : LiesIn before p.need step
  pub gone : Orderly t q before → LiesIn after p.need step → ⊥
  pub less : weights after < weights before
  pub least : (x : ℕ) → Has p.avoid x → Surely t q step (allowing p x) → ⊥
  pub wider : (avoid : ℕ) × Inside p.avoid avoid × (D (record { need = p.need; avoid = avoid }) → ⊥)
  pub due : Orderly t q before → MakesDue t q step p
  pub own : Orderly t q before → step ≡ 0 → (p.need ≡ q.need) × (p.avoid ≡ q.avoid)

-- what is found: a region made due, with so many nodes left; or that none is left; or that there is no room for one more node, which
-- orderly work never lacks where 129 nodes have room
abbrev pub Finds : Task → Goal → (Goal → Type 0) → List Node → List Node → ℕ → Found → Type 0
Finds t q D before nodes start (Made due left) = Brings t q D before (part_of nodes start left) due.step due.region
Finds t q D before nodes start Done = Carried t q D (λ _. ⊥) before []
Finds t q D before nodes start (NoRoom left) =
    Carried t q D (λ _. ⊥) before (part_of nodes start left) × (Orderly t q before → start + 129 ≤ length nodes → ⊥)
