-- What growing does to the tree of the states that a search has reached.
use Rattle.std.specs.Prelude.{◌≡◌, ℕ, ◌+◌, ◌<◌, ◌≤◌, Bool, true, false, ◌⊎◌, List, [], ◌∷◌, ◌++◌, length, vec_items, vec_len, ◌≢◌}
use Rattle.sets.specs.Sets.{Has, Inside}
use Rattle.problem.specs.Firm.{Task, FirmStep}
use Rattle.plain.specs.Trees.{entry, Grown, Seen, Known, Front}
use Rattle.plain.specs.Searches.{Crowded}
use Rattle.plain.specs.declared.reached.Reached.{Reached}
use Rattle.plain.specs.declared.tree.Stop.{Stop}
use Rattle.plain.specs.declared.tree.Stop.TheVariants.{Full, NoMemory}
use Rattle.plain.specs.declared.tree.Tree.{Tree}

-- the entries of a tree
abbrev pub rows_of : Tree → List Reached
rows_of tree = vec_items tree.reached

-- a tree of the task within the limit, with at most so many entries
pub record TreeOf (t : Task) (limit most : ℕ) (tree : Tree) : Type 0 where
  pub grown : Grown t limit (rows_of tree)
  pub within : vec_len tree.reached ≤ most

-- a tree of the task whose entry i is being taken further: no entry is more than one step deeper
pub record Growing (t : Task) (limit most : ℕ) (tree : Tree) (i : ℕ) : Type 0 where
  pub sound : TreeOf t limit most tree
  pub known : i < length (rows_of tree)
  pub ahead : (j : ℕ) → j < length (rows_of tree) → (entry (rows_of tree) j).depth ≤ (entry (rows_of tree) i).depth + 1

-- b is a with e behind the others, unless e's state was there already
abbrev pub Remembered : ℕ → Tree → Reached → Tree → Type 0
Remembered most a e b =
    (Seen (rows_of a) e.state × (rows_of b ≡ rows_of a))
    ⊎ ((Seen (rows_of a) e.state → ⊥) × (rows_of b ≡ rows_of a ++ e ∷ []) × (vec_len b.reached ≤ most))

-- why it could not be remembered
abbrev pub Unremembered : ℕ → Tree → Reached → Stop → Type 0
Unremembered most a e Full = (Seen (rows_of a) e.state → ⊥) × (most ≤ vec_len a.reached)
Unremembered most a e NoMemory = Unit {0}

-- why a tree of the task with these bounds stops growing
abbrev pub Stops : Task → ℕ → ℕ → Stop → Type 0
Stops t limit most Full = Crowded t limit most
Stops t limit most NoMemory = Unit {0}

-- whether the step was taken out of the entry e: it is firm there, and its end is known now; or it is not firm, or e lies at the limit
abbrev pub Taken : Task → ℕ → List Reached → Reached → ℕ → Bool → Type 0
Taken t limit rows e step true = (end : ℕ) × FirmStep t e.state step end × Known rows end (e.depth + 1)
Taken t limit rows e step false = e.depth < limit → (end : ℕ) → FirmStep t e.state step end → ⊥

-- wide is step and besides some actions, all from the given one on
abbrev pub Wider : ℕ → ℕ → ℕ → Type 0
Wider step action wide = Inside step wide × ((k : ℕ) → Has wide k → Has step k ⊎ (action ≤ k)) × (wide ≢ step)

-- out of the entry e, unless it lies at the limit, every wider step that is firm was taken
abbrev pub TakenFrom : Task → ℕ → List Reached → Reached → ℕ → ℕ → Type 0
TakenFrom t limit rows e step action =
    e.depth < limit → (wide end : ℕ) → Wider step action wide → FirmStep t e.state wide end → Known rows end (e.depth + 1)

-- b is a, which keeps its place i, after the step was taken or not; after every wider step was
abbrev pub Reaches : Task → ℕ → ℕ → Tree → ℕ → ℕ → Bool → Tree → Type 0
Reaches t limit most a i step took b =
    Growing t limit most b i × Front (rows_of a) (rows_of b) × Taken t limit (rows_of b) (entry (rows_of a) i) step took

abbrev pub Grows : Task → ℕ → ℕ → Tree → ℕ → ℕ → ℕ → Tree → Type 0
Grows t limit most a i step action b =
    Growing t limit most b i × Front (rows_of a) (rows_of b) × TakenFrom t limit (rows_of b) (entry (rows_of a) i) step action
