-- The states that a search has reached, each with the way back to the first state.
use Rattle.std.specs.Prelude.{◌≡◌, ℕ, ◌+◌, ◌<◌, ◌≤◌, List, length, ◌≢◌, slice_index_or}
use Rattle.sets.specs.Search.{Somewhere}
use Rattle.problem.specs.Firm.{Task, FirmStep}
use Rattle.problem.specs.Runs.{Leads}
use Rattle.plain.specs.declared.reached.Reached.{Reached}

-- the entry i, or one that says nothing where there is none
abbrev pub entry : List Reached → ℕ → Reached
entry rows i = slice_index_or rows i (record { state = 0; from = 0; step = 0; depth = 0 })

-- the first state, reached in no steps
abbrev pub Root : Task → Reached → Type 0
Root t e = (e.state ≡ t.first) × (e.depth ≡ 0)

-- e was reached out of one of the first i entries, by a firm step
pub record Branch (t : Task) (rows : List Reached) (i : ℕ) (e : Reached) : Type 0 where
  pub earlier : e.from < i
  pub deeper : e.depth ≡ (entry rows e.from).depth + 1
  pub firm : FirmStep t (entry rows e.from).state e.step e.state

-- the first entry is the first state, and each other one was reached out of an earlier one; none is deeper than the limit, none less
-- deep than one before it, and no state was reached twice
pub record Grown (t : Task) (limit : ℕ) (rows : List Reached) : Type 0 where
  pub root : 0 < length rows → Root t (entry rows 0)
  pub branch : (i : ℕ) → 0 < i → i < length rows → Branch t rows i (entry rows i)
  pub shallow : (i : ℕ) → i < length rows → (entry rows i).depth ≤ limit
  pub rising : (i j : ℕ) → i ≤ j → j < length rows → (entry rows i).depth ≤ (entry rows j).depth
  pub once : (i j : ℕ) → i < j → j < length rows → (entry rows i).state ≢ (entry rows j).state

-- the state is that of an entry
abbrev pub Seen : List Reached → ℕ → Type 0
Seen rows s = Somewhere (λ e. e.state ≡ s) rows

-- the state was reached in at most d steps
abbrev pub Known : List Reached → ℕ → ℕ → Type 0
Known rows s d = (j : ℕ) × (j < length rows) × ((entry rows j).state ≡ s) × ((entry rows j).depth ≤ d)

-- the entries of xs stand where they stood in ys
abbrev pub Front : List Reached → List Reached → Type 0
Front xs ys = (i : ℕ) → i < length xs → (i < length ys) × (entry ys i ≡ entry xs i)

-- each entry but the first came out of an earlier one
abbrev pub Linked : List Reached → Type 0
Linked rows = (i : ℕ) → 0 < i → i < length rows → (entry rows i).from < i

-- in every task of which the rows are a tree, the steps lead from the first state to the entry i
abbrev pub LeadTo : List Reached → ℕ → List ℕ → Type 0
LeadTo rows i steps = (t : Task) (limit : ℕ) → Grown t limit rows
    → Leads t t.first steps (entry rows i).state × (length steps ≡ (entry rows i).depth)
