-- The table of a graph, level by level.
use Rattle.std.specs.Prelude.{◌≡◌, ℕ, ◌+◌, ◌*◌, ◌<◌, ◌≤◌, Bool, not, ◌||◌, ◌==◌, List, take, drop, slice_index}
use Rattle.sets.specs.Sets.{bit, Has}
use Rattle.problem.specs.Firm.{Task}
use Rattle.graph.specs.Levels.{Level, level, Same}
use Rattle.graph.specs.declared.graph.Graph.{Graph}

-- how many atoms the problem has
abbrev pub atoms_of : Graph → ℕ
atoms_of g = g.atoms

-- the facts of the level n
abbrev pub facts_at : Graph → ℕ → ℕ
facts_at g n = slice_index g.facts n

-- the row of the atom a at the level n
abbrev pub row_at : Graph → ℕ → ℕ → ℕ
row_at g n a = slice_index g.exclusive (64 * n + a)

-- all rows of the level n
abbrev pub rows_at : Graph → ℕ → List ℕ
rows_at g n = take 64 (drop (64 * n) g.exclusive)

-- the level n of the table
abbrev pub level_in : Graph → ℕ → Level
level_in g n = record { fact = λ f. Has (facts_at g n) f; exclusive = λ a b. (a < 64) × Has (row_at g n a) b }

-- the table has just the facts and the exclusions of the rules, no more and no fewer
pub record GraphOf (t : Task) (g : Graph) : Type 0 where
  pub atoms : atoms_of g ≡ t.atoms
  pub levels : (n : ℕ) → n ≤ 32 → Same (level_in g n) (level t n)

-- whether k is a member of s
abbrev pub has : ℕ → ℕ → Bool
has s k = bit s k == 1

-- whether the table bars a pair at the level n: either is no fact there, or the two are exclusive
abbrev pub bars_in : Graph → ℕ → ℕ → ℕ → Bool
bars_in g n a b = not (has (facts_at g n) a) || (not (has (facts_at g n) b) || has (row_at g n a) b)
