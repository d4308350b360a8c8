-- What is proved of the levels of the planning graph.
use Rattle.std.specs.Prelude.{ℕ, suc, ◌≤◌}
use Rattle.sets.specs.Sets.{Has}
use Rattle.problem.specs.Firm.{Task}
use Rattle.problem.specs.Runs.{Run}
use Rattle.problem.specs.Problems.{Fits}
use Rattle.graph.specs.Levels.{level, Together, Same, Open, Bars}

-- after a firm run of n steps each atom of the state is a fact of level n, and no two are exclusive
abbrev pub LevelsSound : Type 0
LevelsSound = (t : Task) → Fits t → (n s : ℕ) → Run t n s → Together (level t n) s

-- a pair is exclusive in both orders
abbrev pub ExclusiveBoth : Type 0
ExclusiveBoth = (t : Task) (n f g : ℕ) → (level t n).exclusive f g → (level t n).exclusive g f

-- what a level allows together, the next one does too
abbrev pub BarsLoosen : Type 0
BarsLoosen = (t : Task) (n f g : ℕ) → Open (level t n) f g → Open (level t (suc n)) f g

-- equal neighbours stay equal for ever
abbrev pub NeighboursStay : Type 0
NeighboursStay = (t : Task) (n : ℕ) → Same (level t n) (level t (suc n)) → (k : ℕ) → n ≤ k → Same (level t n) (level t k)

-- no firm run of at most n steps ends in a state that holds a pair barred at level n
abbrev pub BarredUnreached : Type 0
BarredUnreached = (t : Task) → Fits t → (n k s : ℕ) → k ≤ n → Run t k s → (f g : ℕ) → Has s f → Has s g → Bars (level t n) f g → ⊥

-- where a level equals the next, no firm run at all ends in a state that holds a pair barred there
abbrev pub ClosedUnreached : Type 0
ClosedUnreached =
    (t : Task) → Fits t → (n : ℕ) → Same (level t n) (level t (suc n))
    → (k s : ℕ) → Run t k s → (f g : ℕ) → Has s f → Has s g → Bars (level t n) f g → ⊥
