-- What an outlook means, and when it is lawful.
use Rattle.std.specs.Prelude.{◌≡◌, ℕ, ◌≤◌, Bool, T, Some, Option}
use Rattle.sets.specs.Sets.{Has}
use Rattle.problem.specs.Firm.{Task}
use Rattle.problem.specs.Runs.{Goal, Run}

-- what an outlook means: the pairs of atoms that it bars at each level, and its closing level, if it has one
pub record View : Type 0 where
  pub bars : ℕ → ℕ → ℕ → Bool
  pub closing : Option ℕ

-- the set holds a pair barred at the level n (the pair may be one atom twice)
abbrev pub Barred : View → ℕ → ℕ → Type 0
Barred v n set = (a b : ℕ) × Has set a × Has set b × T (v.bars n a b)

-- a lawful outlook of the task
pub record Lawful (t : Task) (v : View) : Type 0 where
  -- a pair is barred in both orders
  pub both : (n a b : ℕ) → v.bars n a b ≡ v.bars n b a
  -- no firm run of at most n steps ends in a state holding a pair barred at n
  pub level : (n k s : ℕ) → n ≤ 32 → k ≤ n → Run t k s → Barred v n s → ⊥
  -- no firm run at all ends in one holding a pair barred at the closing level
  pub closing : (c k s : ℕ) → v.closing ≡ Some c → Run t k s → Barred v c s → ⊥
  pub among : (c : ℕ) → v.closing ≡ Some c → c ≤ 32

-- there is a closing level, and the goal needs a pair barred there
abbrev pub Shut : View → Goal → Type 0
Shut v g = (c : ℕ) × (v.closing ≡ Some c) × Barred v c g.need
