-- Sets of atoms as numbers: atom k is a member where bit k is 1.
use Rattle.std.specs.Prelude.{◌≡◌, ℕ, ◌-◌, ◌/◌, ◌%◌, ◌^◌, ◌<◌, ◌≤◌, Option, MatchOption, bit_and}

-- the bit k of a number
unfoldable pub bit : ℕ → ℕ → ℕ
bit s k = s / 2 ^ k % 2

-- k is a member of s
abbrev pub Has : ℕ → ℕ → Type 0
Has s k = bit s k ≡ 1

-- each member of a is a member of b
abbrev pub Inside : ℕ → ℕ → Type 0
Inside a b = (k : ℕ) → Has a k → Has b k

-- no member of a is a member of b
abbrev pub Apart : ℕ → ℕ → Type 0
Apart a b = (k : ℕ) → Has a k → Has b k → ⊥

-- each member of s is below m
abbrev pub Within : ℕ → ℕ → Type 0
Within m s = (k : ℕ) → Has s k → k < m

-- what a has and b has not
unfoldable pub minus : ℕ → ℕ → ℕ
minus a b = a - bit_and a b

-- k is the lowest member of s
pub record Lowest (s k : ℕ) : Type 0 where
  pub member : Has s k
  pub least : (j : ℕ) → Has s j → k ≤ j

-- s has just the numbers of which P holds
pub record Marks (s : ℕ) (P : ℕ → Type 0) : Type 0 where
  pub only : (k : ℕ) → Has s k → P k
  pub all : (k : ℕ) → P k → Has s k

-- what a look at the members of s, the lowest first, gives, and the members left to be looked at
abbrev pub Takes : ℕ → Option ℕ → ℕ → Type 0
Takes s r t = MatchOption r ((s ≡ 0) × (t ≡ 0)) (λ k. Lowest s k × Marks t (λ j. Has s j × (Lowest s j → ⊥)))
