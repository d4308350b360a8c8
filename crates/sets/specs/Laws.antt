-- Laws of sets that everything else cites.
use Rattle.std.specs.Prelude.{◌≡◌, ℕ, ◌+◌, ◌-◌, ◌^◌, ◌<◌, ◌⊎◌, bit_and, bit_or, count_ones}
use Rattle.sets.specs.Sets.{Has, Inside, Apart, Within, minus, Marks}

-- the first holds where the second does, and the other way round
abbrev pub Both : Type 0 → Type 0 → Type 0
Both P Q = (P → Q) × (Q → P)

-- sets with the same members are equal
abbrev pub SameMembers : Type 0
SameMembers = (a b : ℕ) → Inside a b → Inside b a → a ≡ b

-- members of a union, of an intersection and of a difference
abbrev pub Members : Type 0
Members =
    (a b : ℕ) → Marks (bit_or a b) (λ k. Has a k ⊎ Has b k) × Marks (bit_and a b) (λ k. Has a k × Has b k)
    × Marks (minus a b) (λ k. Has a k × (Has b k → ⊥))

-- the two tests of inclusion, and the test of being apart
abbrev pub InclusionTests : Type 0
InclusionTests =
    (a b : ℕ) → Both (Inside a b) (bit_and a b ≡ a)
    × (a < 2 ^ 64 → b < 2 ^ 64 → Both (Inside a b) (bit_and a (2 ^ 64 - 1 - b) ≡ 0))
    × Both (Apart a b) (bit_and a b ≡ 0)

-- a member taken away lowers the size by one
abbrev pub OneLess : Type 0
OneLess = (s k : ℕ) → Has s k → count_ones (minus s (2 ^ k)) + 1 ≡ count_ones s

-- a set has only members below m just where it is below 2 ^ m
abbrev pub Bounds : Type 0
Bounds = (m s : ℕ) → Both (Within m s) (s < 2 ^ m)
