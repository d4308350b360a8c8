-- How a step is written.
use Rattle.std.specs.Prelude.{◌≡◌, ℕ, ◌^◌, List, [], ◌∷◌, ◌++◌, codes, decimal}
use Rattle.sets.specs.Sets.{Lowest, minus}

-- the members of a set, in rising order
abbrev pub Rising : ℕ → List ℕ → Type 0
Rising s [] = s ≡ 0
Rising s (k ∷ ks) = Lowest s k × Rising (minus s (2 ^ k)) ks

-- numbers with a space before each
abbrev pub spaced : List ℕ → List ℕ
spaced [] = []
spaced (k ∷ ks) = codes " " ++ (decimal k ++ spaced ks)

-- a set written behind a text, by the numbers of its members in rising order
abbrev pub WrittenBehind : List ℕ → ℕ → List ℕ → Type 0
WrittenBehind before s after = (ks : List ℕ) × Rising s ks × (after ≡ before ++ spaced ks)
