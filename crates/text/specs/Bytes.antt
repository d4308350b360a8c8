-- Bytes of numbers, and bytes that stand somewhere in a text.
use Rattle.std.specs.Prelude.{◌≡◌, ℕ, zero, suc, ◌+◌, ◌/◌, ◌%◌, List, [], ◌∷◌, ◌++◌, length, take, drop}
use Rattle.std.specs.Int.Digits.{number_from_digits}

-- the bytes of a number, so many, the highest first
unfoldable pub bytes_of : ℕ → ℕ → List ℕ
bytes_of zero n = []
bytes_of (suc w) n = bytes_of w (n / 256) ++ (n % 256 ∷ [])

-- the number whose eight bytes begin at k
abbrev pub set_in : List ℕ → ℕ → ℕ
set_in bytes k = number_from_digits 256 (take 8 (drop k bytes))

-- a list with another written over it from `at` on
unfoldable pub put : List ℕ → ℕ → List ℕ → List ℕ
put out at bytes = take at out ++ (bytes ++ drop (at + length bytes) out)

-- these bytes stand in the text from `at` on
abbrev pub Stand : List ℕ → ℕ → List ℕ → Type 0
Stand text at bytes = take (length bytes) (drop at text) ≡ bytes
