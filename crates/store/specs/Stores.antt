-- What a store means, and what a lawful store does when it is told a position.
use Rattle.std.specs.Prelude.{◌≡◌, ℕ, ◌+◌, ◌<◌, ◌≤◌, Bool, T, ◌⊎◌, Ok, Err, Result}
use Rattle.problem.specs.declared.refusal.Refusal.{Refusal}
use Rattle.problem.specs.declared.refusal.Refusal.TheVariants.{StoreCounts}
use Rattle.store.specs.Positions.{Target, Covers}
use Rattle.store.specs.declared.answer.Answer.{Answer}
use Rattle.store.specs.declared.answer.Answer.TheVariants.{Known, Kept, PassedOver}

-- what a store means: the positions that it covers (a review says of each whether it is one), and its two counts
pub record Meaning : Type 0 where
  pub covers : Target → Bool
  pub kept : ℕ
  pub passed : ℕ

abbrev pub Covered : Meaning → Target → Type 0
Covered m q = T (m.covers q)

-- a store in its first hour, and after a clear
pub record Blank (m : Meaning) : Type 0 where
  pub nothing : (q : Target) → Covered m q → ⊥
  pub kept : m.kept ≡ 0
  pub passed : m.passed ≡ 0

-- what a lawful store that means m answers, told q, and what it means then
abbrev pub Told : Meaning → Target → Answer → Meaning → Type 0
Told m q Known m' = Covered m q × (m' ≡ m)
Told m q Kept m' =
    (Covered m q → ⊥)
    × ((r : Target) → Covered m' r → Covered m r ⊎ Covers q r)
    × ((r : Target) → Covered m r ⊎ Covers q r → Covered m' r)
    × (m'.kept ≡ m.kept + 1) × (m'.passed ≡ m.passed)
Told m q PassedOver m' =
    (Covered m q → ⊥)
    × ((r : Target) → Covered m' r → Covered m r)
    × ((r : Target) → Covered m r → Covered m' r)
    × (m'.kept ≡ m.kept) × (m'.passed ≡ m.passed + 1)

-- the same of a call: where the two counts together are 16,000,000, whatever it is told is declined, and it means what it meant
abbrev pub Telling : Meaning → Target → Result Answer Refusal → Meaning → Type 0
Telling m q (Ok a) m' = (m.kept + m.passed < 16000000) × Told m q a m'
Telling m q (Err e) m' = (m.kept + m.passed ≡ 16000000) × (e ≡ StoreCounts) × (m' ≡ m)

-- the laws of a kind of store: what a covered position covers is covered, a store that kept nothing covers nothing, and the counts
-- stay within what they may be
pub record Lawful {S : Type 0} (meaning : S → Meaning) : Type 0 where
  pub down : (s : S) (q r : Target) → Covered (meaning s) q → Covers q r → Covered (meaning s) r
  pub empty : (s : S) → (meaning s).kept ≡ 0 → (q : Target) → Covered (meaning s) q → ⊥
  pub few : (s : S) → (meaning s).kept + (meaning s).passed ≤ 16000000
