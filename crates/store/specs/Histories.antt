-- What a store was told since its first hour or its last clear, and how much it can have kept.
use Rattle.std.specs.Prelude.{◌≡◌, ℕ, ◌*◌, ◌^◌, ◌≤◌, List, [], ◌∷◌, length, Ok, Err, Result}
use Rattle.problem.specs.declared.refusal.Refusal.{Refusal}
use Rattle.sets.specs.Listed.{Among, Different}
use Rattle.store.specs.Positions.{Target, Covers, Proper, NamesBelow}
use Rattle.store.specs.Stores.{Meaning, Covered, Blank, Telling}
use Rattle.store.specs.declared.answer.Answer.{Answer}
use Rattle.store.specs.declared.answer.Answer.TheVariants.{Known, Kept, PassedOver}

-- one telling: the position told, and what the store answered
pub record Said : Type 0 where
  pub position : Target
  pub answer : Result Answer Refusal

-- a store that covered and counted nothing was told these positions, the latest first, and means m now
abbrev pub SinceClear : List Said → Meaning → Type 0
SinceClear [] m = Blank m
SinceClear (t ∷ ts) m = (before : Meaning) × SinceClear ts before × Telling before t.position t.answer m

-- the positions kept, with q if it was
abbrev pub kept_with : Result Answer Refusal → Target → List Target → List Target
kept_with (Ok Known) q qs = qs
kept_with (Ok Kept) q qs = q ∷ qs
kept_with (Ok PassedOver) q qs = qs
kept_with (Err e) q qs = qs

-- those of them that were kept, the latest first
abbrev pub kept_of : List Said → List Target
kept_of [] = []
kept_of (t ∷ ts) = kept_with t.answer t.position (kept_of ts)

-- a store that means m kept just these: they are pairwise different and as many as it counts, and it covers what they cover
pub record Keeps (qs : List Target) (m : Meaning) : Type 0 where
  pub different : Different qs
  pub count : m.kept ≡ length qs
  pub only : (r : Target) → Covered m r → (q : Target) × Among q qs × Covers q r
  pub all : (q r : Target) → Among q qs → Covers q r → Covered m r

-- they are positions over m atoms
abbrev pub PositionsOver : ℕ → List Target → Type 0
PositionsOver m qs = (q : Target) → Among q qs → Proper q × NamesBelow m q

-- pairwise different positions over m atoms are at most so many
abbrev pub PositionsAtMost : (ℕ → ℕ) → Type 0
PositionsAtMost most = (m : ℕ) (qs : List Target) → PositionsOver m qs → Different qs → length qs ≤ most m

-- whatever a store was told until it meant m: it kept different positions, and n of them
abbrev pub KeptSinceClear : Meaning → ℕ → Type 0
KeptSinceClear m n = (ts : List Said) → SinceClear ts m → Keeps (kept_of ts) m × (n ≡ length (kept_of ts))

-- so over so many atoms it kept few
abbrev pub FewSinceClear : Meaning → ℕ → Type 0
FewSinceClear m n = (atoms : ℕ) (ts : List Said) → SinceClear ts m → PositionsOver atoms (kept_of ts) → n ≤ 32 * 3 ^ atoms
