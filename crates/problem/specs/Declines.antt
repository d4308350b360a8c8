-- Which refusal each call gives, by the first check that fails.
use Rattle.std.specs.Prelude.{◌≡◌, ℕ, ◌⊎◌, Option, MatchOption, List, length}
use Rattle.sets.specs.Sets.{Within}
use Rattle.problem.specs.Rows.{Placed, Sized, Named}
use Rattle.problem.specs.Firm.{Task, Step, FirmStep}
use Rattle.problem.specs.declared.rows.ActionRow.{ActionRow}
use Rattle.problem.specs.declared.rows.EffectRow.{EffectRow}
use Rattle.problem.specs.declared.refusal.Refusal.{Refusal}
use Rattle.problem.specs.declared.refusal.Refusal.TheVariants.{WrongPlace, OutOfRange, UnknownAtom, BadStep}

-- numbers and rows are those of a problem
abbrev pub Loads : ℕ → ℕ → ℕ → List ActionRow → List EffectRow → Type 0
Loads m h first rows effects = Placed rows (length effects) × Sized m h rows (length effects) × Named m first rows effects

-- why they are not: places first, then sizes, then atoms
abbrev pub LoadDeclines : ℕ → ℕ → ℕ → List ActionRow → List EffectRow → Refusal → Type 0
LoadDeclines m h first rows effects e =
    ((e ≡ WrongPlace) × (Placed rows (length effects) → ⊥))
    ⊎ (((e ≡ OutOfRange) × Placed rows (length effects) × (Sized m h rows (length effects) → ⊥))
    ⊎ ((e ≡ UnknownAtom) × Placed rows (length effects) × Sized m h rows (length effects) × (Named m first rows effects → ⊥)))

-- the answer of a try: the step is firm and ends there, or it is firm with no end
abbrev pub Tries : Task → ℕ → ℕ → Option ℕ → Type 0
Tries t s step r = MatchOption r ((end : ℕ) → FirmStep t s step end → ⊥) (λ end. FirmStep t s step end)

-- a try is made of a state of the task and a step of it
abbrev pub TryDeclines : Task → ℕ → ℕ → Refusal → Type 0
TryDeclines t s step e =
    ((e ≡ UnknownAtom) × (Within t.atoms s → ⊥))
    ⊎ ((e ≡ BadStep) × Within t.atoms s × (Step t step → ⊥))
