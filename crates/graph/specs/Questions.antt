-- How a question about a level is answered, or declined.
use Rattle.std.specs.Prelude.{◌≡◌, ℕ, ◌<◌, ◌≤◌, ◌⊎◌, Result, MatchResult}
use Rattle.problem.specs.declared.refusal.Refusal.{Refusal}
use Rattle.problem.specs.declared.refusal.Refusal.TheVariants.{BadLevel, UnknownAtom}

-- a question about the level n is declined for its level first, and then if its atoms are not all known
abbrev pub QuestionDeclines : ℕ → Type 0 → Refusal → Type 0
QuestionDeclines n Known e = ((e ≡ BadLevel) × (32 < n)) ⊎ ((e ≡ UnknownAtom) × (n ≤ 32) × (Known → ⊥))

-- P holds of the answer, and no question is declined whose level is at most 32 and whose atoms are known
abbrev pub Answered : {X : Type 0} → ℕ → Type 0 → (X → Type 0) → Result X Refusal → Type 0
Answered n Known P r = MatchResult r (λ x. (n ≤ 32) × Known × P x) (λ e. QuestionDeclines n Known e)
