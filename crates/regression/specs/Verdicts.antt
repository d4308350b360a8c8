-- What a verdict says.
use Rattle.std.specs.Prelude.{◌≡◌, ℕ}
use Rattle.sets.specs.Sets.{Has}
use Rattle.regression.specs.Spans.{Between}
use Rattle.regression.specs.declared.verdict.Verdict.{Verdict}
use Rattle.regression.specs.declared.verdict.Verdict.TheVariants.{Yes, No, Ask}

-- S holds surely between lo and hi; or it holds in no state between them; or it is not sure, and x is an atom in hi and not in lo, with
-- the property N
abbrev pub Judged : ℕ → ℕ → (ℕ → ℕ → Type 0) → (ℕ → Type 0) → Verdict → Type 0
Judged lo hi S N Yes = S lo hi
Judged lo hi S N No = (s : ℕ) → Between lo hi s → S s s → ⊥
Judged lo hi S N (Ask x) = Has hi x × (Has lo x → ⊥) × N x × (S lo hi → ⊥)

-- the verdict on two things together: No before Ask before Yes
abbrev pub both_of : Verdict → Verdict → Verdict
both_of Yes b = b
both_of No b = No
both_of (Ask x) Yes = Ask x
both_of (Ask x) No = No
both_of (Ask x) (Ask y) = Ask x

-- the verdict on all things of which In holds, by the verdicts P on each: yes if it is yes of each, and otherwise that on one of them
pub record OfAll {X : Type 0} (In : X → Type 0) (P : X → Verdict → Type 0) (v : Verdict) : Type 0 where
  pub each : v ≡ Yes → (x : X) → In x → P x v
  pub one : (v ≡ Yes → ⊥) → (x : X) × In x × P x v

-- a member of ask is asked for; No where there is none
abbrev pub Asks : ℕ → Verdict → Type 0
Asks ask Yes = ⊥
Asks ask No = ask ≡ 0
Asks ask (Ask x) = Has ask x
