-- What an action does.
use Rattle.std.specs.Prelude.{◌≡◌, ℕ, Bool, cond, List, [], ◌∷◌, ◌==◌, bit_and, bit_or}
use Rattle.sets.specs.Sets.{Inside, minus}
use Rattle.sets.specs.Listed.{Among as Stands}
use Rattle.problem.specs.declared.rows.EffectRow.{EffectRow}

-- an action: its precondition, and its effects in order
pub record Action : Type 0 where
  pub precondition : ℕ
  pub effects : List EffectRow

-- e is one of the effects
abbrev pub Among : EffectRow → List EffectRow → Type 0
Among e es = Stands e es

-- an effect fires in a state that holds its whole condition
abbrev pub fires : ℕ → EffectRow → Bool
fires s e = bit_and e.condition s == e.condition

-- the union of one set of each effect that fires in s
abbrev pub gather : (EffectRow → ℕ) → ℕ → List EffectRow → ℕ
gather part s [] = 0
gather part s (e ∷ es) = cond (fires s e) (bit_or (part e) (gather part s es)) (gather part s es)

-- what the effects that fire in s add, and what they delete
abbrev pub adds : ℕ → List EffectRow → ℕ
adds s es = gather (λ e. e.add) s es

abbrev pub deletes : ℕ → List EffectRow → ℕ
deletes s es = gather (λ e. e.delete) s es

-- the state after an action: all that it adds is put in, and then all that it deletes is taken out
abbrev pub result_of : Action → ℕ → ℕ
result_of a s = minus (bit_or s (adds s a.effects)) (deletes s a.effects)

-- the same as two sets that are apart: what the action i takes out of s, and what it puts in for good
abbrev pub cuts : (ℕ → Action) → ℕ → ℕ → ℕ
cuts at s i = deletes s (at i).effects

abbrev pub gives : (ℕ → Action) → ℕ → ℕ → ℕ
gives at s i = minus (adds s (at i).effects) (deletes s (at i).effects)

-- an action may run in a state that holds its whole precondition
abbrev pub MayRun : Action → ℕ → Type 0
MayRun a s = Inside a.precondition s

-- each of the effects fires in both states, or in neither
abbrev pub FireAlike : List EffectRow → ℕ → ℕ → Type 0
FireAlike [] s t = Unit {0}
FireAlike (e ∷ es) s t = (fires s e ≡ fires t e) × FireAlike es s t
