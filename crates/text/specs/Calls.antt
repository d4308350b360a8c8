-- What a call of read answers, and what the lists hold after it.
use Rattle.std.specs.Prelude.{◌≡◌, ℕ, ◌≤◌, ◌⊎◌, List, Ok, Err, Result}
use Rattle.sets.specs.Lists.{room_of, taken}
use Rattle.sets.specs.declared.filled.Filled.{Filled}
use Rattle.problem.specs.declared.rows.ActionRow.{ActionRow}
use Rattle.problem.specs.declared.rows.EffectRow.{EffectRow}
use Rattle.text.specs.Texts.{Contents, contents, Valid, Begins}
use Rattle.text.specs.Readings.{nothing, Outcome, whole, faulty, Reads}
use Rattle.text.specs.Filling.{Refilled}
use Rattle.text.specs.declared.fault.ProblemFault.{ProblemFault}
use Rattle.text.specs.declared.fault.ProblemFault.TheVariants.{Lists}
use Rattle.text.specs.declared.checker.Taken.{Taken}

-- lists that are long enough for any problem
abbrev pub Roomy : Filled ActionRow → Filled EffectRow → Type 0
Roomy actions effects = (64 ≤ room_of actions) × (512 ≤ room_of effects)

-- the problem of the numbers answered and the rows in the lists
abbrev pub gotten : Taken → Filled ActionRow → Filled EffectRow → Contents
gotten t actions effects = contents t.atoms t.hands t.first (taken actions) (taken effects)

-- a problem was read: it is the text's, a valid one, and its bytes are its text
pub record Took (text : List ℕ) (actions actions' : Filled ActionRow) (effects effects' : Filled EffectRow) (t : Taken) : Type 0 where
  pub roomy : Roomy actions effects
  pub reads : Reads text 0 nothing (whole (gotten t actions' effects') t.bytes)
  pub valid : Valid (gotten t actions' effects')
  pub begins : Begins text t.bytes (gotten t actions' effects')
  pub rows : Refilled actions actions' (taken actions')
  pub changes : Refilled effects effects' (taken effects')

-- none was read: both lists are alike, and the fault is the first
pub record Left (text : List ℕ) (actions actions' : Filled ActionRow) (effects effects' : Filled EffectRow) (e : ProblemFault) : Type 0 where
  pub rows : actions' ≡ actions
  pub changes : effects' ≡ effects
  pub fault : ((e ≡ Lists) × (Roomy actions effects → ⊥)) ⊎ (Roomy actions effects × Reads text 0 nothing (faulty e))

-- the outcome that an answer tells
abbrev pub told : Result Taken ProblemFault → Filled ActionRow → Filled EffectRow → Outcome
told (Ok t) actions effects = whole (gotten t actions effects) t.bytes
told (Err e) actions effects = faulty e

-- the answer is this problem, of so many bytes
abbrev pub Gives : Contents → ℕ → Result Taken ProblemFault → Filled ActionRow → Filled EffectRow → Type 0
Gives c n r actions effects =
    (r ≡ Ok (record { atoms = c.atoms; hands = c.hands; first = c.first; bytes = n })) × (taken actions ≡ c.rows) × (taken effects ≡ c.effects)
