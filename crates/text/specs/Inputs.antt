-- The input of the program: a problem, and questions behind it.
use Rattle.std.specs.Prelude.{◌≡◌, ℕ, ◌+◌, ◌^◌, ◌<◌, ◌≤◌, List, ◌∷◌, ◌++◌, length, Some, None, Ok, Err, Option, Result, slice_index}
use Rattle.sets.specs.declared.filled.Filled.{Filled}
use Rattle.problem.specs.declared.rows.ActionRow.{ActionRow}
use Rattle.problem.specs.declared.rows.EffectRow.{EffectRow}
use Rattle.text.specs.Bytes.{bytes_of, Stand}
use Rattle.text.specs.Records.{Strange, Torn}
use Rattle.text.specs.Calls.{Took, Left}
use Rattle.text.specs.declared.fault.RecordFault.TheVariants.{Cut, Unknown}
use Rattle.text.specs.declared.fault.ProblemFault.{ProblemFault}
use Rattle.text.specs.declared.fault.ProblemFault.TheVariants.{Record as InRecord, NoEnd, Place, Range, Atom, Lists}
use Rattle.text.specs.declared.fault.ProgramFault.{ProgramFault}
use Rattle.text.specs.declared.fault.ProgramFault.TheVariants.{Problem as InProblem, Long, After}
use Rattle.text.specs.declared.checker.Taken.{Taken}
use Rattle.problem.specs.declared.question.Question.{Question}
use Rattle.text.specs.declared.questions.Asked.{Asked}

-- the input is not too long, and its problem is read; or it is too long, and nothing is read
abbrev pub TakesInput : List ℕ → Filled ActionRow → Filled ActionRow → Filled EffectRow → Filled EffectRow → Result Taken ProgramFault → Type 0
TakesInput text a a' e e' (Ok t) = (length text ≤ 32768) × Took text a a' e e' t
TakesInput text a a' e e' (Err (InProblem f)) = (length text ≤ 32768) × Left text a a' e e' f
TakesInput text a a' e e' (Err Long) = (32768 < length text) × (a' ≡ a) × (e' ≡ e)
TakesInput text a a' e e' (Err (After o)) = ⊥

-- the text of a question
abbrev pub question_text : Question → List ℕ
question_text q = 6 ∷ (bytes_of 8 q.goal.need ++ (bytes_of 8 q.goal.avoid ++ (q.limit ∷ bytes_of 4 q.budget)))

-- a question stands at an offset, and the next would stand behind it
pub record Asking (text : List ℕ) (at : ℕ) (a : Asked) : Type 0 where
  pub bytes : Stand text at (question_text a.question)
  pub next : a.next ≡ at + 22
  pub sets : (a.question.goal.need < 2 ^ 64) × (a.question.goal.avoid < 2 ^ 64)
  pub numbers : (a.question.limit < 256) × (a.question.budget < 2 ^ 32)

-- the faults of a question: no kind, or a body that is not whole
abbrev pub AskFault : List ℕ → ℕ → ProblemFault → Type 0
AskFault text at (InRecord (Unknown o)) = (o ≡ at) × Strange text at
AskFault text at (InRecord (Cut o)) = (o ≡ at) × (slice_index text at ≡ 6) × Torn text at
AskFault text at (NoEnd o) = ⊥
AskFault text at (Place o) = ⊥
AskFault text at (Range o) = ⊥
AskFault text at (Atom o) = ⊥
AskFault text at Lists = ⊥

-- the end of the text, a question, or a fault; a known kind that is no question is the program's own
abbrev pub Asks : List ℕ → ℕ → Result (Option Asked) ProgramFault → Type 0
Asks text at (Ok None) = length text ≤ at
Asks text at (Ok (Some a)) = Asking text at a
Asks text at (Err (InProblem f)) = AskFault text at f
Asks text at (Err Long) = ⊥
Asks text at (Err (After o)) = (o ≡ at) × (at < length text) × ((1 ≤ slice_index text at) × (slice_index text at ≤ 5))
