-- What each fault is: its refusal, with its number, its offset and the layer that found it.
use Rattle.std.specs.Prelude.{ℕ, List, codes}
use Rattle.problem.specs.declared.refusal.Refusal.{Refusal}
use Rattle.problem.specs.declared.refusal.Refusal.TheVariants.{CutText, UnknownKind, WrongPlace, OutOfRange, UnknownAtom, TooShort}
use Rattle.text.specs.declared.fault.RecordFault.{RecordFault}
use Rattle.text.specs.declared.fault.RecordFault.TheVariants.{Cut, Unknown}
use Rattle.text.specs.declared.fault.ProblemFault.{ProblemFault}
use Rattle.text.specs.declared.fault.ProblemFault.TheVariants.{Record as InRecord, NoEnd, Place, Range, Atom, Lists}
use Rattle.text.specs.declared.fault.ProgramFault.{ProgramFault}
use Rattle.text.specs.declared.fault.ProgramFault.TheVariants.{Problem as InProblem, Long, After}
use Rattle.text.specs.declared.fault.Layer.{Layer}
use Rattle.text.specs.declared.fault.Layer.TheVariants.{Record, Problem, Program}
use Rattle.text.specs.declared.fault.Report.{Report}

-- a layer's name, as its bytes
abbrev pub layer_name : Layer → List ℕ
layer_name Record = codes "record"
layer_name Problem = codes "problem"
layer_name Program = codes "program"

abbrev pub told : Refusal → ℕ → Layer → Report
told refusal offset layer = record { refusal = refusal; offset = offset; layer = layer }

abbrev pub record_report : RecordFault → Report
record_report (Cut at) = told CutText at Record
record_report (Unknown at) = told UnknownKind at Record

abbrev pub problem_report : ProblemFault → Report
problem_report (InRecord e) = record_report e
problem_report (NoEnd at) = told CutText at Problem
problem_report (Place at) = told WrongPlace at Problem
problem_report (Range at) = told OutOfRange at Problem
problem_report (Atom at) = told UnknownAtom at Problem
problem_report Lists = told TooShort 0 Problem

abbrev pub program_report : ProgramFault → Report
program_report (InProblem e) = problem_report e
program_report Long = told OutOfRange 0 Program
program_report (After at) = told WrongPlace at Program
