-- The numbers of the refusals.
use Rattle.std.specs.Prelude.{ℕ}
use Rattle.problem.specs.declared.refusal.Refusal.{Refusal}
use Rattle.problem.specs.declared.refusal.Refusal.TheVariants.{CutText, UnknownKind, WrongPlace, OutOfRange, UnknownAtom, SharedAtom, BadLevel, TooShort, StoreCounts, BadBudget, BadStep}

abbrev pub number_of : Refusal → ℕ
number_of CutText = 1
number_of UnknownKind = 2
number_of WrongPlace = 3
number_of OutOfRange = 4
number_of UnknownAtom = 5
number_of SharedAtom = 6
number_of BadLevel = 7
number_of TooShort = 8
number_of StoreCounts = 9
number_of BadBudget = 10
number_of BadStep = 11
