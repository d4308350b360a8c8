-- Why the values of a record are not allowed: range comes first, then atoms.
use Rattle.std.specs.Prelude.{ℕ, Result, MatchResult}
use Rattle.problem.specs.declared.refusal.Refusal.{Refusal}
use Rattle.problem.specs.declared.refusal.Refusal.TheVariants.{OutOfRange, UnknownAtom}
use Rattle.text.specs.Texts.{Item}
use Rattle.text.specs.Readings.{InRange, Naming}
use Rattle.text.specs.declared.fits.Misfit.{Misfit}
use Rattle.text.specs.declared.fits.Misfit.TheVariants.{Range, Atom}
use Rattle.text.specs.declared.fault.ProblemFault.{ProblemFault}
use Rattle.text.specs.declared.fault.ProblemFault.TheVariants as faults

-- after so many actions, the latest with so many effects, in a problem of m atoms
abbrev pub Misses : ℕ → ℕ → ℕ → Item → Misfit → Type 0
Misses actions latest m i Range = InRange actions latest i → ⊥
Misses actions latest m i Atom = InRange actions latest i × (Naming m i → ⊥)

-- the values of a record are in range and name known atoms, or why not
abbrev pub Fit : ℕ → ℕ → ℕ → Item → Result (Unit {0}) Misfit → Type 0
Fit actions latest m i r = MatchResult r (λ _. InRange actions latest i × Naming m i) (Misses actions latest m i)

abbrev pub fault_of : Misfit → ℕ → ProblemFault
fault_of Range at = faults.Range at
fault_of Atom at = faults.Atom at

abbrev pub refusal_of : Misfit → Refusal
refusal_of Range = OutOfRange
refusal_of Atom = UnknownAtom
