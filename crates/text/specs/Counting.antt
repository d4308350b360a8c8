-- What a reading keeps of a draft while it only checks: where it is, and two counts.
use Rattle.std.specs.Prelude.{◌≡◌, ℕ, ◌+◌, Ok, Err, Result}
use Rattle.text.specs.Texts.{Item, size_is, first_is, action_is, effect_is, end_is}
use Rattle.text.specs.Readings.{InRange, Naming, Draft, nothing, more}
use Rattle.text.specs.Misfits.{Misses, fault_of}
use Rattle.text.specs.declared.fault.ProblemFault.{ProblemFault}
use Rattle.text.specs.declared.fits.Misfit.{Misfit}
use Rattle.text.specs.declared.place.Place.TheVariants.{Acted}
use Rattle.text.specs.declared.checker.Size.{Size}
use Rattle.text.specs.declared.checker.Tally.{Tally}

-- a draft with its size, and one with its first state too
abbrev pub scaled : Size → Draft
scaled z = more nothing (size_is z.atoms z.hands)

abbrev pub begun : Size → ℕ → Draft
begun z s = more (scaled z) (first_is s)

-- the counts with one action or effect more
abbrev pub counted : Tally → Item → Tally
counted t (size_is m h) = t
counted t (first_is s) = t
counted t (action_is p) = record { place = Acted; actions = t.actions + 1; latest = 0 }
counted t (effect_is e) = record { place = Acted; actions = t.actions; latest = t.latest + 1 }
counted t end_is = t

-- a record is counted, or it does not fit
abbrev pub Counts : Tally → ℕ → ℕ → Item → Result Tally ProblemFault → Type 0
Counts t m at i (Ok s) = (s ≡ counted t i) × InRange t.actions t.latest i × Naming m i
Counts t m at i (Err e) = (k : Misfit) × (e ≡ fault_of k at) × Misses t.actions t.latest m i k
