-- Which states are asked for.
use Rattle.sets.specs.Sets.{Inside}
use Rattle.problem.specs.Runs.{Goal, Meets}
use Rattle.regresscheck.specs.declared.asked.Asked.{Asked}
use Rattle.regresscheck.specs.declared.asked.Asked.TheVariants.{All, Without, Only}

-- no state of the goal is asked for
abbrev pub Outside : Asked → Goal → Type 0
Outside All g = ⊥
Outside (Without pair) g = Inside pair g.need
Outside (Only s) g = Meets g s → ⊥
