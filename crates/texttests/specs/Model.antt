-- The model problem.
use Rattle.problem.specs.Examples.{valuation_rows, valuation_effects}
use Rattle.text.specs.Texts.{Contents, contents}

-- the model valuation: five atoms, two hands, first {0, 2}
abbrev pub model : Contents
model = contents 5 2 5 valuation_rows valuation_effects
