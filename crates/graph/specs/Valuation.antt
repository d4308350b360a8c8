-- The model valuation, and the first levels of its planning graph.
use Rattle.std.specs.Prelude.{◌≡◌, ℕ, ◌⊎◌, List, [], ◌∷◌}
use Rattle.sets.specs.Sets.{Marks}
use Rattle.problem.specs.Firm.{Task}
use Rattle.problem.specs.Problems.{action_at}
use Rattle.problem.specs.declared.rows.ActionRow.{ActionRow}
use Rattle.problem.specs.declared.rows.EffectRow.{EffectRow}
use Rattle.graph.specs.Levels.{level, ClosesAt}
use Rattle.graph.specs.Turning.{Both}

-- check needs 0 and adds 1; post needs 1 and adds 4; sweep needs 0, deletes 0, and if 2 holds adds 3 and deletes 2
abbrev pub rows : List ActionRow
rows =
    record { precondition = 0b00001; first_effect = 0 }
    ∷ record { precondition = 0b00010; first_effect = 1 }
    ∷ record { precondition = 0b00001; first_effect = 2 } ∷ []

abbrev pub effects : List EffectRow
effects =
    record { condition = 0; add = 0b00010; delete = 0 }
    ∷ record { condition = 0; add = 0b10000; delete = 0 }
    ∷ record { condition = 0; add = 0; delete = 0b00001 }
    ∷ record { condition = 0b00100; add = 0b01000; delete = 0b00100 } ∷ []

-- five atoms, two hands, and the first state {0,2}
abbrev pub valuation : Task
valuation = record { atoms = 5; hands = 2; first = 0b00101; count = 3; at = action_at rows effects }

-- f and g are a and b, in either order
abbrev pub Pair : ℕ → ℕ → ℕ → ℕ → Type 0
Pair a b f g = ((f ≡ a) × (g ≡ b)) ⊎ ((f ≡ b) × (g ≡ a))

-- level 1 has the facts {0,1,2,3}, with 0-3 and 1-3 exclusive; level 2 has the facts {0,1,2,3,4}, with 0-3 exclusive; and the
-- closing level is 2
pub record FirstLevels : Type 0 where
  pub facts_one : Marks 0b01111 (level valuation 1).fact
  pub exclusive_one : (f g : ℕ) → Both ((level valuation 1).exclusive f g) (Pair 0 3 f g ⊎ Pair 1 3 f g)
  pub facts_two : Marks 0b11111 (level valuation 2).fact
  pub exclusive_two : (f g : ℕ) → Both ((level valuation 2).exclusive f g) (Pair 0 3 f g)
  pub closing : ClosesAt (level valuation) 2
