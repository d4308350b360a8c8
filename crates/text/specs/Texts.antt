-- The text of a problem, from its numbers and rows.
use Rattle.std.specs.Prelude.{◌≡◌, ℕ, zero, suc, ◌^◌, ◌<◌, ◌≤◌, List, [], ◌∷◌, ◌++◌, length, take}
use Rattle.std.specs.List.{flat_map}
use Rattle.problem.specs.Actions.{Action}
use Rattle.problem.specs.Problems.{action_at}
use Rattle.problem.specs.Declines.{Loads}
use Rattle.problem.specs.declared.rows.ActionRow.{ActionRow}
use Rattle.problem.specs.declared.rows.EffectRow.{EffectRow}
use Rattle.problem.specs.declared.problem.Problem.{Problem}
use Rattle.text.specs.Bytes.{bytes_of, set_in}

-- the records of a problem, by their values
pub data Item : Type 0 where
  size_is : ℕ → ℕ → Item
  first_is : ℕ → Item
  action_is : ℕ → Item
  effect_is : EffectRow → Item
  end_is : Item

abbrev pub item_kind : Item → ℕ
item_kind (size_is m h) = 1
item_kind (first_is s) = 2
item_kind (action_is p) = 3
item_kind (effect_is e) = 4
item_kind end_is = 5

abbrev pub item_body : Item → List ℕ
item_body (size_is m h) = m ∷ h ∷ []
item_body (first_is s) = bytes_of 8 s
item_body (action_is p) = bytes_of 8 p
item_body (effect_is e) = bytes_of 8 e.condition ++ (bytes_of 8 e.add ++ bytes_of 8 e.delete)
item_body end_is = []

-- the bytes of a record
abbrev pub item_text : Item → List ℕ
item_text i = item_kind i ∷ item_body i

-- the effect whose three sets are the body of a record
abbrev pub effect_in : List ℕ → EffectRow
effect_in body = record { condition = set_in body 0; add = set_in body 8; delete = set_in body 16 }

-- the numbers of a record fit their bytes
abbrev pub Fitting : Item → Type 0
Fitting (size_is m h) = (m < 256) × (h < 256)
Fitting (first_is s) = s < 2 ^ 64
Fitting (action_is p) = p < 2 ^ 64
Fitting (effect_is e) = (e.condition < 2 ^ 64) × (e.add < 2 ^ 64) × (e.delete < 2 ^ 64)
Fitting end_is = Unit {0}

-- the numbers and rows of a problem
pub record Contents : Type 0 where
  pub atoms : ℕ
  pub hands : ℕ
  pub first : ℕ
  pub rows : List ActionRow
  pub effects : List EffectRow

abbrev pub contents : ℕ → ℕ → ℕ → List ActionRow → List EffectRow → Contents
contents m h s rows effects = record { atoms = m; hands = h; first = s; rows = rows; effects = effects }

abbrev pub contents_of : Problem → Contents
contents_of p = contents p.atoms p.hands p.first p.actions.now p.effects.now

-- they are those of a problem: in place, in range and named
abbrev pub Valid : Contents → Type 0
Valid c = Loads c.atoms c.hands c.first c.rows c.effects

-- an action, followed by its effects
abbrev pub action_text : Action → List ℕ
action_text a = item_text (action_is a.precondition) ++ flat_map (λ e. item_text (effect_is e)) a.effects

-- the first n of the actions
unfoldable pub actions_text : (ℕ → Action) → ℕ → List ℕ
actions_text at zero = []
actions_text at (suc n) = actions_text at n ++ action_text (at n)

-- a problem without its end record: its size, its first state and its actions
unfoldable pub open_text : Contents → List ℕ
open_text c =
    item_text (size_is c.atoms c.hands)
    ++ (item_text (first_is c.first) ++ actions_text (action_at c.rows c.effects) (length c.rows))

-- the text of a problem
abbrev pub problem_text : Contents → List ℕ
problem_text c = open_text c ++ item_text end_is

-- the first n bytes of a text are the text of a problem
abbrev pub Begins : List ℕ → ℕ → Contents → Type 0
Begins text n c = (n ≤ length text) × (take n text ≡ problem_text c)
