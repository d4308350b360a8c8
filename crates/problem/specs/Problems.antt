-- The task that a problem of rows stands for.
use Rattle.std.specs.Prelude.{◌≡◌, ℕ, ◌+◌, ◌-◌, ◌<◌, ◌≤◌, List, length, take, drop}
use Rattle.sets.specs.Sets.{Within}
use Rattle.problem.specs.Rows.{row_at, begins, names_of}
use Rattle.problem.specs.Actions.{Action, Among}
use Rattle.problem.specs.Firm.{Task}
use Rattle.problem.specs.declared.rows.ActionRow.{ActionRow}
use Rattle.problem.specs.declared.rows.EffectRow.{EffectRow}
use Rattle.problem.specs.declared.problem.Problem.{Problem}

-- the action k: its row's precondition, and the effects from its first up to the first of the next action
abbrev pub action_at : List ActionRow → List EffectRow → ℕ → Action
action_at rows effects k = record {
  precondition = (row_at rows k).precondition;
  effects = take (begins rows (length effects) (k + 1) - begins rows (length effects) k) (drop (begins rows (length effects) k) effects);
}

-- the task of these numbers and rows, and of a problem
abbrev pub task_from : ℕ → ℕ → ℕ → List ActionRow → List EffectRow → Task
task_from m h first rows effects =
    record { atoms = m; hands = h; first = first; count = length rows; at = action_at rows effects }

abbrev pub task_of : Problem → Task
task_of p = task_from p.atoms p.hands p.first p.actions.now p.effects.now

-- the problem has these numbers and rows
abbrev pub Consists : Problem → ℕ → ℕ → ℕ → List ActionRow → List EffectRow → Type 0
Consists p m h first rows effects =
    (p.atoms ≡ m) × (p.hands ≡ h) × (p.first ≡ first) × (p.actions.now ≡ rows) × (p.effects.now ≡ effects)

-- the numbers of a task are in range, and its sets name its own atoms
pub record Fits (t : Task) : Type 0 where
  pub some_atom : 1 ≤ t.atoms
  pub few_atoms : t.atoms ≤ 64
  pub some_hand : 1 ≤ t.hands
  pub few_hands : t.hands ≤ 4
  pub first : Within t.atoms t.first
  pub few_actions : t.count ≤ 64
  pub few_effects : (k : ℕ) → k < t.count → length (t.at k).effects ≤ 8
  pub preconditions : (k : ℕ) → k < t.count → Within t.atoms (t.at k).precondition
  pub effects : (k : ℕ) → k < t.count → (e : EffectRow) → Among e (t.at k).effects → Within t.atoms (names_of e)
