-- When a step is firm, said of its actions two by two, by sets alone.
use Rattle.std.specs.Prelude.{ℕ, T, ◌≢◌, ◌⊎◌}
use Rattle.sets.specs.Sets.{Has, Apart}
use Rattle.problem.specs.Actions.{Action, Among, fires, cuts, gives, MayRun}
use Rattle.problem.specs.declared.rows.EffectRow.{EffectRow}

-- another action of the step than i gives k, and deletes nothing of the condition
abbrev pub Gets : (ℕ → Action) → ℕ → ℕ → ℕ → ℕ → ℕ → Type 0
Gets at s step i condition k = (j : ℕ) × Has step j × (j ≢ i) × Apart condition (cuts at s j) × Has (gives at s j) k

-- the five conditions: each action may run in s; no action deletes what another gives, what another needs, or a condition under
-- which another fires; and no effect that rests in s comes to fire by what the others give
pub record Calm (at : ℕ → Action) (s step : ℕ) : Type 0 where
  pub ready : (i : ℕ) → Has step i → MayRun (at i) s
  pub clash : (i j : ℕ) → Has step i → Has step j → i ≢ j → Apart (gives at s i) (cuts at s j)
  pub needs : (i j : ℕ) → Has step i → Has step j → i ≢ j → Apart (at i).precondition (cuts at s j)
  pub holds : (i j : ℕ) → Has step i → Has step j → i ≢ j → (e : EffectRow) → Among e (at i).effects → T (fires s e) → Apart e.condition (cuts at s j)
  pub rests : (i : ℕ) → Has step i → (e : EffectRow) → Among e (at i).effects → (T (fires s e) → ⊥)
      → ((k : ℕ) → Has e.condition k → Has s k ⊎ Gets at s step i e.condition k) → ⊥

-- end has what s has and what an action of the step gives, but for what an action of the step deletes
pub record Ends (at : ℕ → Action) (s step end : ℕ) : Type 0 where
  pub source : (k : ℕ) → Has end k → Has s k ⊎ ((j : ℕ) × Has step j × Has (gives at s j) k)
  pub gone : (j : ℕ) → Has step j → (k : ℕ) → Has (cuts at s j) k → Has end k → ⊥
  pub stays : (k : ℕ) → Has s k → ((j : ℕ) → Has step j → Has (cuts at s j) k → ⊥) → Has end k
  pub given : (j : ℕ) → Has step j → (k : ℕ) → Has (gives at s j) k → Has end k
