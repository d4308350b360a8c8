-- How long the text of a problem and its parts are.
use Rattle.std.proofs.Common.{◌≡◌, ℕ, zero, suc, ◌+◌, ◌-◌, ◌*◌, ◌<◌, ◌≤◌, List, [], ◌∷◌, ◌++◌, length, drop, sym, refl, ap, ◌∙◌, subst, add-one, arith}
use Rattle.std.proofs.lemmas.List.{length-append, length-take-le, length-drop}
use Rattle.problem.specs.Actions.{Action}
use Rattle.problem.specs.Rows.{begins, Placed}
use Rattle.problem.specs.Problems.{action_at}
use Rattle.problem.specs.declared.rows.ActionRow.{ActionRow}
use Rattle.problem.specs.declared.rows.EffectRow.{EffectRow}
use Rattle.problem.proofs.Placing.{begins_past, begins_up, begins_le}
use Rattle.text.specs.Texts.{size_is, first_is, action_is, effect_is, end_is, item_text, Contents, action_text, actions_text, open_text, problem_text}
use Rattle.text.specs.Appending.{effects_text}
use Rattle.text.proofs.Numbers.{length_bytes_of}
use Rattle.text.proofs.Items.{body_long}

pub effects_long : (es : List EffectRow) → length (effects_text es) ≡ 25 * length es
effects_long [] = refl
effects_long (e ∷ es) = omega (arith, length-append (item_text (effect_is e)) (effects_text es), body_long (effect_is e), effects_long es)

pub action_long : (a : Action) → length (action_text a) ≡ 9 + 25 * length a.effects
action_long a = omega (arith, length-append (item_text (action_is a.precondition)) (effects_text a.effects), length_bytes_of 8 a.precondition, effects_long a.effects)

pub actions_step : (at : ℕ → Action) (k : ℕ) → actions_text at (k + 1) ≡ actions_text at k ++ action_text (at k)
unfolding actions_text
actions_step at k = ap (actions_text at) (add-one k)

pub actions_up : (at : ℕ → Action) (d k : ℕ) → length (actions_text at k) ≤ length (actions_text at (k + d))
actions_up at zero k = let e : k + 0 ≡ k = omega arith in subst (λ (x : ℕ). length (actions_text at k) ≤ length (actions_text at x)) (sym e) (omega arith)
actions_up at (suc d) k =
    let e : k + 1 + d ≡ k + suc d = omega arith in
    let s = ap length (actions_step at k) ∙ length-append (actions_text at k) (action_text (at k)) in
    subst (λ (x : ℕ). length (actions_text at k) ≤ length (actions_text at x)) e (omega (arith, actions_up at d (k + 1)))

module _ (rows : List ActionRow) (effects : List EffectRow) (placed : Placed rows (length effects)) where
  -- how many effects an action has
  pub effects_of_long : (k : ℕ) → length (action_at rows effects k).effects ≡ begins rows (length effects) (k + 1) - begins rows (length effects) k
  effects_of_long k =
      let n = length effects in
      length-take-le (begins rows n (k + 1) - begins rows n k) (drop (begins rows n k) effects)
      (omega (arith, length-drop (begins rows n k) effects, begins_le rows n placed (k + 1)))

  actions_long : (k : ℕ) → length (actions_text (action_at rows effects) k) ≡ 9 * k + 25 * begins rows (length effects) k
  unfolding actions_text
  actions_long zero = omega (arith, placed.0)
  actions_long (suc k) =
      let n = length effects in
      let e = ap (begins rows n) (add-one k) in
      omega (arith, length-append (actions_text (action_at rows effects) k) (action_text (action_at rows effects k)), action_long (action_at rows effects k), actions_long k, effects_of_long k, begins_up rows n placed k)

  pub actions_all_long : length (actions_text (action_at rows effects) (length rows)) ≡ 9 * length rows + 25 * length effects
  actions_all_long = omega (arith, actions_long (length rows), begins_past rows (length effects) (length rows) (omega arith))

pub problem_long : (c : Contents) → Placed c.rows (length c.effects) → length (problem_text c) ≡ 13 + 9 * length c.rows + 25 * length c.effects
unfolding open_text
problem_long c p =
    let s = item_text (size_is c.atoms c.hands) in
    let f = item_text (first_is c.first) in
    let a = actions_text (action_at c.rows c.effects) (length c.rows) in
    omega (arith, length-append (s ++ (f ++ a)) (item_text end_is), length-append s (f ++ a), length-append f a, length_bytes_of 8 c.first, actions_all_long c.rows c.effects p)

-- the actions up to the next, and up to the last
pub actions_room : (at : ℕ → Action) (k n : ℕ) → k < n → length (actions_text at k) + length (action_text (at k)) ≤ length (actions_text at n)
actions_room at k n h =
    let e : k + 1 + (n - (k + 1)) ≡ n = omega arith in
    let s = ap length (actions_step at k) ∙ length-append (actions_text at k) (action_text (at k)) in
    subst (λ (x : ℕ). length (actions_text at k) + length (action_text (at k)) ≤ length (actions_text at x)) e (omega (arith, actions_up at (n - (k + 1)) (k + 1)))
