-- Where the effects of each action lie, in rows that are in place.
use Rattle.std.proofs.Common.{◌≡◌, ℕ, zero, suc, ◌+◌, ◌-◌, ◌≤◌, List, [], length, take, drop, refl, ap, arith}
use native.Mathlib.Decide.{dec_le}
use Rattle.std.proofs.lemmas.Bool.{le-ltb}
use Rattle.std.proofs.lemmas.List.{get_or_past}
use Rattle.problem.specs.Rows.{row_at, begins, Placed}
use Rattle.problem.specs.Problems.{action_at}
use Rattle.problem.specs.declared.rows.ActionRow.{ActionRow}
use Rattle.problem.specs.declared.rows.EffectRow.{EffectRow}

-- past the last action
pub begins_past : (rows : List ActionRow) (n k : ℕ) → length rows ≤ k → begins rows n k ≡ n
begins_past rows n k h = rw (le-ltb k (length rows) h) refl

pub row_past : (rows : List ActionRow) (k : ℕ) → length rows ≤ k → (row_at rows k).precondition ≡ 0
row_past rows k h = ap (λ (r : ActionRow). r.precondition) (get_or_past rows k _ h)

pub no_effects_past : (rows : List ActionRow) (effects : List EffectRow) (k : ℕ) → length rows ≤ k → (action_at rows effects k).effects ≡ []
no_effects_past rows effects k h =
    let n : ℕ = length effects in
    let e : begins rows n (k + 1) - begins rows n k ≡ 0 = omega (arith, begins_past rows n k h, begins_past rows n (k + 1) (omega arith)) in
    ap (λ (x : ℕ). take x (drop (begins rows n k) effects)) e

module _ (rows : List ActionRow) (n : ℕ) (placed : Placed rows n) where
  pub begins_up : (k : ℕ) → begins rows n k ≤ begins rows n (k + 1)
  begins_up k = elim (dec_le (length rows) k) [
    | yes past ↦ omega (arith, begins_past rows n k past, begins_past rows n (k + 1) (omega arith))
    | no below ↦ placed.1 k (omega arith)
  ]

  begins_below : (d k : ℕ) → length rows ≤ k + d → begins rows n k ≤ n
  begins_below zero k h = omega (arith, begins_past rows n k (omega arith))
  begins_below (suc d) k h = omega (arith, begins_up k, begins_below d (k + 1) (omega arith))

  pub begins_le : (k : ℕ) → begins rows n k ≤ n
  begins_le k = begins_below (length rows) k (omega arith)
