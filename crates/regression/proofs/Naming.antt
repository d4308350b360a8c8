-- What an action gives, deletes and must find, it names.
use Rattle.std.proofs.Common.{ℕ, inl, inr}
use Rattle.sets.specs.Sets.{Has}
use Rattle.problem.specs.Actions.{Action, Among, adds, cuts}
use Rattle.problem.specs.declared.rows.EffectRow.{EffectRow}
use Rattle.problem.proofs.Effects.{gather_from}
use Rattle.regression.specs.Spans.{reads, may_give}
use Rattle.regression.specs.Matters.{Changes, ActionNames}
use Rattle.sets.proofs.Parts.{or_either}
use Rattle.regression.proofs.Masks.{minus_from}

module _ (at : ℕ → Action) where
  pub adder : (s i k : ℕ) → Has (adds s (at i).effects) k → (e : EffectRow) × Among e (at i).effects × Changes e k
  adder s i k h = let r = gather_from (λ e. e.add) s k (at i).effects h in (r.0, r.1, inl r.3)

  pub deleter : (s i k : ℕ) → Has (cuts at s i) k → (e : EffectRow) × Among e (at i).effects × Changes e k
  deleter s i k h = let r = gather_from (λ e. e.delete) s k (at i).effects h in (r.0, r.1, inr r.3)

  pub giver : (lo hi i k : ℕ) → Has (may_give at lo hi i) k → (e : EffectRow) × Among e (at i).effects × Changes e k
  giver lo hi i k h = adder hi i k (minus_from _ _ k h)

  pub names_changed : (i k : ℕ) → ((e : EffectRow) × Among e (at i).effects × Changes e k) → ActionNames (at i) k
  names_changed i k c = inr (c.0, c.1, inr c.2)

  pub names_read : (s i k : ℕ) → Has (reads at s i) k → ActionNames (at i) k
  names_read s i k h = elim (or_either _ _ k h) [
    | inl x ↦ inl x
    | inr x ↦ (let r = gather_from (λ e. e.condition) s k (at i).effects x in inr (r.0, r.1, inl r.3))
  ]
