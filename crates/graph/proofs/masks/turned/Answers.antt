use Rattle.std.proofs.Common.{ℕ, sym, ap, ◌∙◌, arith, rules}
use native.Mathlib.Decide.{dec_le}
use Rattle.std.proofs.lemmas.List.{get_or_past}
use Rattle.sets.specs.Sets.{bit, Has, Marks}
use Rattle.sets.proofs.Bits.{bit_none, bit_past}
use Rattle.graph.specs.Turning.{row}
use Rattle.graph.proofs.RowSets.{made_at, turned_row}
use Rattle.graph.proofs.masks.turned.Goals as goal

pub returns : goal.returns
returns c f k = elim (dec_le 64 f) [
  | yes past ↦ ap (λ (x : ℕ). bit x k) (get_or_past c.from_fn.result f 0 (omega (arith, c.from_fn.ensures.items.long))) ∙ bit_none k ∙ sym (bit_past 64 (row c.args.rows.now k) f (c.fits-rows k) past)
  | no below ↦ turned_row c.args.rows.now _ f (made_at _ _ 64 (λ i x. Marks x (λ j. Has (row c.args.rows.now j) i)) (λ i y q lt c. search rules) c.from_fn.result c.from_fn.ensures.items f 0 (omega arith)) k
]
