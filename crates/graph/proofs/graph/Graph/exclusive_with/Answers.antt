use Rattle.std.proofs.Common.{ℕ, List, ◌∙◌, ap, slice_index_or, arith}
use Rattle.std.proofs.lemmas.Bool.{ltb-true}
use Rattle.graph.proofs.Growing.{rows_read}
use Rattle.graph.proofs.graph.Graph.exclusive_with.Goals as goal

pub returns : goal.returns
returns c =
    let asked = c.in_ok-check_question.ensures in
    let known = ltb-true _ _ asked.1 in (
      asked.0,
      known,
      ap (λ (xs : List ℕ). slice_index_or xs c.args.atom 0) c.layer.ensures.rows
          ∙ rows_read c.args.self.now c.args.level c.args.atom (omega (arith, known, c.args.self.now.few)),
    )
