use Rattle.std.proofs.Common.{ℕ, List, [], ◌∙◌, ap, get_or, refl, arith}
use Rattle.graph.proofs.Growing.{chunk}
use Rattle.graph.proofs.graph.Graph.layer.Goals as goal

pub returns : goal.returns
returns c = record {
  facts = refl;
  rows = ap (λ (xs : List (List ℕ)). get_or xs c.args.n []) c.as_chunks.ensures.front ∙ chunk _ c.args.n c.args.self.now.exclusive [] (omega arith);
}
