use Rattle.std.proofs.Common.{suc, rules}
use Rattle.std.proofs.lemmas.Iterator.{first_from_Range}
use Rattle.graph.specs.Levels.{Same}
use Rattle.graph.specs.Graphs.{level_in}
use Rattle.graph.proofs.Answering.{closing_found}
use Rattle.graph.proofs.graph.Graph.closing.Goals as goal

pub returns : goal.returns
returns c =
    let at = level_in c.args.self.now in
    closing_found at c.find.result
    (first_from_Range _ _ _ _ (λ n. Same (at n) (at (suc n))) (λ n. Same (at n) (at (suc n)) → ⊥) c.find.ensures.ran
    (λ n q c. search rules) (λ n q c. search rules))
