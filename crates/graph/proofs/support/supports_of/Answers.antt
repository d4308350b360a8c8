use Rattle.std.proofs.Common.{arith, rules}
use native.Mathlib.Decide.{dec_le}
use Rattle.std.proofs.lemmas.List.{get_or_past}
use Rattle.sets.specs.Sets.{Marks}
use Rattle.sets.proofs.Members.{not_in_none}
use Rattle.problem.specs.Problems.{task_of}
use Rattle.graph.specs.Levels.{action, Supports}
use Rattle.graph.specs.Tables.{level_of}
use Rattle.graph.proofs.RowSets.{made_at}
use Rattle.graph.proofs.support.supports_of.Goals as goal

pub returns : goal.returns
returns c k = elim (dec_le 64 k) [
  | yes past ↦ record {
    only = λ f h. absurd (not_in_none _ f (get_or_past c.from_fn.result k 0 (omega (arith, c.from_fn.ensures.items.long))) h);
    all = λ f s. absurd (let z : ⊥ = omega (arith, s.0, c.args.problem.now.sized.2) in z);
  }
  | no below ↦ made_at _ _ 64 (λ i x. Marks x (Supports (task_of c.args.problem.now) (level_of c.args.layer.now) (action i))) (λ i y q lt c. search rules) c.from_fn.result c.from_fn.ensures.items k 0 (omega arith)
]
