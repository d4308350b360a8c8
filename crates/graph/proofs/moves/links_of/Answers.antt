use Rattle.std.proofs.Common.{◌≡◌, subst, arith, rules}
use Rattle.problem.specs.Problems.{task_of}
use Rattle.graph.specs.Turning.{Turned}
use Rattle.graph.specs.Tables.{move_is}
use Rattle.graph.specs.declared.table.Move.{Move}
use Rattle.graph.proofs.RowSets.{made_at, mapped}
use Rattle.graph.proofs.moves.links_of.Goals as goal

abbrev none : Move
none = record { needs = 0; uses = 0; deletes = 0 }

pub invariant_of-result : goal.invariant_of-result
invariant_of-result c =
    let moves = c.from_fn-moves.result in
    let long = c.from_fn-moves.ensures.items.long in
    record {
      moved = λ k lt. made_at _ _ 64 (λ i x. x ≡ move_is (task_of c.args.problem.now) i) (λ i y q below c. search rules) moves c.from_fn-moves.ensures.items k none (omega (arith, lt, c.args.problem.now.sized.2));
      needed = subst (Turned c.turned.result) (mapped _ _ (λ m. m.needs) (λ m y q c. search rules) moves c.map.result 64 none long c.map.ensures.items) c.turned.ensures;
      used = subst (Turned c.turned-2.result) (mapped _ _ (λ m. m.uses) (λ m y q c. search rules) moves c.map-2.result 64 none long c.map-2.ensures.items) c.turned-2.ensures;
      deleted = subst (Turned c.turned-3.result) (mapped _ _ (λ m. m.deletes) (λ m y q c. search rules) moves c.map-3.result 64 none long c.map-3.ensures.items) c.turned-3.ensures;
    }
