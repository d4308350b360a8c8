use Rattle.graph.specs.Tables.{nodes_at}
use Rattle.graph.proofs.RowSets.{Shared}
use Rattle.graph.proofs.growth.common_of.Given as goal

abbrev pub invariant-loop-k : goal.invariant-loop-k
invariant-loop-k l = record {
  actions : Shared (λ k. (nodes_at l.rows k).actions) l.of l.fn.start.actions l.k-iterator.left l.common.actions;
  noops : Shared (λ k. (nodes_at l.rows k).noops) l.of l.fn.start.noops l.k-iterator.left l.common.noops;
}
