use Rattle.problem.specs.Firm.{Task}
use Rattle.graph.specs.Growths.{task_in}
use Rattle.graph.specs.Levels.{action, noop}
use Rattle.graph.specs.Turning.{row}
use Rattle.graph.specs.Tables.{level_of, nodes_at}
use Rattle.graph.proofs.Excluding.{beaten_both}
use Rattle.graph.proofs.growth.Growth.beaten.Goals as goal

pub returns : goal.returns
returns c s =
    let t : Task = task_in c.args.self.now in
    let stopped = c.stopped_by_noop-stopped.ensures in
    let clashes = c.args.self.now.clashes in
    record {
      actions = λ j lt. beaten_both t (level_of c.args.self.now.layer) c.args.atom (row c.args.self.now.supports) (λ k. (nodes_at clashes k).actions)
          c.column-supporters.result s.supports c.column-supporters.ensures
          (action j) j (λ k ltk. (s.clashes k ltk).actions j lt) _ _ (stopped.actions j lt) c.common_of.ensures.actions;
      noops = λ g lt. beaten_both t (level_of c.args.self.now.layer) c.args.atom (row c.args.self.now.supports) (λ k. (nodes_at clashes k).noops)
          c.column-supporters.result s.supports c.column-supporters.ensures
          (noop g) g (λ k ltk. (s.clashes k ltk).noops g lt) _ _ (stopped.noops g lt) c.common_of.ensures.noops;
    }
