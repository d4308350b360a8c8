use Rattle.std.proofs.Common.{◌≡◌, ℕ, ◌∙◌, sym, subst}
use Rattle.sets.specs.Sets.{Marks}
use Rattle.problem.specs.Firm.{Task}
use Rattle.problem.specs.Problems.{task_of}
use Rattle.problem.specs.declared.problem.Problem.{Problem}
use Rattle.graph.specs.Levels.{Supported, Excludes, Same}
use Rattle.graph.specs.Turning.{row}
use Rattle.graph.specs.Tables.{level_of}
use Rattle.graph.specs.Growths.{task_in, GrowthOf}
use Rattle.graph.specs.Graphs.{level_in}
use Rattle.graph.specs.declared.graph.Graph.{Graph}
use Rattle.graph.specs.declared.layer.Layer.{Layer}
use Rattle.graph.specs.declared.growth.Growth.{Growth}
use Rattle.problem.proofs.Fitting.{problem_fits}
use Rattle.graph.proofs.Growing.{layer_same, facts_over, row_over, grown}
use Rattle.graph.proofs.graph.Graph.build.Goals as goal

pub loop-n-preserved : goal.loop-n-preserved
loop-n-preserved c =
    let t : Task = task_of c.args.problem.now in
    let n : ℕ = c.loop-n.n in
    let g : Graph = c.loop-n.graph in
    let s : Growth = c.new-growth.result in
    let put = c.put_level.ensures in
    let of : GrowthOf (task_in s) s = c.new-growth.ensures.growth in
    let is : s.links.now.problem.now ≡ c.args.problem.now = c.new-growth.ensures.problem ∙ c.links_of-links.ensures in
    let same : Same (level_of s.layer) (level_in g n) =
    subst (λ (y : Layer). Same (level_of y) (level_in g n)) (sym c.new-growth.ensures.layer) (layer_same c.layer.result g n c.layer.ensures.facts c.layer.ensures.rows) in (
      put.atoms ∙ c.loop-n.invariant.0,
      grown t (problem_fits c.args.problem.now) n g c.put_level.new.self c.loop-n.invariant.1
          (subst (λ (x : ℕ). Marks x (Supported t (level_in g n))) (sym put.facts) (facts_over t _ _ same _ (subst (λ (p : Problem). Marks s.facts (Supported (task_of p) (level_of s.layer))) is of.facts)))
          (λ f lt. subst (λ (x : ℕ). Marks x (Excludes t (level_in g n) f)) (sym (put.rows f lt)) (row_over t _ _ same _ f (subst (λ (p : Problem). Marks (row c.exclusions-rows.result f) (Excludes (task_of p) (level_of s.layer) f)) is (c.exclusions-rows.ensures of f lt))))
          put.other_facts put.other_rows,
    )
