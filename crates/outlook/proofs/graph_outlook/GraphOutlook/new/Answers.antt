use Rattle.std.proofs.Common.{refl}
use Rattle.problem.specs.Problems.{task_of}
use Rattle.problem.proofs.Fitting.{problem_fits}
use Rattle.graph.proofs.Answering.{closing_rule}
use Rattle.outlook.specs.GraphLaws.{of_graph}
use Rattle.outlook.proofs.graph_outlook.GraphOutlook.new.Goals as goal

pub invariant_of-result : goal.invariant_of-result
invariant_of-result c =
    let of = c.build-graph.ensures in
    record {
      sized = of.atoms;
      built = ∣ of ∣₁;
      closes = ∣ closing_rule (task_of c.args.problem) c.build-graph.result of c.closing-closing.result c.closing-closing.ensures ∣₁;
    }

pub returns : goal.returns
returns c =
    let of = c.build-graph.ensures in
    record {
      task = refl;
      view = of_graph (task_of c.args.problem) (problem_fits c.args.problem) c.build-graph.result of c.closing-closing.result
          (closing_rule (task_of c.args.problem) c.build-graph.result of c.closing-closing.result c.closing-closing.ensures);
    }
