use Rattle.std.proofs.Common.{ℕ, refl, subst}
use Rattle.std.proofs.lemmas.Bool.{false≢true}
use Rattle.problem.specs.Problems.{task_of}
use Rattle.problem.specs.Runs.{Meets}
use Rattle.problem.proofs.Fitting.{problem_fits}
use Rattle.plain.proofs.Exploring.{explored_more, none_reached, solves}
use Rattle.plain.proofs.forward.explore.Goals as goal

pub returns-then-met_by : goal.returns-then-met_by
returns-then-met_by c =
    let at = c.in-Some.ensures in
    solves (task_of c.args.bounds.now.problem.now) c.args.goal c.args.bounds.now.limit c.args.bounds.now.most c.loop-state.tree c.loop-state.next
    c.loop-state.invariant at.0 (subst (λ (s : ℕ). Meets c.args.goal s) at.1 (c.if-met_by.ensures.0 refl)) _ c.in_ok-steps_to.ensures

pub loop-state-preserved : goal.loop-state-preserved
loop-state-preserved c =
    let at = c.in-Some.ensures in
    explored_more (task_of c.args.bounds.now.problem.now) c.args.goal c.args.bounds.now.limit c.args.bounds.now.most c.loop-state.tree c.loop-state.next
    c.loop-state.invariant (problem_fits c.args.bounds.now.problem.now).few_actions c.grow.new.self at.0 c.in_ok-grow.ensures
    (subst (λ (s : ℕ). Meets c.args.goal s → ⊥) at.1 (λ m. false≢true (c.if-met_by.ensures.1 m)))

pub returns : goal.returns
returns c = none_reached (task_of c.args.bounds.now.problem.now) c.args.goal c.args.bounds.now.limit c.args.bounds.now.most c.loop-state.tree c.loop-state.next
    c.loop-state.invariant c.in_default.ensures
