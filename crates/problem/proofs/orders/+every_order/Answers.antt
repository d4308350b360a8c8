use Rattle.std.proofs.Common.{refl, ap, arith}
use lib.Count.{ones}
use Rattle.std.proofs.lemmas.Bool.{eqb-true, eq-eqb, false≢true}
use Rattle.problem.specs.Problems.{task_of}
use Rattle.problem.proofs.Every.{none_sound, none_complete, each_all, no_turn, no_rest, each_more, pick_in, fewer, still_in}
use Rattle.problem.proofs.orders.+every_order.Goals as goal

pub returns-then-remaining-eq0 : goal.returns-then-remaining-eq0
returns-then-remaining-eq0 t c = (
  λ e. none_sound _ _ _ _ _ c.if-remaining-eq0.true (eqb-true _ _ e),
  λ f. eq-eqb _ _ (none_complete _ _ _ _ _ c.if-remaining-eq0.true f),
)

pub returns-in_default : goal.returns-in_default
returns-in_default t c = (
  λ z. absurd (false≢true z),
  λ f. absurd (no_turn _ _ _ _ _ _ (omega arith) (pick_in _ _ _ _ c.loop-action.invariant.0 c.in-Some.ensures.steps) c.in_default.ensures f),
)

pub every_order-requires : goal.every_order-requires
every_order-requires t c = omega (arith, c.decreases, ap ones c.without_one-rest.ensures, fewer _ _ _ _ c.loop-action.invariant.0 c.in-Some.ensures.steps)

pub returns-then-not-every_order : goal.returns-then-not-every_order
returns-then-not-every_order t c = (
  λ z. absurd (false≢true z),
  λ f. absurd (
      no_rest (task_of c.args.problem.now).at c.args.start c.args.state c.args.remaining c.args.end
      _ _ _ c.in-Some-turn.ensures.1 c.without_one-rest.ensures
      (pick_in _ _ _ _ c.loop-action.invariant.0 c.in-Some.ensures.steps)
      (λ g. false≢true (c.if-not-every_order.ensures.1 g)) f),
)

pub loop-action-preserved : goal.loop-action-preserved
loop-action-preserved t c = (
  still_in _ _ _ _ c.loop-action.invariant.0 c.in-Some.ensures.steps,
  each_more (task_of c.args.problem.now).at c.args.start c.args.state c.args.remaining c.args.end
      _ _ _ _ _ c.in-Some.ensures.steps
      c.in-Some-turn.ensures.0 c.in-Some-turn.ensures.1 c.without_one-rest.ensures
      (c.if-not-every_order.ensures.0 refl)
      c.loop-action.invariant.1,
)

pub returns : goal.returns
returns t c = (
  λ _. each_all _ _ _ _ _ c.loop-action.action-iterator.left c.in-None.ensures.steps.0 c.if-remaining-eq0.false c.loop-action.invariant.1,
  λ _. refl,
)
