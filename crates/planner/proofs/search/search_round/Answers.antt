use Rattle.std.proofs.Common.{ℕ, ◌+◌, ◌<◌, length, sym, refl, ap, subst, arith, rules}
use Rattle.std.proofs.lemmas.Bool.{false≢true}
use Rattle.claim.specs.Turns.{Passes, plan_checks}
use Rattle.claim.specs.declared.outcome.Outcome.TheVariants.{Spent}
use Rattle.planner.proofs.Lowest.{under_budget}
use Rattle.planner.proofs.Rounds.{nothing_held, ran_none}
use Rattle.planner.proofs.Moves.{goal_dropped, goal_opened, goal_spent}
use Rattle.planner.proofs.search.search_round.Goals as goal

pub returns-then-dropped-clause-progress : goal.returns-then-dropped-clause-progress
returns-then-dropped-clause-progress g c =
    let none = nothing_held c.args.path.now c.requires.none in
    let made = rw c.unwrap-position.ensures at c.new.ensures in
    λ m₀ x. rw none (goal_dropped {m = g.S.Store.meaning c.args.store.now} (rw none at x) _ made.1 c.requires.short c.requires.missed (c.if-dropped.ensures.0 refl))

pub returns-then-opened-question-clause-progress : goal.returns-then-opened-question-clause-progress
returns-then-opened-question-clause-progress g c =
    let none = nothing_held c.args.path.now c.requires.none in
    let made = rw c.unwrap-position.ensures at c.new.ensures in
    λ m₀ x. rw c.without_plan.ensures (ran_none {m' = g.S.Store.meaning c.args.store.now} Spent c.args.opened 0 c.args.list.now c.args.list.now refl
    (goal_spent (rw none at x) _ made.1 c.requires.short c.requires.missed (λ d. false≢true (c.if-dropped.ensures.1 d)) c.if-opened-question.true))

pub overflow_add-opened : goal.overflow_add-opened
overflow_add-opened g c =
    let lt : c.args.opened < c.args.question.budget = omega (arith, under_budget c.requires.sought, c.if-opened-question.false) in
    search rules

pub loop-path-init : goal.loop-path-init
loop-path-init g c =
    let none = nothing_held c.args.path.now c.requires.none in
    let made = rw c.unwrap-position.ensures at c.new.ensures in
    let entered = c.open.ensures.entered in
    let lt : c.args.opened < c.args.question.budget = omega (arith, under_budget c.requires.sought, c.if-opened-question.false) in
    record {
      unwritten = refl;
      shape = c.open.ensures.shape;
      sought = λ m₀ x. rw (entered.is, none) (
          goal_opened (rw none at x) _ made.1 c.requires.short c.requires.missed (λ d. false≢true (c.if-dropped.ensures.1 d)) entered.work lt entered.begun);
    }

pub work-requires-clause-sought : goal.work-requires-clause-sought
work-requires-clause-sought g c =
    let l = c.loop-path in (
      c.args.failed + 1,
      record {
        start = c.requires.sought.start;
        checks = subst (λ (room : ℕ). Passes (plan_checks (g.O.Outlook.task c.args.outlook.now) c.requires.sought.start c.args.question room))
            (ap length (sym l.invariant.unwritten)) c.requires.sought.checks;
        sought = l.invariant.sought c.requires.sought.start c.requires.sought.sought;
      },
    )
