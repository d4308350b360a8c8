use Rattle.std.proofs.Common.{sym, refl, ap, ◌∙◌, subst, arith}
use Rattle.std.proofs.lemmas.Bool.{false≢true}
use Rattle.problem.specs.Firm.{Task}
use Rattle.store.specs.Positions.{Target}
use Rattle.claim.specs.Turns.{NamedBelow}
use Rattle.planner.specs.Works.{held_of}
use Rattle.planner.proofs.Coming.{took_named, took_lowest, came_found, came_missed, came_dropped, came_offered, came_nothing}
use Rattle.planner.proofs.looking.look.Goals as goal

pub returns-then-met_by-clause-nexts : goal.returns-then-met_by-clause-nexts
returns-then-met_by-clause-nexts g c =
    let inv = c.loop-due.invariant in
    let met = rw (ap (λ (t : Task). t.first) c.problem.ensures) at (c.if-met_by.ensures.0 refl) in
    λ a m₀ n k x. came_found _ _ _ _ _ _ inv.level c.if-level-eq0.true met c.in-Some.ensures.took (inv.sought a m₀ n k x)

pub loop-due-preserved-else-met_by : goal.loop-due-preserved-else-met_by
loop-due-preserved-else-met_by g c =
    let inv = c.loop-due.invariant in
    let took = c.in-Some.ensures.took in
    let same = took_lowest _ (g.O.Outlook.view c.args.outlook.now) 0 (held_of c.loop-due.path) _ c.in-Some.due took in
    record {
      shape = c.take_due.ensures.shape;
      depth = c.take_due.ensures.depth ∙ inv.depth;
      frames = c.take_due.ensures.frames ∙ inv.frames;
      level = ap (λ (r : Target). r.level) same ∙ inv.level;
      named = subst (λ (r : Target). NamedBelow (g.O.Outlook.task c.args.outlook.now).atoms r.goal) (sym same) inv.named;
      sought = λ a m₀ n k x. came_missed _ _ _ _ _ _ inv.level c.if-level-eq0.true
          (λ meets. false≢true (c.if-met_by.ensures.1 (rw (ap (λ (t : Task). t.first) c.problem.ensures) meets))) took (inv.sought a m₀ n k x);
    }

pub dropped-requires : goal.dropped-requires
dropped-requires g c =
    let inv = c.loop-due.invariant in
    let made = rw c.unwrap-position.ensures at c.new.ensures in
    let named = took_named _ (g.O.Outlook.view c.args.outlook.now) _ (g.O.Outlook.fits c.args.outlook.now)
    (held_of c.loop-due.path) (held_of c.take_due.new.self) c.in-Some.due _ made.1 inv.level inv.named c.in-Some.ensures.took in
    named.0

pub returns-then-not-dropped-clause-nexts : goal.returns-then-not-dropped-clause-nexts
returns-then-not-dropped-clause-nexts g c =
    let inv = c.loop-due.invariant in
    let made = rw c.unwrap-position.ensures at c.new.ensures in
    λ a m₀ n k x. came_offered _ _ _ _ _ _ _ made.1 inv.level (omega (arith, c.if-level-eq0.false)) (λ d. false≢true (c.if-not-dropped.ensures.1 d))
    c.in-Some.ensures.took (inv.sought a m₀ n k x)

pub loop-due-preserved : goal.loop-due-preserved
loop-due-preserved g c =
    let inv = c.loop-due.invariant in
    let made = rw c.unwrap-position.ensures at c.new.ensures in
    let took = c.in-Some.ensures.took in
    let same = took_lowest _ (g.O.Outlook.view c.args.outlook.now) 0 (held_of c.loop-due.path) _ c.in-Some.due took in
    record {
      shape = c.take_due.ensures.shape;
      depth = c.take_due.ensures.depth ∙ inv.depth;
      frames = c.take_due.ensures.frames ∙ inv.frames;
      level = ap (λ (r : Target). r.level) same ∙ inv.level;
      named = subst (λ (r : Target). NamedBelow (g.O.Outlook.task c.args.outlook.now).atoms r.goal) (sym same) inv.named;
      sought = λ a m₀ n k x. came_dropped _ _ _ _ _ _ _ made.1 inv.level (omega (arith, c.if-level-eq0.false)) (c.if-not-dropped.ensures.0 refl) took (inv.sought a m₀ n k x);
    }

pub returns-clause-nexts : goal.returns-clause-nexts
returns-clause-nexts g c =
    let inv = c.loop-due.invariant in
    λ a m₀ n k x. came_nothing _ _ _ _ _ inv.level c.in_default.ensures.took (inv.sought a m₀ n k x)
