use Rattle.std.proofs.Common.{refl, ap, arith}
use Rattle.std.proofs.lemmas.Bool.{false≢true}
use Rattle.problem.specs.Firm.{Task}
use Rattle.claim.specs.declared.outcome.Outcome.TheVariants.{NotWithin}
use Rattle.planner.proofs.Moves.{seek_none, all_failed}
use Rattle.planner.proofs.Rounds.{nothing_held, ran_first, ran_none}
use Rattle.planner.proofs.search.search.Goals as goal

pub returns-then-met_by : goal.returns-then-met_by
returns-then-met_by g c =
    rw c.with_plan.ensures (ran_first c.args.list.now (rw (ap (λ (t : Task). t.first) c.problem.ensures) at (c.if-met_by.ensures.0 refl)))

pub loop-failed-init : goal.loop-failed-init
loop-failed-init g c = record {
  unwritten = refl;
  none = c.new-path.ensures.depth;
  shape = c.new-path.ensures.shape (g.O.Outlook.task c.args.outlook.now);
  sought = rw c.new-path.ensures.none seek_none;
}

pub returns-in-Break : goal.returns-in-Break
returns-in-Break g c =
    let l = c.loop-failed in
    rw l.invariant.unwritten at (c.in-Break.ensures.progress (g.S.Store.meaning c.args.store.now) l.invariant.sought)

pub returns : goal.returns
returns g c =
    let l = c.loop-failed in
    let none = nothing_held l.path l.invariant.none in
    rw c.without_plan.ensures (ran_none NotWithin l.opened 0 c.args.list.now l.list l.invariant.unwritten
    (all_failed (rw none at l.invariant.sought) (omega (arith, c.loop-failed-test.false, l.auto.failed-end))
    (λ x. false≢true (c.if-met_by.ensures.1 (rw (ap (λ (t : Task). t.first) c.problem.ensures) x)))))
