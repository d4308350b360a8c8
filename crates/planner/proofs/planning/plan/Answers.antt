use Rattle.std.proofs.Common.{◌-◌, refl, arith}
use Rattle.std.proofs.lemmas.Result.{err_from_is_err_and}
use Rattle.std.proofs.lemmas.Bool.{false≢true}
use Rattle.claim.proofs.Turning.{plan_goes_on}
use Rattle.planner.proofs.Answered.{kept_more, passed_more, declined, shut_answered, search_answered}
use Rattle.planner.proofs.planning.plan.Goals as goal

pub returns-in_err-check : goal.returns-in_err-check
returns-in_err-check g c =
    let o = c.args.outlook.now in
    let p = err_from_is_err_and c.from_residual.result c.from_residual.ensures.1 in
    rw (p.1, p.2) (
    let x = declined (g.O.Outlook.task o) (g.O.Outlook.view o) c.args.question
    c.args.list.now (g.S.Store.meaning c.args.store.now) _ c.in_err-check.ensures in
    record { promise = x; claim = plan_goes_on _ (g.O.Outlook.fits o) _ (g.O.Outlook.lawful o) _ _ _ _ _ _ x })

pub returns-then-shut : goal.returns-then-shut
returns-then-shut g c =
    rw (c.report.ensures, c.without_plan.ensures) (
    let o = c.args.outlook.now in
    let x = shut_answered (g.O.Outlook.task o) (g.O.Outlook.view o) c.args.question
    c.args.list.now (g.S.Store.meaning c.args.store.now) c.in_ok-check.ensures (c.if-shut.ensures.0 refl) in
    record { promise = x; claim = plan_goes_on _ (g.O.Outlook.fits o) _ (g.O.Outlook.lawful o) _ _ _ _ _ _ x })

pub overflow_sub-kept : goal.overflow_sub-kept
overflow_sub-kept g c = omega (arith, kept_more c.search-ending.result _ _ c.search-ending.ensures, c.kept-kept.ensures, c.kept.ensures)

pub overflow_sub-passed : goal.overflow_sub-passed
overflow_sub-passed g c = omega (arith, passed_more c.search-ending.result _ _ c.search-ending.ensures, c.passed-passed.ensures, c.passed.ensures)

pub returns : goal.returns
returns g c =
    rw c.report-2.ensures (
    let o = c.args.outlook.now in
    let x = search_answered (g.O.Outlook.task o) (g.O.Outlook.view o) c.args.question
    c.args.list.now (g.S.Store.meaning c.args.store.now) c.search-ending.result c.search-ending.new.list
    (g.S.Store.meaning c.search-ending.new.store) (c.kept.result - c.kept-kept.result) (c.passed.result - c.passed-passed.result) c.in_ok-check.ensures (λ z. false≢true (c.if-shut.ensures.1 z))
    (omega (arith, c.kept-kept.ensures, c.kept.ensures)) (omega (arith, c.passed-passed.ensures, c.passed.ensures)) c.search-ending.ensures in
    record { promise = x; claim = plan_goes_on _ (g.O.Outlook.fits o) _ (g.O.Outlook.lawful o) _ _ _ _ _ _ x })
