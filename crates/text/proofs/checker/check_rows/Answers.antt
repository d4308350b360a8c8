use Rattle.std.proofs.Common.{sym, subst, arith}
use Rattle.std.proofs.lemmas.Result.{err_from_is_err_and}
use Rattle.text.specs.Texts.{action_is, effect_is}
use Rattle.text.specs.declared.checker.Tally.{Tally}
use Rattle.text.proofs.Decoding.{bytes_under, decoded, action_found, effect_found}
use Rattle.text.proofs.Walking.{Walk, walk_start, walk_action, walk_effect, walk_misfit, walk_end}
use Rattle.text.proofs.checker.check_rows.Goals as goal

pub loop-found-init : goal.loop-found-init
loop-found-init c = walk_start c.args.text.now c.args.size.atoms c.args.size.hands c.args.first

pub returns-in_err-tally-in-Action : goal.returns-in_err-tally-in-Action
returns-in_err-tally-in-Action c =
    let r = c.in_ok-found.ensures in
    let a = action_found c.args.text.now c.loop-found.at c.in_ok-found.found _ c.type_inv.text r.0 r.1 c.set_at.result c.in-Action.is c.set_at.ensures in
    let p = err_from_is_err_and c.from_residual-in_err-tally-in-Action.result c.from_residual-in_err-tally-in-Action.ensures.1 in
    let e = c.in_err-tally-in-Action.ensures in
    rw (p.1, p.2, e.1) (walk_misfit c.args.text.now _ _ _ c.loop-found.at c.loop-found.tally (action_is c.set_at.result) c.loop-found.invariant a.0
    (rw c.in-Action.is at r.2) e.0 e.2)

pub returns-in_err-tally-in-Effect : goal.returns-in_err-tally-in-Effect
returns-in_err-tally-in-Effect c =
    let r = c.in_ok-found.ensures in
    let a = effect_found c.args.text.now c.loop-found.at c.in_ok-found.found _ c.type_inv.text r.0 r.1 c.effect_in.result c.in-Effect.is c.effect_in.ensures in
    let p = err_from_is_err_and c.from_residual-in_err-tally-in-Effect.result c.from_residual-in_err-tally-in-Effect.ensures.1 in
    let e = c.in_err-tally-in-Effect.ensures in
    rw (p.1, p.2, e.1) (walk_misfit c.args.text.now _ _ _ c.loop-found.at c.loop-found.tally (effect_is c.effect_in.result) c.loop-found.invariant a.0
    (rw c.in-Effect.is at r.2) e.0 e.2)

pub returns-in-End : goal.returns-in-End
returns-in-End c =
    let r = c.in_ok-found.ensures in
    let f = c.in_ok-found.found in
    let w = c.loop-found.invariant in
    let t = decoded c.args.text.now c.loop-found.at f _ (bytes_under _ c.type_inv.text) r.0 r.1 c.in-End.is (omega arith) in
    (w.rows, w.effects, walk_end c.args.text.now _ _ _ c.loop-found.at f.next c.loop-found.tally w t.reading (rw c.in-End.is at r.2) t.after)

pub loop-found-preserved-in_ok-tally-in-Action : goal.loop-found-preserved-in_ok-tally-in-Action
loop-found-preserved-in_ok-tally-in-Action c =
    let r = c.in_ok-found.ensures in
    let a = action_found c.args.text.now c.loop-found.at c.in_ok-found.found _ c.type_inv.text r.0 r.1 c.set_at.result c.in-Action.is c.set_at.ensures in
    let e = c.in_ok-tally-in-Action.ensures in
    subst (λ (x : Tally). Walk c.args.text.now c.args.size.atoms c.args.size.hands c.args.first c.in_ok-found.found.next x) (sym e.0)
    (walk_action c.args.text.now _ _ _ c.loop-found.at _ c.loop-found.tally c.set_at.result c.loop-found.invariant (rw c.in-Action.is at r.2) a.0 e.1 e.2 a.1)

pub loop-found-preserved : goal.loop-found-preserved
loop-found-preserved c =
    let r = c.in_ok-found.ensures in
    let a = effect_found c.args.text.now c.loop-found.at c.in_ok-found.found _ c.type_inv.text r.0 r.1 c.effect_in.result c.in-Effect.is c.effect_in.ensures in
    let e = c.in_ok-tally-in-Effect.ensures in
    subst (λ (x : Tally). Walk c.args.text.now c.args.size.atoms c.args.size.hands c.args.first c.in_ok-found.found.next x) (sym e.0)
    (walk_effect c.args.text.now _ _ _ c.loop-found.at _ c.loop-found.tally c.effect_in.result c.loop-found.invariant (rw c.in-Effect.is at r.2) a.0 e.1 e.2 a.1)
