use Rattle.std.proofs.Common.{Bool, ◌≡◌, ◌&&◌, sym, subst, refl, arith}
use Rattle.std.specs.Str.{bytes_eq}
use Rattle.std.proofs.lemmas.Bool.{eq-eqb, ne_eqb}
use Rattle.graph.proofs.Answering.{layers_same}
use Rattle.graph.proofs.graph.Graph.same_as_next.Goals as goal

pub returns-then-here-next : goal.returns-then-here-next
returns-then-here-next c =
    let here = c.layer-here in
    let next = c.layer-next in
    layers_same c.args.self.now c.args.n here.result next.result here.ensures.facts here.ensures.rows next.ensures.facts next.ensures.rows
    (omega arith) c.eq.result
    (subst (λ (b : Bool). c.eq.result ≡ (b && bytes_eq here.result.exclusive.now next.result.exclusive.now)) (sym (eq-eqb _ _ c.if-here-next.true)) c.eq.ensures)

pub returns-else-here-next : goal.returns-else-here-next
returns-else-here-next c =
    let here = c.layer-here in
    let next = c.layer-next in
    layers_same c.args.self.now c.args.n here.result next.result here.ensures.facts here.ensures.rows next.ensures.facts next.ensures.rows
    (omega arith) _
    (subst (λ (b : Bool). b ≡ (b && bytes_eq here.result.exclusive.now next.result.exclusive.now)) (sym (ne_eqb _ _ c.if-here-next.false)) refl)
