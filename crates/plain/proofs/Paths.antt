-- The way back from an entry to the first state, read forward.
use Rattle.std.proofs.Common.{◌≡◌, ℕ, ◌<◌, List, [], ◌∷◌, ◌++◌, length, get_or, sym, subst, arith}
use Rattle.std.proofs.lemmas.List.{length_push}
use Rattle.plain.specs.Trees.{Branch, LeadTo}
use Rattle.plain.specs.declared.reached.Reached.{Reached}
use Rattle.plain.proofs.Trees.{entry_read}
use Rattle.problem.proofs.Running.{leads_push}

pub lead_more : (rows : List Reached) (i : ℕ) (x : Reached) (steps items : List ℕ) → 0 < i → i < length rows → x ≡ get_or rows i x
    → LeadTo rows x.from steps → items ≡ steps ++ x.step ∷ [] → LeadTo rows i items
lead_more rows i x steps items pos lt read lead e t limit g =
    let same = entry_read rows i x lt read in
    let b : Branch t rows i x = subst (λ (y : Reached). Branch t rows i y) (sym same) (g.branch i pos lt) in
    let before = lead t limit g in
    rw (e, ← same) (leads_push t steps _ _ x.step x.state before.0 b.firm, omega (arith, length_push steps x.step, before.1, b.deeper))
