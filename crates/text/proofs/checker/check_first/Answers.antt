use Rattle.std.proofs.Common.{rules, ◌≡◌, ◌+◌, length, refl, arith}
use Rattle.std.proofs.lemmas.Result.{err_from_is_err_and}
use Rattle.text.specs.Texts.{first_is, item_text}
use Rattle.text.specs.Counting.{scaled}
use Rattle.text.specs.Misfits.{Misses, fault_of}
use Rattle.text.specs.declared.fits.Misfit.{Misfit}
use Rattle.text.proofs.Numbers.{length_bytes_of}
use Rattle.text.proofs.Decoding.{first_found, misfit_reads, goes_on}
use Rattle.text.proofs.checker.check_first.Goals as goal

pub returns : goal.returns
returns c =
    let r = c.in_ok-found.ensures in
    let t = first_found c.args.text.now 3 c.in_ok-found.found _ c.type_inv.text r.0 r.1 c.set_at-first.result c.in-First.is c.set_at-first.ensures in
    let s = c.set_at-first.result in
    let n : 3 + length (item_text (first_is s)) ≡ 12 = omega (arith, length_bytes_of 8 s) in
    goes_on c.args.text.now 3 12 (scaled c.args.size) (first_is s) t.0
    (λ (e : 2 ≡ 5). omega arith) (record { place = refl; range = tt; naming = search rules }) n

pub returns-in_err-map_err : goal.returns-in_err-map_err
returns-in_err-map_err c =
    let r = c.in_ok-found.ensures in
    let t = first_found c.args.text.now 3 c.in_ok-found.found _ c.type_inv.text r.0 r.1 c.set_at-first.result c.in-First.is c.set_at-first.ensures in
    let p = err_from_is_err_and c.from_residual-in_err-map_err.result c.from_residual-in_err-map_err.ensures.1 in
    let m : (k : Misfit) × (c.in_err-map_err.field-0.0 ≡ fault_of k 3) × Misses 0 0 c.args.size.atoms (first_is c.set_at-first.result) k = search rules in
    rw (p.1, p.2, m.1) (misfit_reads c.args.text.now 3 (scaled c.args.size) (first_is c.set_at-first.result)
    t.0 refl m.0 m.2)
