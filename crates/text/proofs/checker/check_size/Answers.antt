use Rattle.std.proofs.Common.{rules, ◌≡◌, get_or, refl, arith}
use Rattle.std.proofs.lemmas.Result.{err_from_is_err_and}
use Rattle.text.specs.Texts.{size_is}
use Rattle.text.specs.Readings.{nothing, goes}
use Rattle.text.specs.Misfits.{Misses, fault_of}
use Rattle.text.specs.declared.fits.Misfit.{Misfit}
use Rattle.text.proofs.Decoding.{bytes_under, decoded, misfit_reads}
use Rattle.text.proofs.checker.check_size.Goals as goal

pub returns : goal.returns
returns c =
    let r = c.in_ok-found.ensures in
    let t = decoded c.args.text.now 0 c.in_ok-found.found _ (bytes_under _ c.type_inv.text) r.0 r.1 c.in-Size.is (omega arith) in
    λ o rest. goes t.reading (λ (e : 1 ≡ 5). omega arith) (record { place = refl; range = search rules; naming = tt }) rest

pub returns-in_err-map_err : goal.returns-in_err-map_err
returns-in_err-map_err c =
    let r = c.in_ok-found.ensures in
    let t = decoded c.args.text.now 0 c.in_ok-found.found _ (bytes_under _ c.type_inv.text) r.0 r.1 c.in-Size.is (omega arith) in
    let p = err_from_is_err_and c.from_residual-in_err-map_err.result c.from_residual-in_err-map_err.ensures.1 in
    let m : (k : Misfit) × (c.in_err-map_err.field-0.0 ≡ fault_of k 0) × Misses 0 0 0 (size_is (get_or c.in-Size.body.now 0 0) (get_or c.in-Size.body.now 1 0)) k = search rules in
    rw (p.1, p.2, m.1) (misfit_reads c.args.text.now 0 nothing _ t.reading refl m.0 m.2)
