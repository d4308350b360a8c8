use Rattle.std.proofs.Common.{◌≡◌, refl, arith}
use Rattle.text.specs.Texts.{size_is}
use Rattle.text.specs.Writings.{blank_mark}
use Rattle.text.proofs.Written.{writes}
use Rattle.text.proofs.writer.BlankText.size.Goals as goal

pub returns : goal.returns
returns c =
    let a = c.in_ok-text.ensures in
    let w = writes (blank_mark c.args.self) (size_is c.args.atoms c.args.hands) c.args.out.now 3 refl refl _ _ _ (λ (e : 1 ≡ 5). omega arith) c.size_fits.ensures (rw a.1 at c.admits-fit.ensures) (rw a.0 refl) (rw a.0 at c.put_bytes.ensures) in
    record { answer = w.0; written = w.1 }
