use Rattle.std.proofs.Common.{◌∷◌, ◌++◌, ap, ◌∙◌, arith}
use Rattle.std.proofs.lemmas.List.{length-append, append_assoc}
use Rattle.text.specs.Bytes.{bytes_of, put}
use Rattle.text.proofs.Numbers.{length_bytes_of}
use Rattle.text.proofs.Puts.{put_on}
use Rattle.text.proofs.writer.put_effect.Goals as goal

pub returns : goal.returns
returns c =
    let xs = c.args.out.now in
    let i = c.args.at in
    let x = 4 ∷ bytes_of 8 c.args.effect.condition in
    let y = bytes_of 8 c.args.effect.add in
    let z = bytes_of 8 c.args.effect.delete in
    let l1 = length_bytes_of 8 c.args.effect.condition in
    let l2 = length_bytes_of 8 c.args.effect.add in
    let l3 = length-append x y in
    let p = put_on xs i x y c.put_set_record.ensures (omega arith) (omega arith) c.put_set.ensures in
    let q = put_on xs i (x ++ y) z p (omega arith) (omega arith) c.put_set-2.ensures in
    q ∙ ap (put xs i) (append_assoc x y z)
