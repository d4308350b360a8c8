use Rattle.std.proofs.Common.{[], ◌∷◌, refl, arith}
use Rattle.text.specs.Bytes.{bytes_of}
use Rattle.text.specs.Records.{code_of}
use Rattle.text.proofs.Codes.{tag_code}
use Rattle.text.proofs.Puts.{put_on}
use Rattle.text.proofs.writer.put_set_record.Goals as goal

pub returns : goal.returns
returns c =
    put_on c.args.out.now c.args.at (code_of c.args.kind ∷ []) (bytes_of 8 c.args.set) (rw (tag_code c.args.kind) at c.put_bytes.ensures) refl (omega arith) c.put_set.ensures
