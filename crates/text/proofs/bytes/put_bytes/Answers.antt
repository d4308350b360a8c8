use Rattle.std.proofs.Common.{arith}
use Rattle.text.proofs.Puts.{put_from_mid}
use Rattle.text.proofs.bytes.put_bytes.Goals as goal

pub returns : goal.returns
returns c = put_from_mid _ _ _ _ _ c.copy_from_slice.ensures.after (omega arith)
