use Rattle.std.proofs.Common.{ap, ◌∙◌}
use Rattle.text.specs.Bytes.{put}
use Rattle.text.proofs.Numbers.{bytes_of_8}
use Rattle.text.proofs.bytes.put_set.Goals as goal

pub returns : goal.returns
returns c = c.put_bytes.ensures ∙ ap (put c.args.out.now c.args.at) (c.to_be_bytes.ensures ∙ bytes_of_8 c.args.set)
