use Rattle.std.proofs.Common.{refl}
use Rattle.text.proofs.Written.{holds_none}
use Rattle.text.proofs.writer.BlankText.new.Goals as goal

pub returns : goal.returns
returns c = λ out. holds_none _ out refl
