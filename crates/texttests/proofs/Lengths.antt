use Rattle.std.proofs.Common.{◌≡◌, length, refl}
use Rattle.text.specs.Bytes as bytes
use Rattle.text.specs.Texts as texts
use Rattle.text.specs.Texts.{problem_text}
use Rattle.texttests.specs.Model.{model}

-- how many bytes the text of the model problem has
pub model_long : length (problem_text model) ≡ 140
unfolding texts.open_text texts.actions_text bytes.bytes_of
model_long = refl
