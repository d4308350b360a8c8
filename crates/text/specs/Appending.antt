-- A text that was written further.
use Rattle.std.specs.Prelude.{◌≡◌, ℕ, ◌+◌, List, length}
use Rattle.std.specs.List.{flat_map}
use Rattle.problem.specs.declared.rows.EffectRow.{EffectRow}
use Rattle.text.specs.Bytes.{put}
use Rattle.text.specs.Texts.{effect_is, item_text}
use Rattle.text.specs.declared.writer.StartedText.{StartedText}

-- effects, one after the other
abbrev pub effects_text : List EffectRow → List ℕ
effects_text es = flat_map (λ e. item_text (effect_is e)) es

-- these bytes were written behind those so far, and so many actions with them
pub record Appends (t t' : StartedText) (new : List ℕ) (count : ℕ) (out out' : List ℕ) : Type 0 where
  pub len : t'.len ≡ t.len + length new
  pub atoms : t'.atoms ≡ t.atoms
  pub actions : t'.actions ≡ t.actions + count
  pub bytes : out' ≡ put out t.len new
