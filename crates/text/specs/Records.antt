-- What stands at an offset of a text: a kind, a whole record, or a fault.
use Rattle.std.specs.Prelude.{◌≡◌, ℕ, ◌+◌, ◌<◌, ◌≤◌, ◌⊎◌, List, [], ◌∷◌, length, Ok, Err, Result, slice_index}
use Rattle.text.specs.Bytes.{Stand}
use Rattle.text.specs.declared.fault.RecordFault.{RecordFault}
use Rattle.text.specs.declared.fault.RecordFault.TheVariants.{Cut, Unknown}
use Rattle.text.specs.declared.record.Kind.{Kind}
use Rattle.text.specs.declared.record.Kind.TheVariants as kinds
use Rattle.text.specs.declared.record.Record.{Record}
use Rattle.text.specs.declared.record.Record.TheVariants.{Size, First, Action, Effect, End, Question}
use Rattle.text.specs.declared.record.Found.{Found}

-- the bytes that are kinds
abbrev pub Known : ℕ → Type 0
Known k = (1 ≤ k) × (k ≤ 6)

-- the length of the body of each kind, from 1 on
abbrev pub body_length : ℕ → ℕ
body_length k = slice_index (0 ∷ 2 ∷ 8 ∷ 8 ∷ 24 ∷ 0 ∷ 21 ∷ []) k

abbrev pub code_of : Kind → ℕ
code_of kinds.Size = 1
code_of kinds.First = 2
code_of kinds.Action = 3
code_of kinds.Effect = 4
code_of kinds.End = 5
code_of kinds.Question = 6

abbrev pub kind_of : Record → ℕ
kind_of (Size b) = 1
kind_of (First b) = 2
kind_of (Action b) = 3
kind_of (Effect b) = 4
kind_of End = 5
kind_of (Question b) = 6

abbrev pub body_of : Record → List ℕ
body_of (Size b) = b.now
body_of (First b) = b.now
body_of (Action b) = b.now
body_of (Effect b) = b.now
body_of End = []
body_of (Question b) = b.now

-- a byte's kind, or that it has none
abbrev pub Decodes : ℕ → Result Kind (Unit {0}) → Type 0
Decodes byte (Ok k) = code_of k ≡ byte
Decodes byte (Err e) = Known byte → ⊥

-- at an offset stands a byte that is no kind
abbrev pub Strange : List ℕ → ℕ → Type 0
Strange text at = (at < length text) × (Known (slice_index text at) → ⊥)

-- at an offset stands a kind whose body is not whole
abbrev pub Torn : List ℕ → ℕ → Type 0
Torn text at = (at < length text) × Known (slice_index text at) × (length text < at + 1 + body_length (slice_index text at))

-- the kind at an offset, or its fault
abbrev pub KindAt : List ℕ → ℕ → Result Kind RecordFault → Type 0
KindAt text at (Ok k) = (at < length text) × (code_of k ≡ slice_index text at)
KindAt text at (Err (Cut o)) = (o ≡ at) × (length text ≤ at)
KindAt text at (Err (Unknown o)) = (o ≡ at) × Strange text at

-- a whole record that stands where it says
pub record Stands (text : List ℕ) (f : Found) : Type 0 where
  pub bytes : Stand text f.at (kind_of f.record ∷ body_of f.record)
  pub size : length (body_of f.record) ≡ body_length (kind_of f.record)
  pub next : f.next ≡ f.at + 1 + length (body_of f.record)

-- the record at an offset, or its fault
abbrev pub RecordAt : List ℕ → ℕ → Result Found RecordFault → Type 0
RecordAt text at (Ok f) = (f.at ≡ at) × Stands text f
RecordAt text at (Err (Cut o)) = (o ≡ at) × ((length text ≤ at) ⊎ Torn text at)
RecordAt text at (Err (Unknown o)) = (o ≡ at) × Strange text at
