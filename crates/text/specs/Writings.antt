-- What each call of the writer does: one record more in the bytes, or a refusal.
use Rattle.std.specs.Prelude.{◌≡◌, ℕ, ◌+◌, ◌<◌, ◌≤◌, ◌⊎◌, List, length, take, Ok, Err, Result}
use Rattle.problem.specs.declared.refusal.Refusal.{Refusal}
use Rattle.problem.specs.declared.refusal.Refusal.TheVariants.{WrongPlace, OutOfRange, UnknownAtom, TooShort}
use Rattle.text.specs.Bytes.{put}
use Rattle.text.specs.Texts.{Item, size_is, first_is, action_is, effect_is, end_is, item_kind, item_text, Valid, problem_text}
use Rattle.text.specs.Readings.{InPlace, InRange, Naming, place_after, Draft, draft_text, latest, Drafted}
use Rattle.text.specs.Misfits.{refusal_of}
use Rattle.text.specs.declared.fits.Misfit.{Misfit}
use Rattle.text.specs.declared.place.Place.{Place}
use Rattle.text.specs.declared.place.Place.TheVariants.{Start, Sized, Started, Acted}
use Rattle.text.specs.declared.writer.BlankText.{BlankText}
use Rattle.text.specs.declared.writer.SizedText.{SizedText}
use Rattle.text.specs.declared.writer.StartedText.{StartedText}
use Rattle.text.specs.declared.writer.EndedText.{EndedText}

-- the numbers of a text that is being written: where it is, its length, its atoms, and its two counts
pub record Mark : Type 0 where
  pub place : Place
  pub len : ℕ
  pub atoms : ℕ
  pub actions : ℕ
  pub latest : ℕ

-- the numbers of each state
abbrev pub blank_mark : BlankText → Mark
blank_mark t = record { place = Start; len = t.len; atoms = 0; actions = 0; latest = 0 }

abbrev pub sized_mark : SizedText → Mark
sized_mark t = record { place = Sized; len = t.len; atoms = t.atoms; actions = 0; latest = 0 }

abbrev pub started_mark : StartedText → Mark
started_mark t = record { place = place_after t.actions; len = t.len; atoms = t.atoms; actions = t.actions; latest = t.latest }

-- the end changes only the length
abbrev pub ended_mark : StartedText → EndedText → Mark
ended_mark t e = record { place = place_after t.actions; len = e.len; atoms = t.atoms; actions = t.actions; latest = t.latest }

-- the numbers after one record more
abbrev pub marked : Mark → Item → Mark
marked k (size_is m h) = record { place = Sized; len = k.len + 3; atoms = m; actions = 0; latest = 0 }
marked k (first_is s) = record { place = Started; len = k.len + 9; atoms = k.atoms; actions = 0; latest = 0 }
marked k (action_is p) = record { place = Acted; len = k.len + 9; atoms = k.atoms; actions = k.actions + 1; latest = 0 }
marked k (effect_is e) = record { place = Acted; len = k.len + 25; atoms = k.atoms; actions = k.actions; latest = k.latest + 1 }
marked k end_is = record { place = k.place; len = k.len + 1; atoms = k.atoms; actions = k.actions; latest = k.latest }

-- a record was written behind those so far, and no other byte
pub record Wrote (k k' : Mark) (i : Item) (out out' : List ℕ) : Type 0 where
  pub place : InPlace k.place (item_kind i)
  pub range : InRange k.actions k.latest i
  pub naming : Naming k.atoms i
  pub room : k.len + length (item_text i) ≤ length out
  pub next : k' ≡ marked k i
  pub bytes : out' ≡ put out k.len (item_text i)

-- why a record is refused: its place, its range, its atoms, and last the bytes that are too few
abbrev pub Refuses : Mark → Item → ℕ → Refusal → Type 0
Refuses k i size e =
    ((e ≡ WrongPlace) × (InPlace k.place (item_kind i) → ⊥))
    ⊎ (((e ≡ OutOfRange) × InPlace k.place (item_kind i) × (InRange k.actions k.latest i → ⊥))
    ⊎ (((e ≡ UnknownAtom) × InPlace k.place (item_kind i) × InRange k.actions k.latest i × (Naming k.atoms i → ⊥))
    ⊎ ((e ≡ TooShort) × InPlace k.place (item_kind i) × InRange k.actions k.latest i × Naming k.atoms i × (size < k.len + length (item_text i)))))

-- values that fit and room for so many bytes, or the first of these that fails
abbrev pub Admits : Result (Unit {0}) Misfit → ℕ → ℕ → ℕ → Result (Unit {0}) Refusal → Type 0
Admits fit size len more (Ok u) = (fit ≡ Ok u) × (len + more ≤ size)
Admits (Ok u) size len more (Err e) = (e ≡ TooShort) × (size < len + more)
Admits (Err k) size len more (Err e) = e ≡ refusal_of k

-- a refusal leaves all bytes alike
pub record Refused (k : Mark) (i : Item) (out out' : List ℕ) (e : Refusal) : Type 0 where
  pub same : out' ≡ out
  pub why : Refuses k i (length out) e

-- the bytes so far are the text of what was written so far
pub record Holds (k : Mark) (d : Draft) (out : List ℕ) : Type 0 where
  pub drafted : Drafted d
  pub place : d.place ≡ k.place
  pub atoms : d.contents.atoms ≡ k.atoms
  pub actions : length d.contents.rows ≡ k.actions
  pub latest_of : latest d.contents ≡ k.latest
  pub inside : k.len ≤ length out
  pub bytes : take k.len out ≡ draft_text d

-- the bytes are the text of a whole problem
pub record HoldsWhole (n : ℕ) (d : Draft) (out : List ℕ) : Type 0 where
  pub valid : Valid d.contents
  pub inside : n ≤ length out
  pub bytes : take n out ≡ problem_text d.contents
