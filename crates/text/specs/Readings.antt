-- The reading of a text from left to right: the problem that it begins with, or its first fault.
use Rattle.std.specs.Prelude.{◌≡◌, ℕ, zero, suc, ◌+◌, ◌-◌, ◌<◌, ◌≤◌, ◌⊎◌, List, [], ◌∷◌, ◌++◌, length, ◌≢◌, slice_index}
use Rattle.sets.specs.Sets.{Within}
use Rattle.problem.specs.Rows.{names_of}
use Rattle.problem.specs.Problems.{action_at}
use Rattle.text.specs.Bytes.{Stand}
use Rattle.text.specs.Records.{Known, Strange, Torn}
use Rattle.text.specs.Texts.{Item, size_is, first_is, action_is, effect_is, end_is, item_kind, item_text, Fitting, Contents, open_text}
use Rattle.text.specs.declared.fault.RecordFault.TheVariants.{Cut, Unknown}
use Rattle.text.specs.declared.fault.ProblemFault.{ProblemFault}
use Rattle.text.specs.declared.fault.ProblemFault.TheVariants.{Record as InRecord, NoEnd, Place as Misplaced, Range, Atom}
use Rattle.text.specs.declared.place.Place.{Place}
use Rattle.text.specs.declared.place.Place.TheVariants.{Start, Sized, Started, Acted}

-- which kinds may stand where: the size, the first state, then actions, each with its effects, up to the end
abbrev pub InPlace : Place → ℕ → Type 0
InPlace Start k = k ≡ 1
InPlace Sized k = k ≡ 2
InPlace Started k = (k ≡ 3) ⊎ (k ≡ 5)
InPlace Acted k = (3 ≤ k) × (k ≤ 5)

-- where a text is after its first state and so many actions
abbrev pub place_after : ℕ → Place
place_after zero = Started
place_after (suc n) = Acted

-- after so many actions, the latest with so many effects: 1 to 64 atoms, 1 to 4 hands, no 65th action, no ninth effect
abbrev pub InRange : ℕ → ℕ → Item → Type 0
InRange actions latest (size_is m h) = ((1 ≤ m) × (m ≤ 64)) × ((1 ≤ h) × (h ≤ 4))
InRange actions latest (first_is s) = Unit {0}
InRange actions latest (action_is p) = actions < 64
InRange actions latest (effect_is e) = latest < 8
InRange actions latest end_is = Unit {0}

-- the sets of a record name only atoms below m
abbrev pub Naming : ℕ → Item → Type 0
Naming m (size_is n h) = Unit {0}
Naming m (first_is s) = Within m s
Naming m (action_is p) = Within m p
Naming m (effect_is e) = Within m (names_of e)
Naming m end_is = Unit {0}

-- how many effects the latest action has
abbrev pub latest : Contents → ℕ
latest c = length (action_at c.rows c.effects (length c.rows - 1)).effects

-- what has been read or written so far
pub record Draft : Type 0 where
  pub place : Place
  pub contents : Contents

abbrev pub draft : Place → Contents → Draft
draft p c = record { place = p; contents = c }

abbrev pub nothing : Draft
nothing = record { place = Start; contents = record { atoms = 0; hands = 0; first = 0; rows = []; effects = [] } }

-- a draft with one record more
abbrev pub more : Draft → Item → Draft
more d (size_is m h) = record { place = Sized; contents = record { atoms = m; hands = h; first = 0; rows = []; effects = [] } }
more d (first_is s) = record {
  place = Started;
  contents = record { atoms = d.contents.atoms; hands = d.contents.hands; first = s; rows = []; effects = [] };
}
more d (action_is p) = record {
  place = Acted;
  contents = record {
    atoms = d.contents.atoms;
    hands = d.contents.hands;
    first = d.contents.first;
    rows = d.contents.rows ++ (record { precondition = p; first_effect = length d.contents.effects } ∷ []);
    effects = d.contents.effects;
  };
}
more d (effect_is e) = record {
  place = Acted;
  contents = record {
    atoms = d.contents.atoms;
    hands = d.contents.hands;
    first = d.contents.first;
    rows = d.contents.rows;
    effects = d.contents.effects ++ (e ∷ []);
  };
}
more d end_is = d

-- the text so far
abbrev pub part_text : Place → Contents → List ℕ
part_text Start c = []
part_text Sized c = item_text (size_is c.atoms c.hands)
part_text Started c = open_text c
part_text Acted c = open_text c

abbrev pub draft_text : Draft → List ℕ
draft_text d = part_text d.place d.contents

-- a record stands at an offset, with its values
pub record Reading (text : List ℕ) (at : ℕ) (i : Item) : Type 0 where
  pub fitting : Fitting i
  pub bytes : Stand text at (item_text i)

-- the record may come next, is in range and names known atoms
pub record Allowed (d : Draft) (i : Item) : Type 0 where
  pub place : InPlace d.place (item_kind i)
  pub range : InRange (length d.contents.rows) (latest d.contents) i
  pub naming : Naming d.contents.atoms i

-- a draft that came about record by record, each of them allowed
pub data Drafted : Draft → Type 0 where
  none : Drafted nothing
  then : {d : Draft} (i : Item) → Drafted d → (item_kind i ≢ 5) → Allowed d i → Drafted (more d i)

-- a whole problem up to an offset, or a fault
pub data Outcome : Type 0 where
  whole : Contents → ℕ → Outcome
  faulty : ProblemFault → Outcome

-- the reading of a text from an offset on, after a draft, and its outcome
pub data Reads (text : List ℕ) : ℕ → Draft → Outcome → Type 0 where
  -- the text ends here, before its end record
  missing : {at : ℕ} {d : Draft} → length text ≤ at → Reads text at d (faulty (NoEnd (length text)))
  -- no kind of record
  strange : {at : ℕ} {d : Draft} → Strange text at → Reads text at d (faulty (InRecord (Unknown at)))
  -- a kind in the wrong place
  misplaced : {at : ℕ} {d : Draft} → at < length text → Known (slice_index text at) → (InPlace d.place (slice_index text at) → ⊥) → Reads text at d (faulty (Misplaced at))
  -- a body that is not whole
  torn : {at : ℕ} {d : Draft} → InPlace d.place (slice_index text at) → Torn text at → Reads text at d (faulty (InRecord (Cut at)))
  -- a number out of range, or one record too many
  outside : {at : ℕ} {d : Draft} {i : Item} → Reading text at i → InPlace d.place (item_kind i)
      → (InRange (length d.contents.rows) (latest d.contents) i → ⊥) → Reads text at d (faulty (Range at))
  -- an atom that the problem has not
  unnamed : {at : ℕ} {d : Draft} {i : Item} → Reading text at i → InPlace d.place (item_kind i)
      → InRange (length d.contents.rows) (latest d.contents) i → (Naming d.contents.atoms i → ⊥) → Reads text at d (faulty (Atom at))
  -- the end of the problem
  ends : {at : ℕ} {d : Draft} → Reading text at end_is → InPlace d.place 5 → Reads text at d (whole d.contents (at + 1))
  -- one record more, and the rest of the reading
  goes : {at : ℕ} {d : Draft} {i : Item} {o : Outcome} → Reading text at i → (item_kind i ≢ 5) → Allowed d i
      → Reads text (at + length (item_text i)) (more d i) o → Reads text at d o
