-- The bytes after one record more.
use Rattle.std.proofs.Common.{◌≡◌, ℕ, ◌+◌, ◌≤◌, List, ◌++◌, length, take, sym, refl, ap, ◌∙◌, subst, inl, inr, arith, rules, Ok, Err, Result, MatchResult}
use Rattle.std.specs.Result.{IsOk}
use Rattle.std.proofs.lemmas.List.{length_push}
use Rattle.problem.specs.declared.refusal.Refusal.{Refusal}
use Rattle.text.specs.Texts.{Item, size_is, first_is, action_is, effect_is, end_is, item_kind, item_text}
use Rattle.text.specs.Readings.{InPlace, InRange, Naming, Draft, nothing, more, latest, draft_text, Allowed, none, then}
use Rattle.text.specs.Bytes.{put}
use Rattle.text.specs.Records.{body_length}
use Rattle.text.specs.Misfits.{Fit}
use Rattle.text.specs.Writings.{Mark, marked, Wrote, Admits, Refuses, Refused, Holds, HoldsWhole}
use Rattle.text.specs.declared.fits.Misfit.{Misfit}
use Rattle.text.specs.declared.fits.Misfit.TheVariants.{Range, Atom}
use Rattle.text.specs.declared.place.Place.{Place}
use Rattle.text.specs.declared.place.Place.TheVariants.{Start, Acted}
use Rattle.text.proofs.Numbers.{length_bytes_of}
use Rattle.text.proofs.Puts.{take_put, length_put}
use Rattle.text.proofs.Items.{body_long}
use Rattle.text.proofs.Drafts.{SoundAt, row_for, at_effect, drafted_sound, more_text, open_end, latest_action, latest_effect}

-- a record is as long as the numbers say
pub marked_len : (k : Mark) (i : Item) → (marked k i).len ≡ k.len + length (item_text i)
marked_len k (size_is m h) = refl
marked_len k (first_is s) = omega (arith, length_bytes_of 8 s)
marked_len k (action_is p) = omega (arith, length_bytes_of 8 p)
marked_len k (effect_is e) = omega (arith, body_long (effect_is e))
marked_len k end_is = refl

pub next_len : {k k' : Mark} {i : Item} {out out' : List ℕ} → Wrote k k' i out out' → k'.len ≡ k.len + length (item_text i)
next_len {k} {i = i} w = ap (λ (m : Mark). m.len) w.next ∙ marked_len k i

module _ (k : Mark) (d : Draft) (i : Item) (out : List ℕ) (h : Holds k d out) (p : InPlace k.place (item_kind i)) where
  more_place : (item_kind i ≡ 5 → ⊥) → (more d i).place ≡ (marked k i).place
  more_place n = go i n
    where
      go : (i : Item) → (item_kind i ≡ 5 → ⊥) → (more d i).place ≡ (marked k i).place
      go (size_is m h) n = refl
      go (first_is s) n = refl
      go (action_is p) n = refl
      go (effect_is e) n = refl
      go end_is n = absurd (n refl)

  more_atoms : (more d i).contents.atoms ≡ (marked k i).atoms
  more_atoms = go i
    where
      go : (i : Item) → (more d i).contents.atoms ≡ (marked k i).atoms
      go (size_is m h) = refl
      go (first_is s) = h.atoms
      go (action_is p) = h.atoms
      go (effect_is e) = h.atoms
      go end_is = h.atoms

  more_actions : length (more d i).contents.rows ≡ (marked k i).actions
  more_actions = go i
    where
      go : (i : Item) → length (more d i).contents.rows ≡ (marked k i).actions
      go (size_is m x) = refl
      go (first_is s) = refl
      go (action_is p) = omega (arith, h.actions, length_push d.contents.rows (row_for d.contents p))
      go (effect_is e) = h.actions
      go end_is = h.actions

  more_latest : latest (more d i).contents ≡ (marked k i).latest
  more_latest = go i p
    where
      go : (i : Item) → InPlace k.place (item_kind i) → latest (more d i).contents ≡ (marked k i).latest
      go (size_is m x) p = refl
      go (first_is s) p = refl
      go (action_is q) p = latest_action d.contents q
      go (effect_is e) p =
          let s : SoundAt Acted d.contents = subst (λ (x : Place). SoundAt x d.contents) (h.place ∙ at_effect k.place p) (drafted_sound d h.drafted) in
          omega (arith, h.latest_of, latest_effect d.contents e s.0.0 s.1)
      go end_is p = h.latest_of

-- the record may come next in the draft too
allowed : (k k' : Mark) (d : Draft) (i : Item) (out out' : List ℕ) → Holds k d out → Wrote k k' i out out' → Allowed d i
allowed k k' d i out out' h w = record {
  place = subst (λ (x : Place). InPlace x (item_kind i)) (sym h.place) w.place;
  range = subst (λ (x : ℕ). InRange x (latest d.contents) i) (sym h.actions) (subst (λ (x : ℕ). InRange k.actions x i) (sym h.latest_of) w.range);
  naming = subst (λ (x : ℕ). Naming x i) (sym h.atoms) w.naming;
}

-- the bytes so far, with the record behind them
written_bytes : (k k' : Mark) (d : Draft) (i : Item) (out out' : List ℕ) → Holds k d out → Wrote k k' i out out' → (k.len + length (item_text i) ≤ length out') × (take (k.len + length (item_text i)) out' ≡ draft_text d ++ item_text i)
written_bytes k k' d i out out' h w = (
  omega (arith, w.room, ap length w.bytes, length_put out k.len (item_text i) w.room),
  ap (take (k.len + length (item_text i))) w.bytes ∙ take_put out k.len (item_text i) w.room ∙ ap (λ (x : List ℕ). x ++ item_text i) h.bytes,
)

pub holds_more : (k k' : Mark) (d : Draft) (i : Item) (out out' : List ℕ) → (item_kind i ≡ 5 → ⊥) → Holds k d out → Wrote k k' i out out' → Holds k' (more d i) out'
holds_more k k' d i out out' n h w =
    let a = allowed k k' d i out out' h w in
    let b = written_bytes k k' d i out out' h w in
    let l = marked_len k i in
    subst (λ (x : Mark). Holds x (more d i) out') (sym w.next) (record {
      drafted = then i h.drafted n a;
      place = more_place k d i out h w.place n;
      atoms = more_atoms k d i out h w.place;
      actions = more_actions k d i out h w.place;
      latest_of = more_latest k d i out h w.place;
      inside = omega (arith, b.0);
      bytes = ap (λ (x : ℕ). take x out') l ∙ b.1 ∙ sym (more_text d i n (drafted_sound d h.drafted) a);
    })

pub holds_whole : (k k' : Mark) (d : Draft) (out out' : List ℕ) → Holds k d out → Wrote k k' end_is out out' → HoldsWhole (k.len + 1) d out'
holds_whole k k' d out out' h w =
    let a = allowed k k' d end_is out out' h w in
    let b = written_bytes k k' d end_is out out' h w in
    let o = open_end d (drafted_sound d h.drafted) a.place in
    record { valid = o.valid; inside = b.0; bytes = b.1 ∙ ap (λ (x : List ℕ). x ++ item_text end_is) o.text }

pub holds_none : (k : Mark) (out : List ℕ) → k ≡ record { place = Start; len = 0; atoms = 0; actions = 0; latest = 0 } → Holds k nothing out
holds_none k out e = subst (λ (x : Mark). Holds x nothing out) (sym e) (record {
  drafted = none;
  place = refl;
  atoms = refl;
  actions = refl;
  latest_of = refl;
  inside = omega arith;
  bytes = refl;
})

-- a record in its place: where it is admitted it is written, and so the text goes on, and else it is refused for what fails first
module _ (k : Mark) (i : Item) (out : List ℕ) (n : ℕ) (e : n ≡ 1 + body_length (item_kind i)) (p : InPlace k.place (item_kind i)) where
  pub writes : (k' : Mark) (out' : List ℕ) (fit : Result (Unit {0}) Misfit) → (item_kind i ≡ 5 → ⊥) → Fit k.actions k.latest k.atoms i fit → Admits fit (length out) k.len n (Ok tt)
      → k' ≡ marked k i → out' ≡ put out k.len (item_text i) → Wrote k k' i out out' × ((d : Draft) → Holds k d out → Holds k' (more d i) out')
  writes k' out' (Ok u) l f a x b =
      let w : Wrote k k' i out out' = record { place = p; range = f.0; naming = f.1; room = omega (arith, a.1, body_long i); next = x; bytes = b } in
      (w, λ d h. holds_more k k' d i out out' l h w)
  writes k' out' (Err m) l f a x b = let y = a.0 in absurd (cc)

  pub declined : (r : Refusal) (fit : Result (Unit {0}) Misfit) → Fit k.actions k.latest k.atoms i fit → Admits fit (length out) k.len n (Err r) → Refused k i out out r
  declined r (Ok u) f a = record { same = refl; why = inr (inr (inr (a.0, p, f.0, f.1, omega (arith, a.1, body_long i)))) }
  declined r (Err Range) f a = record { same = refl; why = inr (inl (a, p, f)) }
  declined r (Err Atom) f a = record { same = refl; why = inr (inr (inl (a, p, f.0, f.1))) }

-- a record that may come, fits and has room is not refused
pub not_refused : (k : Mark) (i : Item) (size : ℕ) (e : Refusal) → InPlace k.place (item_kind i) → InRange k.actions k.latest i → Naming k.atoms i → k.len + length (item_text i) ≤ size → Refuses k i size e → ⊥
not_refused k i size e p r m o (inl x) = x.1 p
not_refused k i size e p r m o (inr (inl x)) = x.2 r
not_refused k i size e p r m o (inr (inr (inl x))) = x.3 m
not_refused k i size e p r m o (inr (inr (inr x))) = omega (arith, x.4)

-- a call whose refusals are ruled out
pub goes_through : {S E : Type 0} (r : Result S E) (P : S → Type 0) (Q : E → Type 0) → MatchResult r P Q → ((e : E) → Q e → ⊥) → IsOk r
goes_through (Ok x) P Q m n = search rules
goes_through (Err e) P Q m n = absurd (n e m)
