-- What holds of a draft that came about by allowed records.
use Rattle.std.proofs.Common.{◌≡◌, ℕ, zero, suc, ◌+◌, ◌-◌, ◌<◌, ◌≤◌, List, [], ◌∷◌, ◌++◌, length, drop, sym, refl, ap, ◌∙◌, subst, inl, inr, arith}
use native.Mathlib.Decide.{dec_le}
use Rattle.std.proofs.lemmas.List.{length_push, length-drop, get_or_append_left, get_or_push, append_assoc, append-nil}
use Rattle.sets.specs.Sets.{Within}
use Rattle.problem.specs.Rows.{begins, names_of, Placed}
use Rattle.problem.specs.Actions.{Action}
use Rattle.problem.specs.Problems.{action_at}
use Rattle.problem.specs.declared.rows.ActionRow.{ActionRow}
use Rattle.problem.specs.declared.rows.EffectRow.{EffectRow}
use Rattle.problem.proofs.Placing.{begins_past, begins_up, begins_le}
use Rattle.text.specs.Texts.{Item, size_is, first_is, action_is, effect_is, end_is, item_kind, item_text, Contents, Valid, open_text, actions_text}
use Rattle.text.specs.Readings.{InPlace, place_after, Draft, more, latest, part_text, draft_text, Allowed, Drafted, none, then}
use Rattle.text.specs.declared.place.Place.{Place}
use Rattle.text.specs.declared.place.Place.TheVariants.{Start, Sized, Started, Acted}
use Rattle.text.proofs.Growing.{begins_action, begins_effect, action_new, latest_all, effect_new, text_action, text_effect}

-- what each place says of the numbers and rows
abbrev pub SoundAt : Place → Contents → Type 0
SoundAt Start c = Unit {0}
SoundAt Sized c = ((1 ≤ c.atoms) × (c.atoms ≤ 64)) × ((1 ≤ c.hands) × (c.hands ≤ 4))
SoundAt Started c = Valid c × (length c.rows ≡ 0)
SoundAt Acted c = Valid c × (0 < length c.rows)

abbrev pub Sound : Draft → Type 0
Sound d = SoundAt d.place d.contents

-- the rows of a started draft
abbrev pub with_action : Contents → ℕ → Contents
with_action c p = record { atoms = c.atoms; hands = c.hands; first = c.first; rows = c.rows ++ (record { precondition = p; first_effect = length c.effects } ∷ []); effects = c.effects }

abbrev pub with_effect : Contents → EffectRow → Contents
with_effect c e = record { atoms = c.atoms; hands = c.hands; first = c.first; rows = c.rows; effects = c.effects ++ (e ∷ []) }

-- rows stay in place
pub placed_action : (c : Contents) (p : ℕ) → Placed c.rows (length c.effects) → Placed (with_action c p).rows (length c.effects)
placed_action c p v =
    let same = begins_action c.rows c.effects (record { precondition = p; first_effect = length c.effects }) refl in
    (same 0 ∙ v.0, λ k h. omega (arith, same k, same (k + 1), begins_up c.rows (length c.effects) v k))

pub placed_effect : (c : Contents) (e : EffectRow) → Placed c.rows (length c.effects) → 0 < length c.rows → Placed c.rows (length (with_effect c e).effects)
placed_effect c e v some =
    let rows = c.rows in
    let n = length c.effects in
    let n' = length (c.effects ++ (e ∷ [])) in
    let same = begins_effect rows c.effects e v some in
    let one = length_push c.effects e in (
      same 0 some ∙ v.0,
      λ k h. elim (dec_le (length rows) (k + 1)) [
        | yes last ↦ omega (arith, same k h, begins_past rows n' (k + 1) last, begins_le rows n v k)
        | no below ↦ omega (arith, same k h, same (k + 1) (omega arith), v.1 k h)
      ],
    )

valid_action : (c : Contents) (p : ℕ) → Valid c → length c.rows < 64 → Within c.atoms p → Valid (with_action c p)
valid_action c p v few named =
    let a : ActionRow = record { precondition = p; first_effect = length c.effects } in
    let rows = c.rows in
    let n = length c.effects in
    let same = begins_action rows c.effects a refl in (
      placed_action c p v.0,
      (
        v.1.0,
        v.1.1,
        omega (arith, length_push rows a),
        λ k h. elim (dec_le (length rows) k) [
          | yes past ↦ omega (arith, same k, same (k + 1), begins_past rows n k past, begins_past rows n (k + 1) (omega arith))
          | no below ↦ omega (arith, same k, same (k + 1), v.1.3 k (omega arith))
        ],
      ),
      (
        v.2.0,
        (λ k h. elim (dec_le (length rows) k) [
          | yes past ↦ subst (λ (r : ActionRow). Within c.atoms r.precondition) (sym (get_or_push rows a _ k (omega (arith, length_push rows a)))) named
          | no below ↦ subst (λ (r : ActionRow). Within c.atoms r.precondition) (sym (get_or_append_left rows (a ∷ []) _ k (omega arith))) (v.2.1 k (omega arith))
        ]),
        v.2.2,
      ),
    )

-- how many effects the latest action then has
pub latest_action : (c : Contents) (p : ℕ) → latest (with_action c p) ≡ 0
latest_action c p =
    let a : ActionRow = record { precondition = p; first_effect = length c.effects } in
    let i : length (c.rows ++ (a ∷ [])) - 1 ≡ length c.rows = omega (arith, length_push c.rows a) in
    ap (λ (k : ℕ). length (action_at (c.rows ++ (a ∷ [])) c.effects k).effects) i ∙ ap (λ (x : Action). length x.effects) (action_new c.rows c.effects a refl)

pub latest_effect : (c : Contents) (e : EffectRow) → Placed c.rows (length c.effects) → 0 < length c.rows → latest (with_effect c e) ≡ latest c + 1
latest_effect c e v some = ap length (effect_new c.rows c.effects e v some) ∙ length_push (action_at c.rows c.effects (length c.rows - 1)).effects e

-- how many effects the latest action has, by the place of its first
pub latest_is : (c : Contents) (k : ℕ) → Valid c → k + 1 ≡ length c.rows → latest c + begins c.rows (length c.effects) k ≡ length c.effects
latest_is c k v e =
    let x = begins c.rows (length c.effects) k in
    let le = begins_le c.rows (length c.effects) v.0 k in
    let i : length c.rows - 1 ≡ k = omega arith in
    let l : latest c ≡ length (drop x c.effects) = ap (λ (j : ℕ). length (action_at c.rows c.effects j).effects) i ∙ ap length (latest_all c.rows c.effects k (omega arith)) in
    omega (arith, length-drop x c.effects)

valid_effect : (c : Contents) (e : EffectRow) → Valid c → 0 < length c.rows → latest c < 8 → Within c.atoms (names_of e) → Valid (with_effect c e)
valid_effect c e v some few named =
    let rows = c.rows in
    let n = length c.effects in
    let n' = length (c.effects ++ (e ∷ [])) in
    let same = begins_effect rows c.effects e v.0 some in
    let one = length_push c.effects e in (
      placed_effect c e v.0 some,
      (
        v.1.0,
        v.1.1,
        v.1.2,
        λ k h. elim (dec_le (length rows) (k + 1)) [
          | yes last ↦ omega (arith, same k h, begins_past rows n' (k + 1) last, latest_is c k v (omega arith))
          | no below ↦ omega (arith, same k h, same (k + 1) (omega arith), v.1.3 k h)
        ],
      ),
      (
        v.2.0,
        v.2.1,
        λ j h. elim (dec_le n j) [
          | yes past ↦ subst (λ (r : EffectRow). Within c.atoms (names_of r)) (sym (get_or_push c.effects e _ j (omega arith))) named
          | no below ↦ subst (λ (r : EffectRow). Within c.atoms (names_of r)) (sym (get_or_append_left c.effects (e ∷ []) _ j (omega arith))) (v.2.2 j (omega arith))
        ],
      ),
    )

pub valid_first : (m h s : ℕ) → ((1 ≤ m) × (m ≤ 64)) × ((1 ≤ h) × (h ≤ 4)) → Within m s → Valid (record { atoms = m; hands = h; first = s; rows = []; effects = [] })
valid_first m h s r w = (
  (refl, λ k l. absurd (let z : ⊥ = omega arith in z)),
  (r.0, r.1, omega arith, λ k l. absurd (let z : ⊥ = omega arith in z)),
  (w, (λ k l. absurd (let z : ⊥ = omega arith in z)), λ k l. absurd (let z : ⊥ = omega arith in z)),
)

-- where each kind may stand
at_size : (p : Place) → InPlace p 1 → p ≡ Start
at_size Start i = refl
at_size Sized i = absurd (omega arith)
at_size Started (inl i) = absurd (omega arith)
at_size Started (inr i) = absurd (omega arith)
at_size Acted i = absurd (omega arith)

at_first : (p : Place) → InPlace p 2 → p ≡ Sized
at_first Start i = absurd (omega arith)
at_first Sized i = refl
at_first Started (inl i) = absurd (omega arith)
at_first Started (inr i) = absurd (omega arith)
at_first Acted i = absurd (omega arith)

pub at_effect : (p : Place) → InPlace p 4 → p ≡ Acted
at_effect Start i = absurd (omega arith)
at_effect Sized i = absurd (omega arith)
at_effect Started (inl i) = absurd (omega arith)
at_effect Started (inr i) = absurd (omega arith)
at_effect Acted i = refl

-- which kinds may stand after so many actions
pub action_after : (k : ℕ) → InPlace (place_after k) 3
action_after zero = inl refl
action_after (suc k) = (omega arith, omega arith)

pub effect_after : (k : ℕ) → 0 < k → InPlace (place_after k) 4
effect_after zero h = absurd (omega arith)
effect_after (suc k) h = (omega arith, omega arith)

pub acted_after : (k : ℕ) → 0 < k → place_after k ≡ Acted
acted_after zero h = absurd (omega arith)
acted_after (suc k) h = refl

pub end_after : (k : ℕ) → InPlace (place_after k) 5
end_after zero = inr refl
end_after (suc k) = (omega arith, omega arith)

-- after the first state
pub record Open (p : Place) (c : Contents) : Type 0 where
  pub valid : Valid c
  pub text : part_text p c ≡ open_text c

open_from : (k : ℕ) → 3 ≤ k → (p : Place) (c : Contents) → InPlace p k → SoundAt p c → Open p c
open_from k l Start c i s = absurd (omega arith)
open_from k l Sized c i s = absurd (omega arith)
open_from k l Started c i s = record { valid = s.0; text = refl }
open_from k l Acted c i s = record { valid = s.0; text = refl }

pub open_end : (d : Draft) → Sound d → InPlace d.place 5 → Open d.place d.contents
open_end d s i = open_from 5 (omega arith) d.place d.contents i s

pub open_effect : (d : Draft) → Sound d → InPlace d.place 4 → Open d.place d.contents
open_effect d s i = open_from 4 (omega arith) d.place d.contents i s

abbrev pub row_for : Contents → ℕ → ActionRow
row_for c p = record { precondition = p; first_effect = length c.effects }

-- an allowed record keeps a draft sound
pub more_sound : (d : Draft) (i : Item) → Sound d → Allowed d i → Sound (more d i)
more_sound d (size_is m h) s a = a.range
more_sound d (first_is x) s a =
    let r : SoundAt Sized d.contents = subst (λ (p : Place). SoundAt p d.contents) (at_first d.place a.place) s in
    (valid_first d.contents.atoms d.contents.hands x r a.naming, refl)
more_sound d (action_is p) s a =
    let o = open_from 3 (omega arith) d.place d.contents a.place s in
    (valid_action d.contents p o.valid a.range a.naming, omega (arith, length_push d.contents.rows (row_for d.contents p)))
more_sound d (effect_is e) s a =
    let r : SoundAt Acted d.contents = subst (λ (p : Place). SoundAt p d.contents) (at_effect d.place a.place) s in
    (valid_effect d.contents e r.0 r.1 a.range a.naming, r.1)
more_sound d end_is s a = s

-- the text of rows that have grown
open_grown : (c : Contents) (x y : List ℕ) (item : Item) → y ≡ x ++ item_text item
    → item_text (size_is c.atoms c.hands) ++ (item_text (first_is c.first) ++ y) ≡ (item_text (size_is c.atoms c.hands) ++ (item_text (first_is c.first) ++ x)) ++ item_text item
open_grown c x y item e =
    let s = item_text (size_is c.atoms c.hands) in
    let f = item_text (first_is c.first) in
    ap (λ (l : List ℕ). s ++ (f ++ l)) e ∙ ap (λ (l : List ℕ). s ++ l) (sym (append_assoc f x (item_text item))) ∙ sym (append_assoc s (f ++ x) (item_text item))

-- an allowed record is one more in the text
pub more_text : (d : Draft) (i : Item) → (item_kind i ≡ 5 → ⊥) → Sound d → Allowed d i → draft_text (more d i) ≡ draft_text d ++ item_text i
unfolding open_text actions_text
more_text d (size_is m h) n s a =
    ap (λ (p : Place). part_text p d.contents ++ item_text (size_is m h)) (sym (at_size d.place a.place))
more_text d (first_is x) n s a =
    ap (λ (l : List ℕ). item_text (size_is d.contents.atoms d.contents.hands) ++ l) (append-nil (item_text (first_is x)))
    ∙ ap (λ (p : Place). part_text p d.contents ++ item_text (first_is x)) (sym (at_first d.place a.place))
more_text d (action_is p) n s a =
    let o = open_from 3 (omega arith) d.place d.contents a.place s in
    open_grown d.contents _ _ (action_is p) (text_action d.contents.rows d.contents.effects (row_for d.contents p) refl)
    ∙ ap (λ (l : List ℕ). l ++ item_text (action_is p)) (sym o.text)
more_text d (effect_is e) n s a =
    let r : SoundAt Acted d.contents = subst (λ (p : Place). SoundAt p d.contents) (at_effect d.place a.place) s in
    open_grown d.contents _ _ (effect_is e) (text_effect d.contents.rows d.contents.effects e r.0.0 r.1)
    ∙ ap (λ (p : Place). part_text p d.contents ++ item_text (effect_is e)) (sym (at_effect d.place a.place))
more_text d end_is n s a = absurd (n refl)

pub drafted_sound : (d : Draft) → Drafted d → Sound d
drafted_sound d none = tt
drafted_sound d (then {d = e} i g n a) = more_sound e i (drafted_sound e g) a
