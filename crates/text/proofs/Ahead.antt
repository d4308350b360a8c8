-- The second pass over a text that is known to hold a whole problem.
use Rattle.std.proofs.Common.{◌≡◌, ℕ, zero, suc, ◌+◌, ◌-◌, ◌*◌, ◌<◌, ◌≤◌, Bool, cond, ltb, ◌⊎◌, List, [], ◌∷◌, ◌++◌, length, sym, refl, ap, ◌∙◌, subst, inl, inr, add-one, arith}
use native.Mathlib.Decide.{dec_le}
use Rattle.std.proofs.lemmas.List.{length_push}
use Rattle.problem.specs.Rows.{begins}
use Rattle.problem.specs.declared.rows.ActionRow.{ActionRow}
use Rattle.problem.specs.declared.rows.EffectRow.{EffectRow}
use Rattle.text.specs.Texts.{Item, action_is, effect_is, end_is, item_kind, item_text, Contents, contents, Valid}
use Rattle.text.specs.Readings.{InPlace, Draft, draft, more, latest, Reading, Allowed, whole, Reads, ends, goes}
use Rattle.text.specs.declared.place.Place.{Place}
use Rattle.text.specs.declared.place.Place.TheVariants.{Acted}
use Rattle.sets.specs.Lists.{count_of, room_of, taken}
use Rattle.sets.specs.declared.filled.Filled.{Filled}
use Rattle.text.specs.Filling.{Refilled}
use Rattle.text.proofs.Pushing.{Kept, taken_push, taken_long, refilled}
use Rattle.text.proofs.Items.{one_item, kind_between}
use Rattle.text.proofs.Drafts.{SoundAt, row_for, more_sound, latest_is, open_effect}

module _ (text : List ℕ) where
  -- the reading of a whole problem ends at a record, or goes on behind it
  Onward : Contents → ℕ → ℕ → Draft → Item → Type 0
  Onward c n at d i = ((i ≡ end_is) × (d.contents ≡ c)) ⊎ ((item_kind i ≡ 5 → ⊥) × Allowed d i × Reads text (at + length (item_text i)) (more d i) (whole c n))

  onward : (at : ℕ) (d : Draft) (c : Contents) (n : ℕ) → Reads text at d (whole c n) → (i : Item) × Reading text at i × Onward c n at d i
  unfolding Onward
  onward at d c n (ends r p) = (end_is, r, inl (refl, refl))
  onward at d c n (goes {i = i} r k a rest) = (i, r, inr (k, a, rest))

  -- behind a record that stands and is no end
  pub onward_past : (c : Contents) (n at : ℕ) (d : Draft) (j : Item) → Reads text at d (whole c n) → Reading text at j → (item_kind j ≡ 5 → ⊥) → Allowed d j × Reads text (at + length (item_text j)) (more d j) (whole c n)
  unfolding Onward
  onward_past c n at d j r q k = go (onward at d c n r)
    where
      go : (i : Item) × Reading text at i × Onward c n at d i → Allowed d j × Reads text (at + length (item_text j)) (more d j) (whole c n)
      go (i, s, inl e) = absurd (k (ap item_kind (one_item text at j i q s ∙ e.0)))
      go (i, s, inr e) = subst (λ (x : Item). Allowed d x × Reads text (at + length (item_text x)) (more d x) (whole c n)) (one_item text at i j s q) (e.1, e.2)

  -- no action and no effect stands at an offset
  abbrev pub Halted : ℕ → Type 0
  Halted at = (i : Item) → Reading text at i → (3 ≤ item_kind i) → (item_kind i ≤ 4) → ⊥

  pub onward_halt : (c : Contents) (n at : ℕ) (d : Draft) → Reads text at d (whole c n) → ((k : ℕ) → InPlace d.place k → 3 ≤ k) → Halted at → d.contents ≡ c
  unfolding Onward
  onward_halt c n at d r rowed h = go (onward at d c n r)
    where
      go : (i : Item) × Reading text at i × Onward c n at d i → d.contents ≡ c
      go (i, s, inl e) = e.1
      go (i, s, inr e) =
          let low = rowed (item_kind i) e.1.place in
          let high = kind_between i in
          absurd (elim (dec_le (item_kind i) 4) [ yes l ↦ h i s low l | no l ↦ e.0 (omega arith) ])

-- so many effects at most
begins_few : (c : Contents) → Valid c → (k : ℕ) → k ≤ length c.rows → begins c.rows (length c.effects) k ≤ 8 * k
begins_few c v zero h = omega (arith, v.0.0)
begins_few c v (suc k) h =
    let e = ap (begins c.rows (length c.effects)) (add-one k) in
    omega (arith, begins_few c v k (omega arith), v.1.3 k (omega arith))

pub effects_few : (c : Contents) → Valid c → 0 < length c.rows → latest c < 8 → length c.effects < 512
effects_few c v some few =
    let k = length c.rows - 1 in
    omega (arith, latest_is c k v (omega arith), begins_few c v k (omega arith), v.1.2)

module _ (text : List ℕ) (m h s : ℕ) where
  -- what was taken so far, and that the reading goes on from here to the whole problem
  pub record Along (c : Contents) (n at : ℕ) (rows : List ActionRow) (effects : List EffectRow) : Type 0 where
    pub place : Place
    pub sound : SoundAt place (contents m h s rows effects)
    pub rowed : (k : ℕ) → InPlace place k → 3 ≤ k
    pub some : InPlace place 4 → 0 < length rows
    pub reads : Reads text at (draft place (contents m h s rows effects)) (whole c n)

  pub along_action : (c : Contents) (n at next p : ℕ) (rows : List ActionRow) (effects : List EffectRow) → Along c n at rows effects → Reading text at (action_is p) → at + length (item_text (action_is p)) ≡ next
      → (length rows < 64) × Along c n next (rows ++ (row_for (contents m h s rows effects) p ∷ [])) effects
  along_action c n at next p rows effects a r e =
      let d = draft a.place (contents m h s rows effects) in
      let o = onward_past text c n at d (action_is p) a.reads r (λ (z : 3 ≡ 5). omega arith) in (
        o.0.range,
        record {
          place = Acted;
          sound = more_sound d (action_is p) a.sound o.0;
          rowed = λ k j. j.0;
          some = λ j. omega (arith, length_push rows (row_for (contents m h s rows effects) p));
          reads = subst (λ (x : ℕ). Reads text x (more d (action_is p)) (whole c n)) e o.1;
        },
      )

  pub along_effect : (c : Contents) (n at next : ℕ) (x : EffectRow) (rows : List ActionRow) (effects : List EffectRow) → Along c n at rows effects → Reading text at (effect_is x) → at + length (item_text (effect_is x)) ≡ next
      → (length effects < 512) × Along c n next rows (effects ++ (x ∷ []))
  along_effect c n at next x rows effects a r e =
      let d = draft a.place (contents m h s rows effects) in
      let o = onward_past text c n at d (effect_is x) a.reads r (λ (z : 4 ≡ 5). omega arith) in
      let t = more_sound d (effect_is x) a.sound o.0 in
      let v : Valid (contents m h s rows effects) = (open_effect d a.sound o.0.place).valid in (
        effects_few (contents m h s rows effects) v (a.some o.0.place) o.0.range,
        record {
          place = Acted;
          sound = t;
          rowed = λ k j. j.0;
          some = λ j. a.some o.0.place;
          reads = subst (λ (y : ℕ). Reads text y (more d (effect_is x)) (whole c n)) e o.1;
        },
      )

  -- the row of an action that is pushed
  pub push_action : (c : Contents) (n at next p j : ℕ) (a f g : Filled ActionRow) (b e : Filled EffectRow) (r : Bool) → Along c n at (taken f) (taken e) → Kept a f → Kept b e → 64 ≤ room_of a
      → Reading text at (action_is p) × (at + length (item_text (action_is p)) ≡ next) → j ≡ count_of e → r ≡ ltb (count_of f) (room_of f)
      → taken g ≡ cond r (taken f ++ (record { precondition = p; first_effect = j } ∷ [])) (taken f) → Along c n next (taken g) (taken e)
  push_action c n at next p j a f g b e r w k l room i z took new =
      let o = along_action c n at next p (taken f) (taken e) w i.0 i.1 in
      let t = taken_push f g (record { precondition = p; first_effect = j }) r took new (omega (arith, taken_long a f k, k.room)) in
      let y : j ≡ length (taken e) = z ∙ sym (taken_long b e l) in
      subst (λ (x : List ActionRow). Along c n next x (taken e)) (sym (t ∙ ap (λ (x : ℕ). taken f ++ (record { precondition = p; first_effect = x } ∷ [])) y)) o.1

  -- the row of an effect that is pushed
  pub push_effect : (c : Contents) (n at next : ℕ) (x : EffectRow) (f : Filled ActionRow) (b e g : Filled EffectRow) (r : Bool) → Along c n at (taken f) (taken e) → Kept b e → 512 ≤ room_of b
      → Reading text at (effect_is x) × (at + length (item_text (effect_is x)) ≡ next) → r ≡ ltb (count_of e) (room_of e)
      → taken g ≡ cond r (taken e ++ (x ∷ [])) (taken e) → Along c n next (taken f) (taken g)
  push_effect c n at next x f b e g r w l room i took new =
      let o = along_effect c n at next x (taken f) (taken e) w i.0 i.1 in
      let t = taken_push e g x r took new (omega (arith, taken_long b e l, l.room)) in
      subst (λ (y : List EffectRow). Along c n next (taken f) y) (sym t) o.1

  -- nothing more to take: the lists hold the rows of the problem
  pub all_taken : (n at : ℕ) (rows : List ActionRow) (effects : List EffectRow) (a f : Filled ActionRow) (b e : Filled EffectRow) → Along (contents m h s rows effects) n at (taken f) (taken e) → Kept a f → Kept b e
      → Halted text at → Refilled a f rows × Refilled b e effects
  all_taken n at rows effects a f b e w k l halted =
      let q = onward_halt text (contents m h s rows effects) n at (draft w.place (contents m h s (taken f) (taken e))) w.reads w.rowed halted in
      (refilled a f rows k (ap (λ (c : Contents). c.rows) q), refilled b e effects l (ap (λ (c : Contents). c.effects) q))
