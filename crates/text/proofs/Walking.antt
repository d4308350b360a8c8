-- The first pass over a text, which only counts.
use Rattle.std.proofs.Common.{◌≡◌, ℕ, ◌+◌, ◌<◌, ◌≤◌, List, [], ◌∷◌, ◌++◌, length, sym, refl, subst, inl, inr, arith}
use Rattle.std.proofs.lemmas.List.{length_push}
use Rattle.problem.specs.Rows.{Placed}
use Rattle.problem.specs.declared.rows.ActionRow.{ActionRow}
use Rattle.problem.specs.declared.rows.EffectRow.{EffectRow}
use Rattle.text.specs.Texts.{Item, action_is, effect_is, end_is, item_kind, item_text, contents}
use Rattle.text.specs.Readings.{InPlace, InRange, Naming, Draft, draft, latest, Reading, Outcome, whole, faulty, Reads, ends}
use Rattle.text.specs.Counting.{counted}
use Rattle.text.specs.declared.place.Place.TheVariants.{Started}
use Rattle.text.specs.declared.checker.Tally.{Tally}
use Rattle.text.proofs.Drafts.{row_for, placed_action, placed_effect, latest_action, latest_effect}
use Rattle.text.specs.Misfits.{Misses, fault_of}
use Rattle.text.specs.declared.fits.Misfit.{Misfit}
use Rattle.text.proofs.Decoding.{goes_on, misfit_reads}

module _ (text : List ℕ) (m h s : ℕ) where
  -- rows that the counts are of, and that what is read from here on is read from the first state on
  pub record Walk (at : ℕ) (t : Tally) : Type 0 where
    pub rows : List ActionRow
    pub effects : List EffectRow
    pub actions : t.actions ≡ length rows
    pub effects_of : t.latest ≡ latest (contents m h s rows effects)
    pub placed : Placed rows (length effects)
    pub rowed : (k : ℕ) → InPlace t.place k → 3 ≤ k
    pub some : InPlace t.place 4 → 0 < length rows
    pub on : (o : Outcome) → Reads text at (draft t.place (contents m h s rows effects)) o → Reads text 12 (draft Started (contents m h s [] [])) o

  pub walk_start : Walk 12 (record { place = Started; actions = 0; latest = 0 })
  walk_start = record {
    rows = [];
    effects = [];
    actions = refl;
    effects_of = refl;
    placed = (refl, λ k l. absurd (let z : ⊥ = omega arith in z));
    rowed = λ k i. elim i [ inl e ↦ omega arith | inr e ↦ omega arith ];
    some = λ i. elim i [ inl e ↦ absurd (let z : ⊥ = omega arith in z) | inr e ↦ absurd (let z : ⊥ = omega arith in z) ];
    on = λ o r. r;
  }

  -- the draft that a walk has come to
  abbrev pub come : (at : ℕ) (t : Tally) → Walk at t → Draft
  come at t w = draft t.place (contents m h s w.rows w.effects)

  -- one action more
  pub walk_action : (at n : ℕ) (t : Tally) (p : ℕ) → Walk at t → InPlace t.place 3 → Reading text at (action_is p) → InRange t.actions t.latest (action_is p) → Naming m (action_is p)
      → at + length (item_text (action_is p)) ≡ n → Walk n (counted t (action_is p))
  walk_action at n t p w i r range naming e =
      let c = contents m h s w.rows w.effects in
      record {
        rows = w.rows ++ (row_for c p ∷ []);
        effects = w.effects;
        actions = omega (arith, w.actions, length_push w.rows (row_for c p));
        effects_of = sym (latest_action c p);
        placed = placed_action c p w.placed;
        rowed = λ k j. j.0;
        some = λ j. omega (arith, length_push w.rows (row_for c p));
        on = λ o rest. w.on o (goes_on text at n (come at t w) (action_is p) r (λ (z : 3 ≡ 5). omega arith) (record { place = i; range = omega (arith, w.actions); naming = naming }) e o rest);
      }

  -- one effect more
  pub walk_effect : (at n : ℕ) (t : Tally) (x : EffectRow) → Walk at t → InPlace t.place 4 → Reading text at (effect_is x) → InRange t.actions t.latest (effect_is x) → Naming m (effect_is x)
      → at + length (item_text (effect_is x)) ≡ n → Walk n (counted t (effect_is x))
  walk_effect at n t x w i r range naming e =
      let c = contents m h s w.rows w.effects in
      record {
        rows = w.rows;
        effects = w.effects ++ (x ∷ []);
        actions = w.actions;
        effects_of = omega (arith, w.effects_of, latest_effect c x w.placed (w.some i));
        placed = placed_effect c x w.placed (w.some i);
        rowed = λ k j. j.0;
        some = λ j. w.some i;
        on = λ o rest. w.on o (goes_on text at n (come at t w) (effect_is x) r (λ (z : 4 ≡ 5). omega arith) (record { place = i; range = omega (arith, w.effects_of); naming = naming }) e o rest);
      }

  -- a record that does not fit ends it
  pub walk_misfit : (at : ℕ) (t : Tally) (i : Item) → Walk at t → Reading text at i → InPlace t.place (item_kind i) → (k : Misfit) → Misses t.actions t.latest m i k
      → Reads text 12 (draft Started (contents m h s [] [])) (faulty (fault_of k at))
  walk_misfit at t i w r p k e =
      w.on (faulty (fault_of k at)) (misfit_reads text at (come at t w) i r p k
      (subst (λ (a : ℕ). Misses a (latest (contents m h s w.rows w.effects)) m i k) w.actions
      (subst (λ (a : ℕ). Misses t.actions a m i k) w.effects_of e)))

  -- and so does the end record
  pub walk_end : (at n : ℕ) (t : Tally) (w : Walk at t) → Reading text at end_is → InPlace t.place 5 → at + 1 ≡ n
      → Reads text 12 (draft Started (contents m h s [] [])) (whole (contents m h s w.rows w.effects) n)
  walk_end at n t w r p e = w.on _ (subst (λ (x : ℕ). Reads text at (come at t w) (whole (contents m h s w.rows w.effects) x)) e (ends r p))
