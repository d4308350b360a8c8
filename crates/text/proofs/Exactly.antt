-- A whole problem is read exactly from its text.
use Rattle.std.proofs.Common.{◌≡◌, ℕ, zero, suc, ◌+◌, ◌-◌, ◌^◌, ◌<◌, ◌≤◌, List, [], ◌∷◌, ◌++◌, length, take, sym, refl, ap, ◌∙◌, subst, add-one, arith, pow_mono}
use lib.Bits.{bit_or}
use Rattle.std.proofs.lemmas.List.{length-append, length-take-le, take_all, take_more, get_or-take}
use Rattle.sets.specs.Sets.{Within}
use Rattle.sets.proofs.Bits.{bit_of_or, bit_digit}
use Rattle.sets.proofs.Members.{within_below}
use Rattle.problem.specs.Rows.{row_at, effect_at, begins, names_of}
use Rattle.problem.specs.declared.rows.ActionRow.{ActionRow}
use Rattle.problem.specs.declared.rows.EffectRow.{EffectRow}
use Rattle.problem.proofs.Placing.{begins_past, begins_up, begins_le}
use Rattle.text.specs.Bytes.{Stand}
use Rattle.text.specs.Texts.{Item, size_is, first_is, action_is, effect_is, end_is, item_kind, item_text, Fitting, Contents, Valid, open_text, problem_text, Begins}
use Rattle.text.specs.Readings.{Draft, nothing, more, latest, place_after, part_text, draft_text, Allowed, Outcome, whole, faulty, Reads, missing, strange, misplaced, torn, outside, unnamed, ends, goes}
use Rattle.text.specs.declared.place.Place.{Place}
use Rattle.text.specs.declared.place.Place.TheVariants.{Sized, Started, Acted}
use Rattle.text.proofs.Standing.{stand_inside, take_stand, stand_front}
use Rattle.text.proofs.Growing.{begins_in}
use Rattle.text.proofs.Drafts.{Sound, more_sound, more_text, open_end, latest_is, action_after, end_after}

module _ (text : List ℕ) where
  -- what is read is a problem, and the bytes that it took are its text
  abbrev pub Exact : Outcome → Type 0
  Exact (whole c n) = Valid c × Begins text n c
  Exact (faulty e) = Unit {0}

  pub exact_from : (at : ℕ) (d : Draft) (o : Outcome) → Sound d → take at text ≡ draft_text d → Reads text at d o → Exact o
  exact_from at d o s t (missing h) = tt
  exact_from at d o s t (strange h) = tt
  exact_from at d o s t (misplaced l k n) = tt
  exact_from at d o s t (torn p h) = tt
  exact_from at d o s t (outside r p n) = tt
  exact_from at d o s t (unnamed r p q n) = tt
  exact_from at d o s t (ends r p) =
      let inside = stand_inside text at (item_text end_is) r.bytes (omega arith) in
      let o = open_end d s p in
      (o.valid, (omega arith, take_stand text at (item_text end_is) r.bytes inside ∙ ap (λ (l : List ℕ). l ++ item_text end_is) (t ∙ o.text)))
  exact_from at d o s t (goes {i = i} r n a rest) =
      let inside = stand_inside text at (item_text i) r.bytes (omega arith) in
      exact_from (at + length (item_text i)) (more d i) o (more_sound d i s a)
      (take_stand text at (item_text i) r.bytes inside ∙ ap (λ (l : List ℕ). l ++ item_text i) t ∙ sym (more_text d i n s a)) rest

  pub exact : (o : Outcome) → Reads text 0 nothing o → Exact o
  exact o r = exact_from 0 nothing o tt refl r

-- sets of a problem fit eight bytes
fit_within : (m s : ℕ) → m ≤ 64 → Within m s → s < 2 ^ 64
fit_within m s h w = omega (arith, within_below m s w, pow_mono h)

within_left : (m a b : ℕ) → Within m (bit_or a b) → Within m a
within_left m a b w k h = w k (omega (arith, bit_of_or a b k, bit_digit a k, bit_digit b k, h))

within_right : (m a b : ℕ) → Within m (bit_or a b) → Within m b
within_right m a b w k h = w k (omega (arith, bit_of_or a b k, bit_digit a k, bit_digit b k, h))

fit_effect : (m : ℕ) (e : EffectRow) → m ≤ 64 → Within m (names_of e) → Fitting (effect_is e)
fit_effect m e h w =
    let l = within_left m (bit_or e.condition e.add) e.delete w in (
      fit_within m e.condition h (within_left m e.condition e.add l),
      fit_within m e.add h (within_right m e.condition e.add l),
      fit_within m e.delete h (within_right m (bit_or e.condition e.add) e.delete w),
    )

module _ (text : List ℕ) (c : Contents) (v : Valid c) (n : ℕ) (b : Begins text n c) where
  E : ℕ
  E = length c.effects

  from : ℕ → ℕ
  from k = begins c.rows (length c.effects) k

  -- the text so far stands at the start, and the reading goes on from there to the whole problem
  record Ready (d : Draft) : Type 0 where
    stands : Stand text 0 (draft_text d)
    reads : Reads text (length (draft_text d)) d (whole c n)

  Good : Draft → Type 0
  Good d = Sound d → Ready d

  back : (d : Draft) (i : Item) → (item_kind i ≡ 5 → ⊥) → Fitting i → (Sound d → Allowed d i) → Good (more d i) → Good d
  unfolding Good
  back d i k f a g s =
      let r = g (more_sound d i s (a s)) in
      let t = more_text d i k s (a s) in
      let p = stand_front text (draft_text d) (item_text i) (subst (Stand text 0) t r.stands) in
      let m : length (draft_text (more d i)) ≡ length (draft_text d) + length (item_text i) = ap length t ∙ length-append (draft_text d) (item_text i) in
      record {
        stands = p.0;
        reads = goes (record { fitting = f; bytes = p.1 }) k (a s) (subst (λ (j : ℕ). Reads text j (more d i) (whole c n)) m r.reads);
      }

  -- the first so many actions and effects
  part : Place → ℕ → ℕ → Draft
  part p k j = record { place = p; contents = record { atoms = c.atoms; hands = c.hands; first = c.first; rows = take k c.rows; effects = take j c.effects } }

  Below : ℕ → ℕ → Type 0
  Below k j = (k ≤ length c.rows) × (j ≤ length c.effects)

  part_long : (p : Place) (k j : ℕ) → k ≤ length c.rows → length (part p k j).contents.rows ≡ k
  unfolding part
  part_long p k j h = length-take-le k c.rows h

  part_effects : (p : Place) (k j : ℕ) → j ≤ length c.effects → length (part p k j).contents.effects ≡ j
  unfolding part
  part_effects p k j h = length-take-le j c.effects h

  -- one effect more
  more_effect : (k j : ℕ) → j < length c.effects → more (part Acted k j) (effect_is (effect_at c.effects j)) ≡ part Acted k (suc j)
  unfolding part
  more_effect k j h =
      let e : take j c.effects ++ (effect_at c.effects j ∷ []) ≡ take (suc j) c.effects = sym (take_more c.effects j _ h) ∙ ap (λ (i : ℕ). take i c.effects) (add-one j) in
      ap (λ (l : List EffectRow). record { place = Acted; contents = record { atoms = c.atoms; hands = c.hands; first = c.first; rows = take k c.rows; effects = l } }) e

  from_up : (k : ℕ) → from k ≤ from (suc k)
  unfolding from
  from_up k = subst (λ (i : ℕ). from k ≤ from i) (add-one k) (begins_up c.rows (length c.effects) v.0 k)

  from_few : (k : ℕ) → k < length c.rows → from (suc k) ≤ from k + 8
  unfolding from
  from_few k h = subst (λ (i : ℕ). from i ≤ from k + 8) (add-one k) (v.1.3 k h)

  from_le : (k : ℕ) → from k ≤ length c.effects
  unfolding from
  from_le k = begins_le c.rows (length c.effects) v.0 k

  from_all : from (length c.rows) ≡ length c.effects
  unfolding from
  from_all = begins_past c.rows (length c.effects) (length c.rows) (omega arith)

  from_none : from 0 ≡ 0
  unfolding from
  from_none = v.0.0

  -- one action more
  more_action : (p : Place) (k : ℕ) → k < length c.rows → more (part p k (from k)) (action_is (row_at c.rows k).precondition) ≡ part Acted (suc k) (from k)
  unfolding part from
  more_action p k h =
      let f : length (take (from k) c.effects) ≡ (row_at c.rows k).first_effect = length-take-le (from k) c.effects (from_le k) ∙ begins_in c.rows (length c.effects) k h in
      let e : take k c.rows ++ (record { precondition = (row_at c.rows k).precondition; first_effect = length (take (from k) c.effects) } ∷ []) ≡ take (suc k) c.rows =
      ap (λ (x : ℕ). take k c.rows ++ (record { precondition = (row_at c.rows k).precondition; first_effect = x } ∷ [])) f
      ∙ sym (take_more c.rows k _ h) ∙ ap (λ (i : ℕ). take i c.rows) (add-one k) in
      ap (λ (l : List ActionRow). record { place = Acted; contents = record { atoms = c.atoms; hands = c.hands; first = c.first; rows = l; effects = take (from k) c.effects } }) e

  -- how many effects the latest action has so far
  part_latest : (k j : ℕ) → k < length c.rows → j ≤ length c.effects → Sound (part Acted (suc k) j) → latest (part Acted (suc k) j).contents + from k ≡ j
  unfolding part from
  part_latest k j h l s =
      let m = length-take-le (suc k) c.rows h in
      let i = length-take-le j c.effects l in
      let x : begins (take (suc k) c.rows) (length (take j c.effects)) k ≡ from k =
      begins_in (take (suc k) c.rows) (length (take j c.effects)) k (omega arith)
      ∙ ap (λ (r : ActionRow). r.first_effect) (get_or-take (suc k) c.rows k _ (omega arith))
      ∙ sym (begins_in c.rows (length c.effects) k h) in
      omega (arith, latest_is (part Acted (suc k) j).contents k s.0 (omega arith))

  good_effect : (k j : ℕ) → k < length c.rows → from k ≤ j → j < from (suc k) → Good (part Acted (suc k) (suc j)) → Good (part Acted (suc k) j)
  unfolding part
  good_effect k j h l u g =
      let inside : j < length c.effects = omega (arith, from_le (suc k)) in
      back (part Acted (suc k) j) (effect_is (effect_at c.effects j)) (λ (e : 4 ≡ 5). omega arith)
      (fit_effect c.atoms (effect_at c.effects j) v.1.0.1 (v.2.2 j inside))
      (λ s. record {
        place = (omega arith, omega arith);
        range = omega (arith, part_latest k j h (omega arith) s, from_few k h);
        naming = v.2.2 j inside;
      })
      (subst Good (sym (more_effect (suc k) j inside)) g)

  good_effects : (m k j : ℕ) → k < length c.rows → from k ≤ j → j + m ≡ from (suc k) → Good (part Acted (suc k) (from (suc k))) → Good (part Acted (suc k) j)
  good_effects zero k j h l e g = let i : from (suc k) ≡ j = omega arith in subst (λ (x : ℕ). Good (part Acted (suc k) x)) i g
  good_effects (suc m) k j h l e g = good_effect k j h l (omega arith) (good_effects m k (suc j) h (omega arith) (omega arith) g)

  good_action : (k : ℕ) → k < length c.rows → Good (part Acted (suc k) (from k)) → Good (part (place_after k) k (from k))
  unfolding part
  good_action k h g =
      let m : length (take k c.rows) ≡ k = length-take-le k c.rows (omega arith) in
      back (part (place_after k) k (from k)) (action_is (row_at c.rows k).precondition) (λ (e : 3 ≡ 5). omega arith)
      (fit_within c.atoms (row_at c.rows k).precondition v.1.0.1 (v.2.1 k h))
      (λ s. record { place = action_after k; range = omega (arith, v.1.2); naming = v.2.1 k h })
      (subst Good (sym (more_action (place_after k) k h)) g)

  after_open : (k : ℕ) → part_text (place_after k) c ≡ open_text c
  after_open zero = refl
  after_open (suc k) = refl

  part_all : (p : Place) → part p (length c.rows) (from (length c.rows)) ≡ record { place = p; contents = c }
  unfolding part
  part_all p =
      let r : take (length c.rows) c.rows ≡ c.rows = take_all (length c.rows) c.rows (omega arith) in
      let e : take (from (length c.rows)) c.effects ≡ c.effects = take_all (from (length c.rows)) c.effects (omega (arith, from_all)) in
      rw (r, e) refl

  good_end : Good (part (place_after (length c.rows)) (length c.rows) (from (length c.rows)))
  unfolding Good
  good_end s = subst Ready (sym (part_all (place_after (length c.rows))))
      (let p = place_after (length c.rows) in
      let o : part_text p c ≡ open_text c = after_open (length c.rows) in
      let size : length (problem_text c) ≡ n = sym (ap length b.1) ∙ length-take-le n text b.0 in
      let stand : Stand text 0 (open_text c ++ item_text end_is) = ap (λ (i : ℕ). take i text) size ∙ b.1 in
      let f = stand_front text (open_text c) (item_text end_is) stand in
      let last : length (open_text c) + 1 ≡ n = sym (length-append (open_text c) (item_text end_is)) ∙ size in
      record {
        stands = subst (Stand text 0) (sym o) f.0;
        reads = subst (λ (l : List ℕ). Reads text (length l) (record { place = p; contents = c }) (whole c n)) (sym o)
            (subst (λ (i : ℕ). Reads text (length (open_text c)) (record { place = p; contents = c }) (whole c i)) last
            (ends (record { fitting = tt; bytes = f.1 }) (end_after (length c.rows))));
      })

  good_down : (m k : ℕ) → k + m ≡ length c.rows → Good (part (place_after k) k (from k))
  good_down zero k e = let i : length c.rows ≡ k = omega arith in subst (λ (x : ℕ). Good (part (place_after x) x (from x))) i good_end
  good_down (suc m) k e =
      let h : k < length c.rows = omega arith in
      good_action k h (good_effects (from (suc k) - from k) k (from k) h (omega arith) (omega (arith, from_up k)) (good_down m (suc k) (omega arith)))

  pub reads_begun : Reads text 0 nothing (whole c n)
  unfolding Good part
  reads_begun =
      let sized : Draft = record { place = Sized; contents = record { atoms = c.atoms; hands = c.hands; first = 0; rows = []; effects = [] } } in
      let g0 : Good (more sized (first_is c.first)) = subst (λ (x : ℕ). Good (part Started 0 x)) from_none (good_down (length c.rows) 0 (omega arith)) in
      let g1 : Good sized = back sized (first_is c.first) (λ (e : 2 ≡ 5). omega arith)
      (fit_within c.atoms c.first v.1.0.1 v.2.0)
      (λ s. record { place = refl; range = tt; naming = v.2.0 }) g0 in
      let g2 : Good nothing = back nothing (size_is c.atoms c.hands) (λ (e : 1 ≡ 5). omega arith)
      (omega (arith, v.1.0.1), omega (arith, v.1.1.1))
      (λ s. record { place = refl; range = (v.1.0, v.1.1); naming = tt }) g1 in
      (g2 tt).reads
