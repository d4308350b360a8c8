-- Every text has one reading, and a whole problem is read exactly from its text.
use Rattle.std.proofs.Common.{◌≡◌, ℕ, zero, suc, ◌+◌, ◌^◌, ◌<◌, ◌≤◌, ◌⊎◌, List, length, get_or, take, drop, sym, refl, ap, ◌∙◌, subst, inl, inr, arith}
use native.Mathlib.Decide.{dec_le, ℕ_discrete}
use Rattle.std.specs.Int.Digits.{AllBelowBase}
use Rattle.sets.specs.Sets.{Within}
use Rattle.sets.proofs.Members.{below_within, within_below}
use Rattle.problem.specs.Rows.{names_of}
use Rattle.text.specs.Records.{Known, Strange, body_length}
use Rattle.text.specs.Texts.{Item, size_is, first_is, action_is, effect_is, end_is, item_kind, item_body, item_text}
use Rattle.text.specs.Readings.{InPlace, InRange, Naming, Draft, more, latest, Reading, Outcome, whole, faulty, Reads, missing, strange, misplaced, torn, outside, unnamed, ends, goes}
use Rattle.text.specs.declared.fault.RecordFault.TheVariants.{Cut, Unknown}
use Rattle.text.specs.declared.fault.ProblemFault.TheVariants.{Record as InRecord, NoEnd, Place as Misplaced, Range, Atom}
use Rattle.text.specs.declared.place.Place.{Place}
use Rattle.text.specs.declared.place.Place.TheVariants.{Start, Sized, Started, Acted}
use Rattle.text.proofs.Standing.{record_stand, first_stands, body_stands}
use Rattle.text.proofs.Items.{item_in, item_back, item_there, body_long, kind_between, item_inside}

-- tests
place? : (p : Place) (k : ℕ) → Dec (InPlace p k)
place? Start k = ℕ_discrete k 1
place? Sized k = ℕ_discrete k 2
place? Started k = elim (ℕ_discrete k 3) [ yes e ↦ yes (inl e) | no n ↦ elim (ℕ_discrete k 5) [ yes e ↦ yes (inr e) | no m ↦ no (λ x. elim x [ inl e ↦ n e | inr e ↦ m e ]) ] ]
place? Acted k = elim (dec_le 3 k) [ yes l ↦ elim (dec_le k 5) [ yes h ↦ yes (l, h) | no n ↦ no (λ x. n x.1) ] | no n ↦ no (λ x. n x.0) ]

within? : (m s : ℕ) → Dec (Within m s)
within? m s = elim (dec_le (suc s) (2 ^ m)) [ yes l ↦ yes (below_within m s l) | no n ↦ no (λ w. n (within_below m s w)) ]

both? : {A B : Type 0} → Dec A → Dec B → Dec (A × B)
both? (yes a) (yes b) = yes (a, b)
both? (yes a) (no n) = no (λ x. n x.1)
both? (no n) b = no (λ x. n x.0)

range? : (actions latest : ℕ) (i : Item) → Dec (InRange actions latest i)
range? actions latest (size_is m h) = both? (both? (dec_le 1 m) (dec_le m 64)) (both? (dec_le 1 h) (dec_le h 4))
range? actions latest (first_is s) = yes tt
range? actions latest (action_is p) = dec_le (suc actions) 64
range? actions latest (effect_is e) = dec_le (suc latest) 8
range? actions latest end_is = yes tt

naming? : (m : ℕ) (i : Item) → Dec (Naming m i)
naming? m (size_is n h) = yes tt
naming? m (first_is s) = within? m s
naming? m (action_is p) = within? m p
naming? m (effect_is e) = within? m (names_of e)
naming? m end_is = yes tt

known? : (k : ℕ) → Dec (Known k)
known? k = both? (dec_le 1 k) (dec_le k 6)

pick : {P A : Type 0} → Dec P → A → A → A
pick (yes p) x y = x
pick (no n) x y = y

pick_yes : {P A : Type 0} (t : Dec P) (x y : A) → P → pick t x y ≡ x
unfolding pick
pick_yes (yes p) x y q = refl
pick_yes (no n) x y q = absurd (n q)

pick_no : {P A : Type 0} (t : Dec P) (x y : A) → (P → ⊥) → pick t x y ≡ y
unfolding pick
pick_no (yes p) x y n = absurd (n p)
pick_no (no n) x y m = refl

-- a kind in place is one of a problem's records
pub place_between : (p : Place) (k : ℕ) → InPlace p k → (1 ≤ k) × (k ≤ 5)
place_between Start k i = (omega arith, omega arith)
place_between Sized k i = (omega arith, omega arith)
place_between Started k (inl i) = (omega arith, omega arith)
place_between Started k (inr i) = (omega arith, omega arith)
place_between Acted k i = (omega arith, omega arith)

end_only : (i : Item) → item_kind i ≡ 5 → i ≡ end_is
end_only (size_is m h) e = absurd (omega arith)
end_only (first_is s) e = absurd (omega arith)
end_only (action_is p) e = absurd (omega arith)
end_only (effect_is r) e = absurd (omega arith)
end_only end_is e = refl

-- what one turn of the reading comes to: its outcome, or an offset and a draft to go on from
data Turn : Type 0 where
  done : Outcome → Turn
  on : ℕ → Draft → Turn

module _ (text : List ℕ) where
  item_at : ℕ → Item
  item_at at = item_in (get_or text at 0) (take (body_length (get_or text at 0)) (drop (at + 1) text))

  -- what stands at an offset is what its bytes say
  item_at_read : (at : ℕ) (i : Item) → Reading text at i → i ≡ item_at at
  unfolding item_at
  item_at_read at i r =
      let k : get_or text at 0 ≡ item_kind i = first_stands text at (item_kind i) (item_body i) r.bytes in
      let n : body_length (get_or text at 0) ≡ length (item_body i) = ap body_length k ∙ sym (body_long i) in
      let b : take (body_length (get_or text at 0)) (drop (at + 1) text) ≡ item_body i = ap (λ (j : ℕ). take j (drop (at + 1) text)) n ∙ body_stands text at (item_kind i) (item_body i) r.bytes in
      sym (ap (item_in (get_or text at 0)) b ∙ ap (λ (j : ℕ). item_in j (item_body i)) k ∙ item_back i r.fitting)

  judged : ℕ → Draft → Item → Turn
  judged at d i =
      pick (range? (length d.contents.rows) (latest d.contents) i)
      (pick (naming? d.contents.atoms i)
      (pick (ℕ_discrete (item_kind i) 5) (done (whole d.contents (at + 1))) (on (at + length (item_text i)) (more d i)))
      (done (faulty (Atom at))))
      (done (faulty (Range at)))

  turn : ℕ → Draft → Turn
  turn at d =
      pick (dec_le (length text) at) (done (faulty (NoEnd (length text))))
      (pick (known? (get_or text at 0))
      (pick (place? d.place (get_or text at 0))
      (pick (dec_le (at + 1 + body_length (get_or text at 0)) (length text)) (judged at d (item_at at)) (done (faulty (InRecord (Cut at)))))
      (done (faulty (Misplaced at))))
      (done (faulty (InRecord (Unknown at)))))

  -- what the turn is, given what stands
  turn_past : (at : ℕ) (d : Draft) → length text ≤ at → turn at d ≡ done (faulty (NoEnd (length text)))
  unfolding turn
  turn_past at d h = pick_yes _ _ _ h

  turn_strange : (at : ℕ) (d : Draft) → Strange text at → turn at d ≡ done (faulty (InRecord (Unknown at)))
  unfolding turn
  turn_strange at d s = pick_no _ _ _ (λ (h : length text ≤ at). omega arith) ∙ pick_no _ _ _ s.1

  turn_known : (at : ℕ) (d : Draft) → at < length text → Known (get_or text at 0) → turn at d ≡
      pick (place? d.place (get_or text at 0))
      (pick (dec_le (at + 1 + body_length (get_or text at 0)) (length text)) (judged at d (item_at at)) (done (faulty (InRecord (Cut at)))))
      (done (faulty (Misplaced at)))
  unfolding turn
  turn_known at d l k = pick_no _ _ _ (λ (h : length text ≤ at). omega arith) ∙ pick_yes _ _ _ k

  turn_item : (at : ℕ) (d : Draft) (i : Item) → Reading text at i → InPlace d.place (item_kind i) → turn at d ≡ judged at d i
  turn_item at d i r p =
      let k : get_or text at 0 ≡ item_kind i = first_stands text at (item_kind i) (item_body i) r.bytes in
      let inside = item_inside text at i r in
      let b = kind_between i in
      turn_known at d (omega arith) (omega arith, omega arith)
      ∙ pick_yes _ _ _ (subst (InPlace d.place) (sym k) p)
      ∙ pick_yes _ _ _ inside
      ∙ ap (judged at d) (sym (item_at_read at i r))

  -- a reading that is over, or that goes on
  Next : ℕ → Draft → Outcome → Type 0
  Next at d o = (turn at d ≡ done o) ⊎ ((n : ℕ) × (e : Draft) × (at < n) × (turn at d ≡ on n e) × Reads text n e o)

  next : (at : ℕ) (d : Draft) (o : Outcome) → Reads text at d o → Next at d o
  unfolding Next judged
  next at d o (missing h) = inl (turn_past at d h)
  next at d o (strange s) = inl (turn_strange at d s)
  next at d o (misplaced l k n) = inl (turn_known at d l k ∙ pick_no _ _ _ n)
  next at d o (torn p t) = inl (turn_known at d t.0 t.1 ∙ pick_yes _ _ _ p ∙ pick_no _ _ _ (λ (h : at + 1 + body_length (get_or text at 0) ≤ length text). omega arith))
  next at d o (outside {i = i} r p n) = inl (turn_item at d i r p ∙ pick_no _ _ _ n)
  next at d o (unnamed {i = i} r p q n) = inl (turn_item at d i r p ∙ pick_yes _ _ _ q ∙ pick_no _ _ _ n)
  next at d o (ends r p) = inl (turn_item at d end_is r p ∙ pick_yes _ _ _ tt ∙ pick_yes _ _ _ tt ∙ pick_yes _ _ _ refl)
  next at d o (goes {i = i} r n a rest) =
      inr (at + length (item_text i), more d i, omega arith, turn_item at d i r a.place ∙ pick_yes _ _ _ a.range ∙ pick_yes _ _ _ a.naming ∙ pick_no _ _ _ n, rest)

  done_once : (at : ℕ) (d : Draft) (o p : Outcome) → turn at d ≡ done o → Next at d p → o ≡ p
  unfolding Next
  done_once at d o p e (inl f) = cc
  done_once at d o p e (inr f) = let g : turn at d ≡ on f.0 f.1 = f.3 in let z : ◌≡◌ {A = ℕ} 0 1 = cc in absurd (omega arith)

  once_step : (at : ℕ) (d : Draft) (o p : Outcome) → ((n : ℕ) (e : Draft) → at < n → Reads text n e o → Reads text n e p → o ≡ p) → Next at d o → Next at d p → o ≡ p
  unfolding Next
  once_step at d o p later (inl e) y = done_once at d o p e y
  once_step at d o p later (inr e) (inl g) = sym (done_once at d p o g (inr e))
  once_step at d o p later (inr e) (inr g) =
      let a : turn at d ≡ on e.0 e.1 = e.3 in
      let b : turn at d ≡ on g.0 g.1 = g.3 in
      let n : g.0 ≡ e.0 = cc in
      let x : g.1 ≡ e.1 = cc in
      later e.0 e.1 e.2 e.4 (subst (λ (j : ℕ). Reads text j e.1 p) n (subst (λ (y : Draft). Reads text g.0 y p) x g.4))

  once_within : (f at : ℕ) (d : Draft) (o p : Outcome) → length text ≤ at + f → Reads text at d o → Reads text at d p → o ≡ p
  once_within zero at d o p h r s =
      let e = turn_past at d (omega arith) in
      sym (done_once at d _ o e (next at d o r)) ∙ done_once at d _ p e (next at d p s)
  once_within (suc f) at d o p h r s = once_step at d o p (λ n e l a b. once_within f n e o p (omega arith) a b) (next at d o r) (next at d p s)

  -- a text is read in one way
  pub reads_once : (at : ℕ) (d : Draft) (o p : Outcome) → Reads text at d o → Reads text at d p → o ≡ p
  reads_once at d o p r s = once_within (length text) at d o p (omega arith) r s

  -- and it is read in some way
  Some : ℕ → Draft → Type 0
  Some at d = (o : Outcome) × Reads text at d o

  Later : ℕ → Type 0
  Later at = (n : ℕ) (e : Draft) → at < n → Some n e

  some_item : (at : ℕ) (d : Draft) (i : Item) → Reading text at i → InPlace d.place (item_kind i) → Later at → Some at d
  unfolding Some Later
  some_item at d i r p later = elim (range? (length d.contents.rows) (latest d.contents) i) [
    | no n ↦ (faulty (Range at), outside r p n)
    | yes q ↦ elim (naming? d.contents.atoms i) [
      | no n ↦ (faulty (Atom at), unnamed r p q n)
      | yes m ↦ elim (ℕ_discrete (item_kind i) 5) [
        | yes e ↦ (whole d.contents (at + 1), ends (subst (Reading text at) (end_only i e) r) (subst (InPlace d.place) e p))
        | no n ↦
            let rest = later (at + length (item_text i)) (more d i) (omega arith) in
            (rest.0, goes r n (record { place = p; range = q; naming = m }) rest.1)
      ]
    ]
  ]

  module _ (u : AllBelowBase 256 text) where
    some_body : (at : ℕ) (d : Draft) → at < length text → Known (get_or text at 0) → InPlace d.place (get_or text at 0) → Later at → Some at d
    unfolding Some item_at
    some_body at d l k p later = elim (dec_le (at + 1 + body_length (get_or text at 0)) (length text)) [
      | no n ↦ (faulty (InRecord (Cut at)), torn p (l, k, omega arith))
      | yes h ↦
          let b = take (body_length (get_or text at 0)) (drop (at + 1) text) in
          let s = record_stand text at (get_or text at 0) (body_length (get_or text at 0)) b h refl refl in
          let l = place_between d.place _ p in
          let i = item_there text at (get_or text at 0) b u s.1 l.0 l.1 s.0 in
          some_item at d (item_at at) i.0 (subst (InPlace d.place) (sym i.1) p) later
    ]

    some_step : (at : ℕ) (d : Draft) → Later at → Some at d
    unfolding Some
    some_step at d later = elim (dec_le (length text) at) [
      | yes h ↦ (faulty (NoEnd (length text)), missing h)
      | no l ↦ elim (known? (get_or text at 0)) [
        | no n ↦ (faulty (InRecord (Unknown at)), strange (omega arith, n))
        | yes k ↦ elim (place? d.place (get_or text at 0)) [
          | no n ↦ (faulty (Misplaced at), misplaced (omega arith) k n)
          | yes p ↦ some_body at d (omega arith) k p later
        ]
      ]
    ]

    some_within : (f at : ℕ) (d : Draft) → length text ≤ at + f → Some at d
    unfolding Some Later
    some_within zero at d h = (faulty (NoEnd (length text)), missing (omega arith))
    some_within (suc f) at d h = some_step at d (λ n e l. some_within f n e (omega arith))

    pub reads_some : (at : ℕ) (d : Draft) → (o : Outcome) × Reads text at d o
    unfolding Some
    reads_some at d = some_within (length text) at d (omega arith)
