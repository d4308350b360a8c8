-- What effects do in the states between two masks, and what is open of their conditions.
use Rattle.std.proofs.Common.{◌≡◌, ℕ, Bool, true, false, cond, T, eqb, ◌⊎◌, List, sym, refl, subst, inl, inr, eqb→eq}
use lib.Bits.{bit_and, bit_or}
use Rattle.std.proofs.lemmas.Bool.{ne_eqb}
use Rattle.sets.specs.Sets.{Has, Inside, minus}
use Rattle.sets.proofs.Bits.{has?}
use Rattle.sets.proofs.Members.{not_in_none}
use Rattle.problem.specs.Actions.{Action, Among, gather, adds, deletes, fires, cuts}
use Rattle.problem.specs.declared.rows.EffectRow.{EffectRow}
use Rattle.problem.proofs.Effects.{fires_inside, inside_fires, gather_from, gather_has}
use Rattle.regression.specs.Spans.{conditions, reads, sure_gives, may_give, wanted}
use Rattle.sets.proofs.Parts.{or_left, or_right, or_either, and_both, and_left, and_right}
use Rattle.regression.proofs.Masks.{nothing, minus_has, minus_from, minus_not, some_in}

pub cond_zero : (x a b : ℕ) → x ≡ 0 → cond (eqb x 0) a b ≡ a
cond_zero x a b e = rw e refl

pub cond_other : (x a b : ℕ) → (x ≡ 0 → ⊥) → cond (eqb x 0) a b ≡ b
cond_other x a b n = rw (ne_eqb x 0 n) refl

-- ---- more fires in a larger state

pub fires_more : (s t : ℕ) (e : EffectRow) → Inside s t → T (fires s e) → T (fires t e)
fires_more s t e sub f = inside_fires t e (λ k h. sub k (fires_inside s e f k h))

pub gather_mono : (mask : EffectRow → ℕ) (s t : ℕ) (es : List EffectRow) → Inside s t → Inside (gather mask s es) (gather mask t es)
gather_mono mask s t es sub k h =
    let r = gather_from mask s k es h in gather_has mask t k es r.0 r.1 (fires_more s t r.0 sub r.2) r.3

-- ---- what is open

-- the atoms by which an effect is asked about
pub touch : ℕ → ℕ → ℕ → EffectRow → ℕ
touch a d c e = bit_or (bit_or (bit_and e.add a) (bit_and e.delete d)) (bit_and e.condition c)

opened : (x m k : ℕ) (b : Bool) → eqb x 0 ≡ b → Has (cond b 0 m) k → Has m k × (x ≡ 0 → ⊥)
opened x m k true q h = absurd (nothing k h)
opened x m k false q h = (h, λ e. subst T q (subst (λ (y : ℕ). T (eqb y 0)) (sym e) tt))

closed : (x m k k' : ℕ) (b : Bool) → eqb x 0 ≡ b → Has x k' → Has m k → Has (cond b 0 m) k
closed x m k k' true q h i = absurd (not_in_none x k' (eqb→eq x 0 (subst T (sym q) tt)) h)
closed x m k k' false q h i = i

module _ (lo hi a d c : ℕ) (es : List EffectRow) where
  -- an open atom is in hi and not in lo, and stands in the condition of an effect that is asked about
  pub open_in_hi : (k : ℕ) → Has (gather (wanted lo a d c) hi es) k
      → Has hi k × (Has lo k → ⊥) × ((e : EffectRow) × Among e es × Has e.condition k × ((x : ℕ) × Has (touch a d c e) x))
  unfolding touch
  open_in_hi k h =
      let r = gather_from (wanted lo a d c) hi k es h in
      let e : EffectRow = r.0 in
      let m = opened (touch a d c e) (minus e.condition lo) k (eqb (touch a d c e) 0) refl r.3 in (
        fires_inside hi e r.2 k (minus_from e.condition lo k m.0),
        minus_not e.condition lo k m.0,
        (e, r.1, minus_from e.condition lo k m.0, some_in (touch a d c e) m.1),
      )

  module _ (none : gather (wanted lo a d c) hi es ≡ 0) where
    settled : (e : EffectRow) (k : ℕ) → Among e es → T (fires hi e) → Has (touch a d c e) k → T (fires lo e)
    unfolding touch
    settled e k i f h = inside_fires lo e (λ x hx. elim (has? lo x) [
      | yes y ↦ y
      | no n ↦ absurd (not_in_none (gather (wanted lo a d c) hi es) x none
          (gather_has (wanted lo a d c) hi x es e i f
          (closed (touch a d c e) (minus e.condition lo) x k (eqb (touch a d c e) 0) refl h (minus_has e.condition lo x hx n))))
    ])

    pub settled_adds : (k : ℕ) → Has a k → Has (adds hi es) k → Has (adds lo es) k
    unfolding touch
    settled_adds k w h =
        let r = gather_from (λ e. e.add) hi k es h in
        gather_has (λ e. e.add) lo k es r.0 r.1
        (settled r.0 k r.1 r.2 (or_left _ _ k (or_left _ _ k (and_both _ _ k r.3 w)))) r.3

    pub settled_cuts : (k : ℕ) → Has d k → Has (deletes hi es) k → Has (deletes lo es) k
    unfolding touch
    settled_cuts k w h =
        let r = gather_from (λ e. e.delete) hi k es h in
        gather_has (λ e. e.delete) lo k es r.0 r.1
        (settled r.0 k r.1 r.2 (or_left _ _ k (or_right _ _ k (and_both _ _ k r.3 w)))) r.3

    pub settled_reads : (k : ℕ) → Has c k → Has (conditions hi es) k → Has (conditions lo es) k
    unfolding touch
    settled_reads k w h =
        let r = gather_from (λ e. e.condition) hi k es h in
        gather_has (λ e. e.condition) lo k es r.0 r.1
        (settled r.0 k r.1 r.2 (or_right _ _ k (and_both _ _ k r.3 w))) r.3

-- how an effect is touched
pub touched : (a d c : ℕ) (e : EffectRow) (x : ℕ) → Has (touch a d c e) x
    → (Has e.add x × Has a x) ⊎ ((Has e.delete x × Has d x) ⊎ (Has e.condition x × Has c x))
unfolding touch
touched a d c e x h = elim (or_either (bit_or (bit_and e.add a) (bit_and e.delete d)) (bit_and e.condition c) x h) [
  | inr r ↦ inr (inr (and_left e.condition c x r, and_right e.condition c x r))
  | inl l ↦ elim (or_either (bit_and e.add a) (bit_and e.delete d) x l) [
    | inl m ↦ inl (and_left e.add a x m, and_right e.add a x m)
    | inr m ↦ inr (inl (and_left e.delete d x m, and_right e.delete d x m))
  ]
]

-- ---- an action, as the masks draw together

module _ (at : ℕ → Action) (lo hi lo' hi' : ℕ) (up : Inside lo lo') (down : Inside hi' hi) (i : ℕ) where
  pub cuts_up : Inside (cuts at lo i) (cuts at lo' i)
  cuts_up = gather_mono (λ e. e.delete) lo lo' (at i).effects up

  pub cuts_down : Inside (cuts at hi' i) (cuts at hi i)
  cuts_down = gather_mono (λ e. e.delete) hi' hi (at i).effects down

  pub gives_up : Inside (sure_gives at lo hi i) (sure_gives at lo' hi' i)
  gives_up k h =
      minus_has (adds lo' (at i).effects) (deletes hi' (at i).effects) k
      (gather_mono (λ e. e.add) lo lo' (at i).effects up k (minus_from _ _ k h)) (λ c. minus_not _ _ k h (cuts_down k c))

  pub gives_down : Inside (may_give at lo' hi' i) (may_give at lo hi i)
  gives_down k h =
      minus_has (adds hi (at i).effects) (deletes lo (at i).effects) k
      (gather_mono (λ e. e.add) hi' hi (at i).effects down k (minus_from _ _ k h)) (λ c. minus_not _ _ k h (cuts_up k c))

  pub reads_up : Inside (reads at lo i) (reads at lo' i)
  reads_up k h = elim (or_either _ _ k h) [
    | inl x ↦ or_left _ _ k x
    | inr x ↦ or_right _ _ k (gather_mono (λ e. e.condition) lo lo' (at i).effects up k x)
  ]

  pub reads_down : Inside (reads at hi' i) (reads at hi i)
  reads_down k h = elim (or_either _ _ k h) [
    | inl x ↦ or_left _ _ k x
    | inr x ↦ or_right _ _ k (gather_mono (λ e. e.condition) hi' hi (at i).effects down k x)
  ]

-- where nothing of w is open
pub gives_settled : (at : ℕ → Action) (lo hi w c i : ℕ) → gather (wanted lo w w c) hi (at i).effects ≡ 0
    → (k : ℕ) → Has w k → Has (may_give at lo hi i) k → Has (sure_gives at lo hi i) k
gives_settled at lo hi w c i none k h m =
    minus_has (adds lo (at i).effects) (deletes hi (at i).effects) k
    (settled_adds lo hi w w c (at i).effects none k h (minus_from _ _ k m))
    (λ x. minus_not _ _ k m (settled_cuts lo hi w w c (at i).effects none k h x))
