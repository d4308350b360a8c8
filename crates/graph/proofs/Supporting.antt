-- The atoms that an action supports, effect by effect.
use Rattle.std.proofs.Common.{◌≡◌, ℕ, zero, suc, ◌+◌, ◌<◌, ◌≤◌, ◌⊎◌, List, [], ◌∷◌, length, drop, sym, refl, ap, subst, inl, inr, le_of_suc-le-suc, arith}
use mathlib.Core.Path.{transport}
use lib.Bits.{bit_or}
use Rattle.std.proofs.lemmas.List.{drop_more, drop_all}
use Rattle.sets.specs.Sets.{Has, Apart, Marks}
use Rattle.problem.specs.Rows.{effect_at}
use Rattle.sets.proofs.Members.{not_in_none}
use Rattle.problem.specs.Actions.{Among}
use Rattle.problem.specs.Firm.{Task}
use Rattle.problem.specs.declared.rows.EffectRow.{EffectRow}
use Rattle.graph.specs.Levels.{Level, action, Together, Supports}
use Rattle.sets.proofs.Parts.{or_left, or_right, or_either}

-- a set is together where it lies in the facts and meets no row of its members
module _ (l : Level) (set barred : ℕ) (m : Marks barred (λ g. (k : ℕ) × Has set k × l.exclusive k g)) where
  pub apart_together : ((f : ℕ) → Has set f → l.fact f) → Apart barred set → Together l set
  apart_together sub apart = record { facts = sub; free = λ f g hf hg x. apart g (m.all g (f, hf, x)) hg }

  pub together_apart : Together l set → Apart barred set
  together_apart h g b hg = let r = m.only g b in h.free r.0 g r.1 hg r.2

among_at : (es : List EffectRow) (i : ℕ) → i < length es → Among (effect_at es i) es
among_at [] i h = absurd (let z : ⊥ = omega arith in z)
among_at (e ∷ es) zero h = inl refl
among_at (e ∷ es) (suc i) h = inr (among_at es i (le_of_suc-le-suc h))

among_more : (es : List EffectRow) (i : ℕ) (e : EffectRow) → i < length es → Among e (drop i es) → (e ≡ effect_at es i) ⊎ Among e (drop (i + 1) es)
among_more es i e h a = transport (ap (Among e) (drop_more es i _ h)) a

pub among_none : (es : List EffectRow) (i : ℕ) (e : EffectRow) → length es ≤ i → Among e (drop i es) → ⊥
among_none es i e h a = transport (ap (Among e) (drop_all i es h)) a

-- the union of the parts of those of the first i effects of which Q holds
pub record Counted (Q : EffectRow → Type 0) (part : EffectRow → ℕ) (es : List EffectRow) (i all : ℕ) : Type 0 where
  pub only : (f : ℕ) → Has all f → (e : EffectRow) × Among e es × Has (part e) f × Q e
  pub each : (e : EffectRow) (f : ℕ) → Among e es → Has (part e) f → Q e → Has all f ⊎ Among e (drop i es)

module _ (Q : EffectRow → Type 0) (part : EffectRow → ℕ) (es : List EffectRow) (i all : ℕ) (lt : i < length es) (so_far : Counted Q part es i all) where
  -- one effect more, of which Q holds
  pub counted_more : (more : ℕ) → more ≡ bit_or all (part (effect_at es i)) → Q (effect_at es i) → Counted Q part es (i + 1) more
  counted_more more p q = record {
    only = λ f h. elim (or_either all (part (effect_at es i)) f (subst (λ (x : ℕ). Has x f) p h)) [
      | inl a ↦ so_far.only f a
      | inr a ↦ (effect_at es i, among_at es i lt, a, q)
    ];
    each = λ e f a m qe.
        let back : Has (bit_or all (part (effect_at es i))) f → Has more f = subst (λ (x : ℕ). Has x f) (sym p) in
        elim (so_far.each e f a m qe) [
          | inl b ↦ inl (back (or_left all (part (effect_at es i)) f b))
          | inr b ↦ elim (among_more es i e lt b) [
            | inl c ↦ inl (back (or_right all (part (effect_at es i)) f (subst (λ x. Has (part x) f) c m)))
            | inr c ↦ inr c
          ]
        ];
  }

  -- one effect more, of which Q does not hold
  pub counted_same : (more : ℕ) → more ≡ all → (Q (effect_at es i) → ⊥) → Counted Q part es (i + 1) more
  counted_same more p n = record {
    only = λ f h. so_far.only f (subst (λ (x : ℕ). Has x f) p h);
    each = λ e f a m q. elim (so_far.each e f a m q) [
      | inl b ↦ inl (subst (λ (x : ℕ). Has x f) (sym p) b)
      | inr b ↦ elim (among_more es i e lt b) [ inl c ↦ absurd (n (subst Q c q)) | inr c ↦ inr c ]
    ];
  }

pub counted_none : (Q : EffectRow → Type 0) (part : EffectRow → ℕ) (es : List EffectRow) → Counted Q part es 0 0
counted_none Q part es = record { only = λ f h. absurd (not_in_none 0 f refl h); each = λ e f a m q. inr a }

left_of_or : (A B : Type 0) → (B → ⊥) → A ⊎ B → A
left_of_or A B n (inl a) = a
left_of_or A B n (inr b) = absurd (n b)

-- all of them
pub counted_all : (Q : EffectRow → Type 0) (part : EffectRow → ℕ) (es : List EffectRow) (i all : ℕ) → length es ≤ i → Counted Q part es i all
    → Marks all (λ f. (e : EffectRow) × Among e es × Has (part e) f × Q e)
counted_all Q part es i all le c = record {
  only = c.only;
  all = λ f h. left_of_or _ _ (among_none es i h.0 le) (c.each h.0 f h.1 h.2 h.3);
}

-- what an action supports
pub supported : (t : Task) (l : Level) (k pre : ℕ) (es : List EffectRow) (all : ℕ) → ((e : EffectRow) → Among e es → k < t.count) → pre ≡ (t.at k).precondition → es ≡ (t.at k).effects
    → Marks all (λ f. (e : EffectRow) × Among e es × Has e.add f × Together l (bit_or pre e.condition)) → Marks all (Supports t l (action k))
supported t l k pre es all lt p q m = record {
  only = λ f h.
      let r = m.only f h in
      (lt r.0 r.1, (r.0, subst (Among r.0) q r.1, r.2, subst (λ (x : ℕ). Together l (bit_or x r.0.condition)) p r.3));
  all = λ f s. m.all f (s.1.0, subst (Among s.1.0) (sym q) s.1.1, s.1.2, subst (λ (x : ℕ). Together l (bit_or x s.1.0.condition)) (sym p) s.1.3);
}
