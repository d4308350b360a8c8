-- The union of sets, one for each member of a set, as one more is put in.
use Rattle.std.proofs.Common.{◌≡◌, ℕ, ◌⊎◌, sym, subst, inl, inr}
use lib.Bits.{bit_or}
use Rattle.sets.specs.Sets.{Has, Inside}
use Rattle.regression.specs.Spans.{Union, UnionBy}
use Rattle.sets.proofs.Parts.{or_left, or_right, or_either}
use Rattle.regression.proofs.Masks.{nothing, none_in, so}

-- r is the union of sets of which P holds, one for each number of which In holds
pub record Gathered (P : ℕ → ℕ → Type 0) (In : ℕ → Type 0) (r : ℕ) : Type 0 where
  pub from : (k : ℕ) → Has r k → (j : ℕ) × In j × ((s : ℕ) × P j s × Has s k)
  pub into : (j : ℕ) → In j → (s : ℕ) × P j s × Inside s r

pub gathered_none : {P : ℕ → ℕ → Type 0} {In : ℕ → Type 0} → ((j : ℕ) → In j → ⊥) → Gathered P In 0
gathered_none n = record { from = λ k h. absurd (nothing k h); into = λ j h. absurd (n j h) }

module _ {P : ℕ → ℕ → Type 0} {In In' : ℕ → Type 0} {i : ℕ} (more : (j : ℕ) → In j → In' j) (now : In' i)
    (either : (j : ℕ) → In' j → In j ⊎ (j ≡ i)) where
  pub gathered_more : {all one : ℕ} → Gathered P In all → P i one → Gathered P In' (bit_or all one)
  gathered_more {all} {one} u p = record {
    from = λ k h. elim (or_either all one k h) [
      | inl x ↦ (let r = u.from k x in (r.0, more r.0 r.1, r.2))
      | inr x ↦ (i, now, (one, p, x))
    ];
    into = λ j hj. elim (either j hj) [
      | inl x ↦ (let r = u.into j x in (r.0, r.1, λ k h. or_left all one k (r.2 k h)))
      | inr e ↦ (one, subst (λ (y : ℕ). P y one) (sym e) p, λ k h. or_right all one k h)
    ];
  }

pub gathered_all : {P : ℕ → ℕ → Type 0} {In : ℕ → Type 0} {set r : ℕ} → ((j : ℕ) → In j → Has set j) → ((j : ℕ) → Has set j → In j)
    → Gathered P In r → UnionBy P set r
gathered_all f g u = record {
  from = λ k h. let x = u.from k h in (x.0, f x.0 x.1, x.2);
  into = λ j h. u.into j (g j h);
}

-- where P says which set it is
pub union_is : {P : ℕ → ℕ → Type 0} {set r : ℕ} (f : ℕ → ℕ) → UnionBy P set r → ((j s : ℕ) → Has set j → P j s → s ≡ f j) → Union f set r
union_is f u is = record {
  from = λ k h. let x = u.from k h in (x.0, x.1, so _ _ k (is x.0 x.2.0 x.1 x.2.1) x.2.2);
  into = λ j h k m. let x = u.into j h in x.2 k (so _ _ k (sym (is j x.0 h x.1)) m);
}

-- the union of the sets that f has
abbrev pub GatheredOf : (ℕ → ℕ) → (ℕ → Type 0) → ℕ → Type 0
GatheredOf f In r = Gathered (λ j s. s ≡ f j) In r

pub gathered_union : {f : ℕ → ℕ} {In : ℕ → Type 0} {set r : ℕ} → ((j : ℕ) → In j → Has set j) → ((j : ℕ) → Has set j → In j)
    → GatheredOf f In r → Union f set r
gathered_union {f} a b u = union_is f (gathered_all a b u) (λ j s _ e. e)

pub union_none : (f : ℕ → ℕ) (step r : ℕ) → Union f step r → r ≡ 0 → (j : ℕ) → Has step j → f j ≡ 0
union_none f step r u e j h = none_in (f j) (λ k x. nothing k (so _ _ k e (u.into j h k x)))
