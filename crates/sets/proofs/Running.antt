-- What `any` finds along the members of a set.
use Rattle.std.proofs.Common.{◌≡◌, ℕ, Bool, true, false, List, [], ◌∷◌, Option, Some, None, MatchOption, ◌⊎◌, sym, ◌∙◌, subst, inl, inr, Decides}
use native.Mathlib.Decide.{ℕ_discrete}
use denote.Param.Members.{Mut}
use Rattle.std.specs.Fn.{Called}
use Rattle.std.specs.List.{FoldsTo}
use Rattle.std.specs.Iterator.{Yields, YieldsThen, CallableAtEachTurn}
use Rattle.sets.specs.Sets.{Has, Inside, Takes}
use Rattle.sets.specs.declared.rising.Rising.{Rising}
use Rattle.sets.proofs.Members.{not_in_none}
use Rattle.sets.proofs.Walking.{left_in, others_left}
use Rattle.std.proofs.lemmas.Bool.{false≢true}

abbrev pub gives : Rising → Option ℕ → Rising → Type 0
gives s r t = Takes s.left r t.left

left_within : (xs : List ℕ) (s t : Rising) → Yields gives s xs t → Inside t.left s.left
left_within [] s t y k h = subst (λ (z : Rising). Has z.left k) (sym y) h
left_within (x ∷ xs) s t y k h = left_in s.left x y.0.left y.1 k (left_within xs y.0 t y.2 k h)

unmoved : {P A : Type 0} (R : P → A → P → Type 0) (p : P) → ((x : A) (q : P) → R p x q → q ≡ p) → (xs : List A) (q : P) → FoldsTo R p xs q → q ≡ p
unmoved R p stays [] q f = sym f
unmoved R p stays (x ∷ xs) q f = unmoved R p stays xs q (subst (λ (z : _). FoldsTo R z xs q) (stays x f.0 f.1) f.2)

-- a closure that may be called at each member may be called at each turn
pub serves_members : {P : Type 0} {R : P → ℕ → P → Type 0} {Q : P → ℕ → Type 0} {s : Rising} {p : P}
    → ((x : ℕ) (q : P) → R p x q → q ≡ p) → ((x : ℕ) → Has s.left x → Q p x) → CallableAtEachTurn gives R Q s p
serves_members {P} {R} {Q} {s} {p} stays h = record {
  at = λ xs t q x u y c e.
      subst (λ (z : P). Q z x) (sym (unmoved R p stays xs q c)) (h x (left_within xs s t y x e.0.member));
}

module _ {F : Type 0} {g : Mut F (ℕ × Unit {0}) Bool} (f : F) (No : ℕ → Type 0) (no' : (x : ℕ) (q : F) → Called g f (x, tt) false q → (q ≡ f) × No x) where
  passed : (xs : List ℕ) (s t : Rising) (j : F) → Yields gives s xs t → FoldsTo (λ p x q. Called g p (x, tt) false q) f xs j
      → (k : ℕ) → Has s.left k → Has t.left k ⊎ No k
  passed [] s t j y c k h = inl (subst (λ (z : Rising). Has z.left k) y h)
  passed (x ∷ xs) s t j y c k h = elim (ℕ_discrete k x) [
    | yes e ↦ inr (subst No (sym e) (no' x c.0 c.1).1)
    | no n ↦ passed xs y.0 t j y.2 (subst (λ (z : F). FoldsTo (λ p x q. Called g p (x, tt) false q) z xs j) (no' x c.0 c.1).0 c.2) k
        (others_left s.left x y.0.left y.1 k h n)
  ]

  -- `any` is true just where a member passes
  pub any_member : (s u : Rising) (r : Bool) (Yes : ℕ → Type 0)
      → (xs : List ℕ) × (o : Option ℕ) × (j : F) × YieldsThen gives s xs o u × FoldsTo (λ p x q. Called g p (x, tt) false q) f xs j
      × MatchOption o (r ≡ false) (λ x. (r ≡ true) × ((h : F) × Called g j (x, tt) true h))
      → ((x : ℕ) (q : F) → Called g f (x, tt) true q → Yes x)
      → ((k : ℕ) → No k → Yes k → ⊥)
      → Decides r ((k : ℕ) × Has s.left k × Yes k)
  any_member s u r Yes (xs, None, j, y, c, m) yes' apart = (
    (λ e. absurd (false≢true (sym m ∙ e))),
    (λ x. absurd (elim (passed xs s y.0 j y.1 c x.0 x.1) [ inl h ↦ not_in_none _ x.0 y.2.0 h | inr n ↦ apart x.0 n x.2 ])),
  )
  any_member s u r Yes (xs, Some x, j, y, c, m) yes' apart = (
    (λ _. (
      x,
      left_within xs s y.0 y.1 x y.2.0.member,
      yes' x m.1.0 (subst (λ (z : F). Called g z (x, tt) true m.1.0) (unmoved _ f (λ x q k. (no' x q k).0) xs j c) m.1.1),
    )),
    (λ _. m.0),
  )
