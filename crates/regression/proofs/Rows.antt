-- Rows for the actions of a step, filled one by one.
use Rattle.std.proofs.Common.{◌≡◌, ℕ, ◌+◌, ◌<◌, ◌≤◌, ◌⊎◌, ◌≢◌, List, Option, Some, None, MatchOption, unwrap_or, eqb, eqb→eq, T, true, false, Bool, refl, length, set, replicate, sym, ap, ◌∙◌, subst, inl, inr, arith, get_or-set_other, get_or-set_same}
use native.Mathlib.Decide.{ℕ_discrete, dec_le}
use Rattle.std.proofs.Math.Logic.{∥∥₁_elim}
use Rattle.std.specs.Coded.{Coded-set, coded_ℕ}
use Rattle.std.proofs.lemmas.List.{get_or-replicate}
use denote.Ref.{Bor}
use denote.Param.Members.{Mut}
use Rattle.std.specs.Fn.{Called}
use Rattle.std.specs.Bool.{IsTrue, then_some}
use Rattle.std.proofs.Math.Facts.{yes_eqb}
use Rattle.std.specs.Option.{option_map, IfSome, IsSome, IsSomeAnd}
use Rattle.std.specs.Iterator.Runs.{SomeRun, YieldsRefsInOrder, AllItemsGive, IsFirstToGive}
use Rattle.sets.specs.Sets.{Has, Inside}
use Rattle.problem.specs.Actions.{Action}
use Rattle.regression.specs.Doings.{Does, row_in, Tells}
use Rattle.regression.specs.declared.doing.Doing.{Doing}

no_row : (d : Doing) → None ≡ Some d → ⊥
no_row d e = subst (λ (o : Option Doing). MatchOption o (Unit {0}) (λ _. ⊥)) e tt

same_row : (a b : Doing) → Some a ≡ Some b → a ≡ b
same_row a b e = ap (λ (o : Option Doing). unwrap_or o a) e

-- the first `count` rows are those of the actions of which In holds, and the others are empty
pub record Filled (at : ℕ → Action) (lo hi : ℕ) (In : ℕ → Type 0) (count : ℕ) (rows : List (Option Doing)) : Type 0 where
  pub row : (i : ℕ) → In i → (r : ℕ) × (r < count) × ((d : Doing) × (row_in rows r ≡ Some d) × (d.action ≡ i))
  pub does : (r : ℕ) (d : Doing) → r < count → row_in rows r ≡ Some d → Does at lo hi d.action d
  pub free : (r : ℕ) → count ≤ r → r < 4 → row_in rows r ≡ None

pub filled_none : (at : ℕ → Action) (lo hi : ℕ) (In : ℕ → Type 0) → ((i : ℕ) → In i → ⊥) → Filled at lo hi In 0 (replicate 4 None)
filled_none at lo hi In n = record {
  row = λ i h. absurd (n i h);
  does = λ r d h. absurd (let z : ⊥ = omega arith in z);
  free = λ r _ h. get_or-replicate 4 r None _ h;
}

-- one action more, k
module _ (at : ℕ → Action) (lo hi : ℕ) (In In' : ℕ → Type 0) (k : ℕ) (either : (i : ℕ) → In' i → In i ⊎ (i ≡ k))
    (count : ℕ) (rows : List (Option Doing)) (room : count < length rows) (f : Filled at lo hi In count rows) where
  pub filled_more : (one : Doing) → Does at lo hi k one → Filled at lo hi In' (count + 1) (set rows count (Some one))
  filled_more one d =
      let more : List (Option Doing) = set rows count (Some one) in
      let here : row_in more count ≡ Some one = get_or-set_same rows count (Some one) _ room in
      let other : (r : ℕ) → r ≢ count → row_in more r ≡ row_in rows r = λ r n. get_or-set_other rows count r (Some one) _ n in
      record {
        row = λ i h. elim (either i h) [
          | inl x ↦ (
              let q = f.row i x in
              let n : q.0 ≢ count = λ e. let z : ⊥ = omega (arith, q.1) in z in
              (q.0, omega (arith, q.1), (q.2.0, other q.0 n ∙ q.2.1, q.2.2)))
          | inr e ↦ (count, omega arith, (one, here, d.action ∙ sym e))
        ];
        does = λ r x h e. elim (ℕ_discrete r count) [
          | yes q ↦ (
              let w : one ≡ x = same_row one x (sym here ∙ ap (row_in more) (sym q) ∙ e) in
              subst (λ (y : Doing). Does at lo hi y.action y) w (subst (λ (y : ℕ). Does at lo hi y one) (sym d.action) d))
          | no n ↦ f.does r x (omega arith) (sym (other r n) ∙ e)
        ];
        free = λ r h l.
            let n : r ≢ count = λ e. let z : ⊥ = omega arith in z in
            other r n ∙ f.free r (omega arith) l;
      }

-- and each of the first `count` rows is there
abbrev pub Full : ℕ → List (Option Doing) → Type 0
Full count rows = (r : ℕ) → r < count → (d : Doing) × (row_in rows r ≡ Some d)

pub full_none : (rows : List (Option Doing)) → Full 0 rows
full_none rows r h = absurd (let z : ⊥ = omega arith in z)

pub full_more : (count : ℕ) (rows : List (Option Doing)) (one : Doing) → count < length rows → Full count rows → Full (count + 1) (set rows count (Some one))
full_more count rows one room f r h = elim (ℕ_discrete r count) [
  | yes e ↦ (one, ap (row_in (set rows count (Some one))) e ∙ get_or-set_same rows count (Some one) _ room)
  | no n ↦ (let q = f r (omega arith) in (q.0, get_or-set_other rows count r (Some one) _ n ∙ q.1))
]

-- all the rows
pub filled_tells : (at : ℕ → Action) (step lo hi : ℕ) (In : ℕ → Type 0) (count : ℕ) (rows : List (Option Doing)) → ((i : ℕ) → Has step i → In i)
    → count ≤ 4 → Filled at lo hi In count rows → Tells at step lo hi rows
filled_tells at step lo hi In count rows all le f = record {
  row = λ i h. let q = f.row i (all i h) in (q.0, omega (arith, q.1), q.2);
  does = λ r d l e. elim (dec_le count r) [
    | yes past ↦ absurd (no_row d (sym (f.free r past l) ∙ e))
    | no below ↦ f.does r d (omega arith) e
  ];
}

-- a part of a step is told of by the same rows
pub tells_part : (at : ℕ → Action) (step part lo hi : ℕ) (rows : List (Option Doing)) → Inside part step → Tells at step lo hi rows → Tells at part lo hi rows
tells_part at step part lo hi rows sub t = record { row = λ i h. t.row i (sub i h); does = t.does }

-- the row found for an action of the step
pub found_does : (at : ℕ → Action) (step lo hi : ℕ) (rows : List (Option Doing)) (r i : ℕ) (d : Doing) → Tells at step lo hi rows → r < 4
    → row_in rows r ≡ Some d → d.action ≡ i → Does at lo hi i d
found_does at step lo hi rows r i d t l e q = subst (λ (y : ℕ). Does at lo hi y d) q (t.does r d l e)

-- a row speaks of its own action
pub does_own : (at : ℕ → Action) (lo hi i : ℕ) (r : Doing) → Does at lo hi i r → Does at lo hi r.action r
does_own at lo hi i r d = subst (λ (y : ℕ). Does at lo hi y r) (sym d.action) d

-- a number is known from the bare fact that P holds
number : {P : Type 0} {x y : ℕ} → ∥ P ∥₁ → (P → x ≡ y) → x ≡ y
number {P} {x} {y} t g = ∥∥₁_elim t (Coded-set coded_ℕ x y) g

pub never_told : {P : Type 0} → ∥ P ∥₁ → (P → ⊥) → ⊥
never_told t f = ∥∥₁_elim t (λ a b. absurd a) f

does_told : (at : ℕ → Action) (lo hi i : ℕ) (d : Doing) (P : Type 0) → ∥ P ∥₁ → (P → Does at lo hi i d) → Does at lo hi i d
does_told at lo hi i d P t f = record {
  action = number t (λ p. (f p).action);
  give_sure = number t (λ p. (f p).give_sure);
  give_may = number t (λ p. (f p).give_may);
  cut_sure = number t (λ p. (f p).cut_sure);
  cut_may = number t (λ p. (f p).cut_may);
  read_sure = number t (λ p. (f p).read_sure);
  read_may = number t (λ p. (f p).read_may);
}

-- the row's Doing, if it is that of the action i
abbrev pub Picks : ℕ → Option Doing → Option Doing → Type 0
Picks i row r = MatchOption r ((d : Doing) → row ≡ Some d → d.action ≡ i → ⊥) (λ y. (row ≡ Some y) × (y.action ≡ i))

pub by_filter : (i : ℕ) (row : Option Doing) (r : Option Doing)
    → MatchOption row (r ≡ None) (λ d. (b : Bool) × (b ≡ eqb d.action i) × (r ≡ then_some b d)) → Picks i row r
by_filter i None r h = subst (Picks i None) (sym h) (λ d e _. no_row d e)
by_filter i (Some d) r (true, q, e) = subst (Picks i (Some d)) (sym e) (refl, eqb→eq d.action i (subst T q tt))
by_filter i (Some d) r (false, q, e) =
    subst (Picks i (Some d)) (sym e) (λ y s a. subst T (sym q) (yes_eqb (ap (λ (z : Doing). z.action) (same_row d y s) ∙ a)))

-- the row of the action i, or none
abbrev pub Found : List (Option Doing) → ℕ → Option Doing → Type 0
Found rows i r = MatchOption r ((k : ℕ) (d : Doing) → k < length rows → row_in rows k ≡ Some d → d.action ≡ i → ⊥)
    (λ y. (k : ℕ) × (k < length rows) × (row_in rows k ≡ Some y) × (y.action ≡ i))

-- what `find_map` finds along the rows
module _ {F : Type 0} {g : Mut F (Bor (Option Doing) × Unit {0}) (Option Doing)} (f : F) (i : ℕ)
    (answers : (x : Bor (Option Doing)) (r : Option Doing) (q : F) → Called g f (x, tt) r q → (q ≡ f) × Picks i x.now r) where
  at_row : (o : Option (Bor (Option Doing))) (row r : Option Doing) → option_map (λ y. y.now) o ≡ Some row
      → IfSome o (λ x. Called g f (x, tt) r f) → Picks i row r
  at_row (Some x) row r e c = subst (λ (z : Option Doing). Picks i z r) (ap (λ (o : Option (Option Doing)). unwrap_or o None) e) (answers x r f c).1
  at_row None row r e c = absurd (subst (λ (o : Option (Option Doing)). MatchOption o (Unit {0}) (λ _. ⊥)) e tt)

  at_some : (o : Option (Bor (Option Doing))) (row r : Option Doing) → option_map (λ y. y.now) o ≡ Some row
      → IsSomeAnd o (λ x. Called g f (x, tt) r f) → Picks i row r
  at_some (Some x) row r e c = at_row (Some x) row r e c
  at_some None row r e c = absurd c

  pub picked : {S : Type 0} {steps : S → Option (Bor (Option Doing)) → S → Type 0} (rest : S → List (Option Doing)) (s : S) (rows : List (Option Doing))
      → rest s ≡ rows → YieldsRefsInOrder steps rest → (r : Option Doing)
      → SomeRun steps s (λ p. MatchOption r (IsTrue p.whole × AllItemsGive p g f None)
      (λ y. (k : ℕ) × (k < p.len) × (p.len ≡ k + 1) × IsFirstToGive p g f (Some y) None k))
      → Found rows i r
  picked rest s rows is maps None h =
      λ k d lt.
      let m = maps h.0 h.0.seen in
      let e : rest h.0.from ≡ rows = ap rest h.1 ∙ is in
      let w : Picks i (row_in (rest h.0.from) k) None =
      at_row (h.0.at k) _ None (m.2 k None (omega (arith, m.1 h.2.0, lt, ap length e))) (h.2.1 (λ a r q c. (answers a.0 r q c).0) k) in
      subst (λ (l : List (Option Doing)). Picks i (row_in l k) None) e w d
  picked rest s rows is maps (Some y) h =
      let m = maps h.0 h.0.seen in
      let e : rest h.0.from ≡ rows = ap rest h.1 ∙ is in
      let k : ℕ = h.2.0 in
      let w : Picks i (row_in (rest h.0.from) k) (Some y) =
      at_some (h.0.at k) _ (Some y) (m.2 k None h.2.1) (h.2.3 (λ a r q c. (answers a.0 r q c).0)).0 in
      let z : Picks i (row_in rows k) (Some y) = subst (λ (l : List (Option Doing)). Picks i (row_in l k) (Some y)) e w in
      (k, omega (arith, h.2.1, m.0, ap length e), z.0, z.1)

-- an action of the step has its row
pub found_some : (at : ℕ → Action) (step lo hi : ℕ) (rows : List (Option Doing)) (i : ℕ) → length rows ≡ 4 → ∥ Tells at step lo hi rows ∥₁ → Has step i
    → (r : Option Doing) → Found rows i r → IsSome r
found_some at step lo hi rows i four t m None f = absurd (never_told t (λ t. let r = t.row i m in f r.0 r.2.0 (omega (arith, r.1, four)) r.2.1 r.2.2))
found_some at step lo hi rows i four t m (Some y) f = refl

pub found_tells : (at : ℕ → Action) (step lo hi : ℕ) (rows : List (Option Doing)) (i : ℕ) → length rows ≡ 4 → ∥ Tells at step lo hi rows ∥₁
    → (r : Option Doing) (d : Doing) → r ≡ Some d → Found rows i r → Does at lo hi i d
found_tells at step lo hi rows i four t r d e f =
    let g : Found rows i (Some d) = subst (Found rows i) e f in
    does_told at lo hi i d _ t (λ t. found_does at step lo hi rows g.0 i d t (omega (arith, g.1, four)) g.2 g.3)
