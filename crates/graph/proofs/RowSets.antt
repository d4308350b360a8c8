-- Sets, and rows of sets, member by member.
use Rattle.std.proofs.Common.{◌≡◌, ℕ, zero, suc, ◌+◌, ◌-◌, ◌^◌, ◌<◌, ◌≤◌, Bool, not, ◌⊎◌, List, length, map, set, get_or, replicate, Decides, sym, refl, ap, ◌∙◌, subst, inl, inr, arith}
use native.Mathlib.Decide.{ℕ_discrete, dec_le}
use denote.Param.Members.{Mut, Called}
use lib.Bits.{bit_and, bit_or, and_le_r}
use lib.Count.{count_trailing_zeros}
use Rattle.std.specs.Array.{IsFromFnResult, IsFromFnResultFrom, IsMapOf, MapsFrom}
use Rattle.std.proofs.lemmas.List.{get_or_past, get_or-set_same, get_or-set_other, get_or-map, length-map, same_lists}
use Rattle.std.proofs.lemmas.Bool.Decides.{Decides-like, Decides-not}
use Rattle.sets.specs.Sets.{bit, Has, Inside, Apart, Lowest, Marks}
use Rattle.sets.proofs.Bits.{bit_none, bit_digit, and_apart}
use Rattle.sets.proofs.Members.{low_has, low_lowest, rest_marks, has_lt, lowest_one, not_in_none}
use Rattle.sets.proofs.Parts.{or_left, or_right, or_either, and_both, and_left, and_right}
use Rattle.graph.specs.Turning.{row, Turned}
use Rattle.graph.specs.Tables.{Meet}

-- a set of one number
pub one_has : (one k : ℕ) → Marks one (λ j. (j ≡ k) × (j < 64)) → k < 64 → Has one k
one_has one k m lt = m.all k (refl, lt)

pub one_is : (one j k : ℕ) → Marks one (λ i. (i ≡ j) × (i < 64)) → Has one k → k ≡ j
one_is one j k m h = (m.only k h).0

-- the lowest of what is left, or one of the others
pub low_or_rest : (left low others k : ℕ) → Lowest left low → Marks others (λ j. Has left j × (Lowest left j → ⊥)) → Has left k → (k ≡ low) ⊎ Has others k
low_or_rest left low others k l m h = elim (ℕ_discrete k low) [
  | yes e ↦ inl e
  | no ne ↦ inr (m.all k (h, λ p. ne (lowest_one left k low p l)))
]

-- the lowest of what is left, or the others, as they are worked out
pub lowest_or_rest : (left k : ℕ) → 0 < left → left < 2 ^ 64 → Has left k → (k ≡ count_trailing_zeros 64 left) ⊎ Has (bit_and left (left - 1)) k
lowest_or_rest left k p lt h = low_or_rest left (count_trailing_zeros 64 left) (bit_and left (left - 1)) k (low_lowest left p lt) (rest_marks left p lt) h

-- one more row of the set: left is what is still to come
module _ (rows : List ℕ) (of left all : ℕ) (p : 0 < left) (lt : left < 2 ^ 64) (sub : Inside left of) where
  pub rest_in : Inside (bit_and left (left - 1)) of
  rest_in k h = sub k (and_left left (left - 1) k h)

  pub union_only : ((g : ℕ) → Has all g → (k : ℕ) × Has of k × Has (row rows k) g)
      → (g : ℕ) → Has (bit_or all (row rows (count_trailing_zeros 64 left))) g → (k : ℕ) × Has of k × Has (row rows k) g
  union_only f g h = elim (or_either all (row rows (count_trailing_zeros 64 left)) g h) [
    | inl a ↦ f g a
    | inr a ↦ (count_trailing_zeros 64 left, sub (count_trailing_zeros 64 left) (low_has left p lt), a)
  ]

  pub union_all : ((k g : ℕ) → Has of k → Has (row rows k) g → Has all g ⊎ Has left k)
      → (k g : ℕ) → Has of k → Has (row rows k) g
      → Has (bit_or all (row rows (count_trailing_zeros 64 left))) g ⊎ Has (bit_and left (left - 1)) k
  union_all f k g hk hr = elim (f k g hk hr) [
    | inl a ↦ inl (or_left all (row rows (count_trailing_zeros 64 left)) g a)
    | inr a ↦ elim (lowest_or_rest left k p lt a) [
      | inl e ↦ inl (or_right all (row rows (count_trailing_zeros 64 left)) g (subst (λ (x : ℕ). Has (row rows x) g) e hr))
      | inr b ↦ inr b
    ]
  ]

  pub common_each : ((k g : ℕ) → Has of k → Has all g → Has (row rows k) g ⊎ Has left k)
      → (k g : ℕ) → Has of k → Has (bit_and all (row rows (count_trailing_zeros 64 left))) g
      → Has (row rows k) g ⊎ Has (bit_and left (left - 1)) k
  common_each f k g hk h = elim (f k g hk (and_left all (row rows (count_trailing_zeros 64 left)) g h)) [
    | inl a ↦ inl a
    | inr a ↦ elim (lowest_or_rest left k p lt a) [
      | inl e ↦ inl (subst (λ (x : ℕ). Has (row rows x) g) (sym e) (and_right all (row rows (count_trailing_zeros 64 left)) g h))
      | inr b ↦ inr b
    ]
  ]

-- the union of the rows of those members of a set that are not left
pub record United (rows : ℕ → ℕ) (of left all : ℕ) : Type 0 where
  pub inside : Inside left of
  pub only : (g : ℕ) → Has all g → (k : ℕ) × Has of k × Has (rows k) g
  pub each : (k g : ℕ) → Has of k → Has (rows k) g → Has all g ⊎ Has left k

-- what the rows of those members and a first set have in common
pub record Shared (rows : ℕ → ℕ) (of first left all : ℕ) : Type 0 where
  pub inside : Inside left of
  pub start : (g : ℕ) → Has all g → Has first g
  pub each : (k g : ℕ) → Has of k → Has all g → Has (rows k) g ⊎ Has left k
  pub kept : (g : ℕ) → Has first g → ((k : ℕ) → Has of k → Has (rows k) g) → Has all g

pub united_none : (rows : ℕ → ℕ) (of left : ℕ) → left ≡ of → United rows of left 0
united_none rows of left e = rw e (record { inside = λ k h. h; only = λ g h. absurd (not_in_none 0 g refl h); each = λ k g h _. inr h })

-- one member more, the lowest of those left
module _ (rows : ℕ → ℕ) (of left low others all : ℕ) (l : Lowest left low) (m : Marks others (λ j. Has left j × (Lowest left j → ⊥))) where
  pub united_more : United rows of left all → United rows of others (bit_or all (rows low))
  united_more u = record {
    inside = λ k h. u.inside k (m.only k h).0;
    only = λ g h. elim (or_either all (rows low) g h) [ inl a ↦ u.only g a | inr a ↦ (low, u.inside low l.member, a) ];
    each = λ k g hk hr. elim (u.each k g hk hr) [
      | inl a ↦ inl (or_left all (rows low) g a)
      | inr a ↦ elim (low_or_rest left low others k l m a) [
        | inl e ↦ inl (or_right all (rows low) g (subst (λ (x : ℕ). Has (rows x) g) e hr))
        | inr b ↦ inr b
      ]
    ];
  }

  pub shared_more : (start : ℕ) → Shared rows of start left all → Shared rows of start others (bit_and all (rows low))
  shared_more start s = record {
    inside = λ k h. s.inside k (m.only k h).0;
    start = λ g h. s.start g (and_left all (rows low) g h);
    each = λ k g hk h. elim (s.each k g hk (and_left all (rows low) g h)) [
      | inl a ↦ inl a
      | inr a ↦ elim (low_or_rest left low others k l m a) [
        | inl e ↦ inl (subst (λ (x : ℕ). Has (rows x) g) (sym e) (and_right all (rows low) g h))
        | inr b ↦ inr b
      ]
    ];
    kept = λ g h f. and_both all (rows low) g (s.kept g h f) (f low (s.inside low l.member));
  }

pub none_left : (A : Type 0) (left k : ℕ) → left ≡ 0 → A ⊎ Has left k → A
none_left A left k e (inl a) = a
none_left A left k e (inr h) = absurd (not_in_none left k e h)

pub united_all : (rows : ℕ → ℕ) (of left all : ℕ) → left ≡ 0 → United rows of left all → Marks all (λ g. (k : ℕ) × Has of k × Has (rows k) g)
united_all rows of left all e u = record { only = u.only; all = λ g r. none_left _ left r.0 e (u.each r.0 g r.1 r.2) }

pub shared_all : (rows : ℕ → ℕ) (of start left all : ℕ) → left ≡ 0 → Shared rows of start left all
    → Marks all (λ g. Has start g × ((k : ℕ) → Has of k → Has (rows k) g))
shared_all rows of start left all e s = record { only = λ g h. (s.start g h, λ k hk. none_left _ left k e (s.each k g hk h)); all = λ g h. s.kept g h.0 h.1 }

-- two sets that meet have a common member
pub met : (a b : ℕ) → b < 2 ^ 64 → (bit_and a b ≡ 0 → ⊥) → Meet a b
met a b lt ne =
    let m : ℕ = bit_and a b in
    let k : ℕ = count_trailing_zeros 64 m in
    let h : Has m k = low_has m (omega arith) (omega (arith, and_le_r a b)) in
    (k, and_left a b k h, and_right a b k h)

-- and two that are not apart do
pub meets : (a b : ℕ) → b < 2 ^ 64 → (Apart a b → ⊥) → Meet a b
meets a b lt n = met a b lt (λ e. n (and_apart a b e))

-- the test of one member
pub has_decides : (set k one : ℕ) (r : Bool) → set < 2 ^ 64 → one < 2 ^ 64 → Marks one (λ j. (j ≡ k) × (j < 64)) → Decides r (Apart set one)
    → Decides (not r) (Has set k)
has_decides set k one r ls lo m d =
    Decides-like (not r)
    (λ n. let c = meets set one lo n in subst (λ (x : ℕ). Has set x) (one_is one k c.0 m c.2) c.1)
    (λ h apart. apart k h (one_has one k m (has_lt set k ls h)))
    (Decides-not r d)

-- one row more: it meets the set, or it does not
module _ (rows : List ℕ) (set all i : ℕ) (only : (k : ℕ) → Has all k → Meet (row rows k) set)
    (each : (k : ℕ) → k < i → Meet (row rows k) set → Has all k) where
  pub meeting_more : (one more : ℕ) → Marks one (λ k. (k ≡ i) × (k < 64)) → i < 64 → more ≡ bit_or all one → Meet (row rows i) set
      → ((k : ℕ) → Has more k → Meet (row rows k) set) × ((k : ℕ) → k < i + 1 → Meet (row rows k) set → Has more k)
  meeting_more one more m lt e here = (
    (λ k h. elim (or_either all one k (subst (λ (x : ℕ). Has x k) e h)) [
      | inl a ↦ only k a
      | inr a ↦ subst (λ (x : ℕ). Meet (row rows x) set) (sym (one_is one i k m a)) here
    ]),
    λ k le h. subst (λ (x : ℕ). Has x k) (sym e) (elim (ℕ_discrete k i) [
      | yes q ↦ or_right all one k (subst (λ (x : ℕ). Has one x) (sym q) (one_has one i m lt))
      | no n ↦ or_left all one k (each k (omega arith) h)
    ]),
  )

  pub meeting_same : (more : ℕ) → more ≡ all → (Meet (row rows i) set → ⊥)
      → ((k : ℕ) → Has more k → Meet (row rows k) set) × ((k : ℕ) → k < i + 1 → Meet (row rows k) set → Has more k)
  meeting_same more e n = (
    (λ k h. only k (subst (λ (x : ℕ). Has x k) e h)),
    λ k le h. subst (λ (x : ℕ). Has x k) (sym e) (elim (ℕ_discrete k i) [
      | yes q ↦ absurd (n (subst (λ (x : ℕ). Meet (row rows x) set) q h))
      | no ne ↦ each k (omega arith) h
    ]),
  )

-- the numbers below i whose rows have a member
pub record Column (rows : List ℕ) (f i all : ℕ) : Type 0 where
  pub only : (k : ℕ) → Has all k → Has (row rows k) f
  pub each : (k : ℕ) → k < i → Has (row rows k) f → Has all k

pub column_none : (rows : List ℕ) (f : ℕ) → Column rows f 0 0
column_none rows f = record { only = λ k h. absurd (not_in_none 0 k refl h); each = λ k lt h. absurd (let z : ⊥ = omega arith in z) }

-- one row more: it has the member, or it has not
module _ (rows : List ℕ) (f i all more : ℕ) (c : Column rows f i all) where
  pub column_more : (one : ℕ) → Marks one (λ k. (k ≡ i) × (k < 64)) → i < 64 → more ≡ bit_or all one → Has (row rows i) f → Column rows f (i + 1) more
  column_more one m lt e here = record {
    only = λ k h. elim (or_either all one k (subst (λ (x : ℕ). Has x k) e h)) [
      | inl a ↦ c.only k a
      | inr a ↦ subst (λ (x : ℕ). Has (row rows x) f) (sym (one_is one i k m a)) here
    ];
    each = λ k le h. subst (λ (x : ℕ). Has x k) (sym e) (elim (ℕ_discrete k i) [
      | yes q ↦ or_right all one k (subst (λ (x : ℕ). Has one x) (sym q) (one_has one i m lt))
      | no n ↦ or_left all one k (c.each k (omega arith) h)
    ]);
  }

  pub column_same : more ≡ all → (Has (row rows i) f → ⊥) → Column rows f (i + 1) more
  column_same e n = record {
    only = λ k h. c.only k (subst (λ (x : ℕ). Has x k) e h);
    each = λ k le h. subst (λ (x : ℕ). Has x k) (sym e) (elim (ℕ_discrete k i) [
      | yes q ↦ absurd (n (subst (λ (x : ℕ). Has (row rows x) f) q h))
      | no ne ↦ c.each k (omega arith) h
    ]);
  }

-- a row that has a member is one of the rows
pub row_lt : (rows : List ℕ) (n k f : ℕ) → length rows ≡ n → Has (row rows k) f → k < n
row_lt rows n k f e h = elim (dec_le n k) [
  | yes past ↦ absurd (let z : ⊥ = omega (arith, h, ap (λ (x : ℕ). bit x f) (get_or_past rows k 0 (omega arith)), bit_none f) in z)
  | no below ↦ omega arith
]

pub column_all : (rows : List ℕ) (f i all : ℕ) → length rows ≤ i → Column rows f i all → Marks all (λ k. Has (row rows k) f)
column_all rows f i all le c = record { only = c.only; all = λ k h. c.each k (omega (arith, row_lt rows (length rows) k f refl h)) h }

-- what each element has, of an array that a closure made which changed nothing. The answers name the call `c`: that hides from
-- `search` the record of this name, where it would get lost
module _ {F B : Type 0} (g : Mut F (ℕ × Unit {0}) B) (f : F) (n : ℕ) (P : ℕ → B → Type 0)
    (each : (i : ℕ) (y : B) (q : F) → i < n → Called g f (i, tt) y q → P i y × (q ≡ f)) where
  made_from : (ys : List B) (m i : ℕ) → i + m ≡ n → IsFromFnResultFrom g f ys i m → (k : ℕ) (d : B) → i ≤ k → k < n → P k (get_or ys k d)
  made_from ys zero i e r k d le lt = absurd (let z : ⊥ = omega arith in z)
  made_from ys (suc m) i e r k d le lt =
      let here = each i r.1 r.0 (omega arith) r.3 in
      elim (ℕ_discrete k i) [
        | yes q ↦ rw (q, r.2.1 d) here.0
        | no ne ↦ made_from ys m (i + 1) (omega arith) (subst (λ (x : F). IsFromFnResultFrom g x ys (i + 1) m) here.1 r.4) k d (omega arith) lt
      ]

  pub made_at : (ys : List B) → IsFromFnResult g f ys n → (k : ℕ) (d : B) → k < n → P k (get_or ys k d)
  made_at ys r k d lt = made_from ys n 0 (omega arith) r.each k d (omega arith) lt

-- and what the map of an array has, by a closure that changes nothing
module _ {F A B : Type 0} (g : Mut F (A × Unit {0}) B) (f : F) (part : A → B)
    (each : (x : A) (y : B) (q : F) → Called g f (x, tt) y q → (y ≡ part x) × (q ≡ f)) where
  mapped_from : (xs : List A) (ys : List B) (m i : ℕ) → MapsFrom g f xs ys i m → (k : ℕ) (d : A) (e : B) → i ≤ k → k < i + m → get_or ys k e ≡ part (get_or xs k d)
  mapped_from xs ys zero i r k d e le lt = absurd (let z : ⊥ = omega arith in z)
  mapped_from xs ys (suc m) i r k d e le lt =
      let here = each r.1 r.2 r.0 r.5 in
      elim (ℕ_discrete k i) [
        | yes q ↦ rw (q, r.4.1 e, r.3.1 d) here.0
        | no ne ↦ mapped_from xs ys m (i + 1) (subst (λ (x : F). MapsFrom g x xs ys (i + 1) m) here.1 r.6) k d e (omega arith) (omega arith)
      ]

  pub mapped : (xs : List A) (ys : List B) (n : ℕ) (none : A) → length xs ≡ n → IsMapOf g f xs ys n → ys ≡ map part xs
  mapped xs ys n none long r =
      same_lists ys (map part xs) (omega (arith, r.long, length-map xs part))
      (λ k e lt. mapped_from xs ys n 0 r.each k none e (omega arith) (omega (arith, r.long)) ∙ sym (get_or-map part xs k none e (omega (arith, r.long))))

-- rows that are filled one after the other
module _ (P : ℕ → ℕ → Type 0) (rows : List ℕ) (i v : ℕ) where
  pub fill_more : i < length rows → ((k : ℕ) → k < i → P k (row rows k)) → P i v → (k : ℕ) → k < i + 1 → P k (row (set rows i v) k)
  fill_more lt f p k le = elim (ℕ_discrete k i) [
    | yes e ↦ subst (λ (x : ℕ). P x (row (set rows i v) x)) (sym e) (subst (P i) (sym (get_or-set_same rows i v 0 lt)) p)
    | no ne ↦ subst (P k) (sym (get_or-set_other rows i k v 0 ne)) (f k (omega arith))
  ]

pub rest_empty : (rows : List ℕ) (i v : ℕ) → ((k : ℕ) → i ≤ k → row rows k ≡ 0) → (k : ℕ) → i + 1 ≤ k → row (set rows i v) k ≡ 0
rest_empty rows i v f k le = get_or-set_other rows i k v 0 (λ e. omega arith) ∙ f k (omega arith)

pub no_rows : (n k : ℕ) → row (replicate n 0) k ≡ 0
no_rows zero k = refl
no_rows (suc n) zero = refl
no_rows (suc n) (suc k) = no_rows n k

-- a row of the turned relation: which rows have the number f
pub turned_row : (rows : List ℕ) (r f : ℕ) → Marks r (λ k. Has (row rows k) f) → (k : ℕ) → bit r k ≡ bit (row rows k) f
turned_row rows r f m k = same_digits (bit r k) (bit (row rows k) f) (bit_digit r k) (bit_digit (row rows k) f) (m.only k) (m.all k)
  where
    same_digits : (x y : ℕ) → x < 2 → y < 2 → (x ≡ 1 → y ≡ 1) → (y ≡ 1 → x ≡ 1) → x ≡ y
    same_digits zero zero lx ly p q = refl
    same_digits zero (suc y) lx ly p q = absurd (let z : ⊥ = omega (arith, q (omega arith)) in z)
    same_digits (suc x) zero lx ly p q = absurd (let z : ⊥ = omega (arith, p (omega arith)) in z)
    same_digits (suc x) (suc y) lx ly p q = omega arith

-- the union of the rows of a set, turned: the rows that meet it
pub turned_marks : (others rows : List ℕ) (r set : ℕ) → Turned others rows → Marks r (λ j. (f : ℕ) × Has set f × Has (row others f) j) → Marks r (λ j. Meet (row rows j) set)
turned_marks others rows r set e m = record {
  only = λ j h. let c = m.only j h in (c.0, sym (e c.0 j) ∙ c.2, c.1);
  all = λ j h. m.all j (h.0, h.2, e h.0 j ∙ h.1);
}
