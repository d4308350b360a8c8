-- That the two stores are lawful.
use Rattle.std.specs.Prelude.{◌≡◌, ℕ, Bool, true, false, T, List, length, Decides, ◌==◌, bit_and, refl}
use Rattle.std.proofs.Common.{arith}
use Rattle.std.proofs.lemmas.List.{length-take}
use Rattle.std.proofs.lemmas.Bool.{leb-true, le-leb, false≢true}
use Rattle.std.proofs.lemmas.Bool.Decides.{Decides-like, Decides-and, Decides-eqb, Decides-by_or}
use Rattle.sets.specs.Sets.{Inside}
use Rattle.sets.specs.Search.{Somewhere}
use Rattle.sets.proofs.Bits.{inside_and, and_inside}
use Rattle.store.specs.Positions.{Target, Covers, row_target}
use Rattle.store.specs.Stores.{Lawful}
use Rattle.store.specs.Keepers.{covers_test, RowCovers, any_covers, bare_meaning, keeper_meaning}
use Rattle.store.specs.declared.row.KeptRow.{KeptRow}

-- a position covers itself, and what one that it covers covers
pub covers_self : (q : Target) → Covers q q
covers_self q = record { level = omega arith; need = λ k h. h; avoid = λ k h. h }

pub covers_trans : (p q r : Target) → Covers p q → Covers q r → Covers p r
covers_trans p q r h k = record {
  level = omega arith;
  need = λ i m. k.need i (h.need i m);
  avoid = λ i m. k.avoid i (h.avoid i m);
}

decides_inside : (a b : ℕ) → Decides (bit_and a b == a) (Inside a b)
decides_inside a b = Decides-like _ (and_inside a b) (inside_and a b) (Decides-eqb (bit_and a b) a)

-- the tests say what they should
pub decides_covers : (q r : Target) → Decides (covers_test q r) (Covers q r)
decides_covers q r =
    Decides-like _ (λ h. record { level = h.0; need = h.1.0; avoid = h.1.1 }) (λ h. (h.level, (h.need, h.avoid)))
    (Decides-and _ _ (leb-true r.level q.level, le-leb r.level q.level)
    (Decides-and _ _ (decides_inside q.goal.need r.goal.need) (decides_inside q.goal.avoid r.goal.avoid)))

pub decides_rows : (q : Target) (rows : List KeptRow) → Decides (any_covers rows q) (Somewhere (RowCovers q) rows)
decides_rows q rows =
    Decides-like _ (λ h. (h.0, (h.1, h.2))) (λ h. (h.0, h.1.0, h.1.1))
    (Decides-by_or (λ row. covers_test (row_target row) q) (RowCovers q) (λ xs. any_covers xs q) (λ row. decides_covers (row_target row) q) refl (λ _ _. refl) rows)

true_T : (b : Bool) → b ≡ true → T b
true_T true e = tt
true_T false e = absurd (false≢true e)

T_true : (b : Bool) → T b → b ≡ true
T_true true t = refl
T_true false t = absurd t

-- covered by the rows, and by one of them
pub covering_row : (q : Target) (rows : List KeptRow) → T (any_covers rows q) → Somewhere (RowCovers q) rows
covering_row q rows t = (decides_rows q rows).0 (T_true _ t)

pub row_covering : (q : Target) (rows : List KeptRow) → Somewhere (RowCovers q) rows → T (any_covers rows q)
row_covering q rows h = true_T _ ((decides_rows q rows).1 h)

covers_down : (rows : List KeptRow) (q r : Target) → T (any_covers rows q) → Covers q r → T (any_covers rows r)
covers_down rows q r t k =
    let h = covering_row q rows t in
    row_covering r rows (h.0, (h.1.0, λ d. covers_trans _ q r (h.1.1 d) k))

none_held : (rows : List KeptRow) (q : Target) → length rows ≡ 0 → T (any_covers rows q) → ⊥
none_held rows q e t = let h = covering_row q rows t in omega (arith, e, h.1.0)

module _ {X : Type 0} where
  pub bare_lawful : Lawful (bare_meaning {X = X})
  bare_lawful = record { down = λ s q r h k. h; empty = λ s e q h. h; few = λ s. omega (arith, s.few) }

  pub keeper_lawful : Lawful (keeper_meaning {X = X})
  keeper_lawful = record {
    down = λ s. covers_down _;
    empty = λ s e q. none_held _ q e;
    few = λ s. simp length-take (omega (arith, s.few));
  }
