-- What the rows of a keeper cover, by the search along them, and when one more is put behind them.
use Rattle.std.proofs.Common.{◌≡◌, ℕ, Bool, T, ◌⊎◌, List, [], ◌∷◌, ◌++◌, is_some, Decides, Option, sym, subst, inl, inr, ⊎_elim}
use Rattle.std.proofs.lemmas.Bool.Decides.{same_from_decides}
use Rattle.sets.specs.Search.{Somewhere, First}
use Rattle.sets.proofs.Places.{found_decides, somewhere_old, somewhere_new, somewhere_push}
use Rattle.store.specs.Positions.{Target, Covers, row_target}
use Rattle.store.specs.Keepers.{RowCovers, any_covers}
use Rattle.store.specs.Laws.{decides_rows, covering_row, row_covering}
use Rattle.store.specs.declared.row.KeptRow.{KeptRow}

-- the search from the first row answers whether a row covers
pub found_covers : (q : Target) (rows xs : List KeptRow) (r : Option ℕ) (b : Bool)
    → rows ≡ xs → b ≡ is_some r → First (RowCovers q) rows 0 r
    → (b ≡ any_covers xs q) × Decides b (Somewhere (RowCovers q) xs)
found_covers q rows xs r b e f h =
    let d = found_decides (RowCovers q) rows xs r b e f h in
    (same_from_decides b (any_covers xs q) d (decides_rows q xs), d)

module _ (xs ys : List KeptRow) (row : KeptRow) (e : ys ≡ xs ++ row ∷ []) where
  pub more_covers : (r : Target) → T (any_covers ys r) → T (any_covers xs r) ⊎ Covers (row_target row) r
  more_covers r t =
      ⊎_elim (λ h. inl (row_covering r xs h)) inr
      (somewhere_push (RowCovers r) xs row (covering_row r (xs ++ row ∷ []) (subst (λ (l : List KeptRow). T (any_covers l r)) e t)))

  pub covers_more : (r : Target) → T (any_covers xs r) ⊎ Covers (row_target row) r → T (any_covers ys r)
  covers_more r h =
      subst (λ (l : List KeptRow). T (any_covers l r)) (sym e) (row_covering r (xs ++ row ∷ [])
      (⊎_elim (λ t. somewhere_old (RowCovers r) xs row (covering_row r xs t)) (somewhere_new (RowCovers r) xs row) h))
