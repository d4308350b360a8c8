-- What is known of the entries stays known when one more is put behind them.
use Rattle.std.proofs.Common.{◌≡◌, ℕ, zero, suc, ◌<◌, ◌≤◌, ◌⊎◌, List, [], ◌∷◌, ◌++◌, length, get_or, sym, refl, ap, ◌∙◌, inl, inr, ⊎_elim, add-one, arith}
use Rattle.std.proofs.lemmas.List.{length_push, get_or_push, get_or_append_left, get_or_default}
use Rattle.std.proofs.lemmas.Bool.{cases_lt}
use Rattle.problem.specs.Firm.{Task}
use Rattle.problem.specs.Runs.{Run, start, more}
use Rattle.plain.specs.Trees.{entry, Branch, Grown, Seen, Known, Front}
use Rattle.plain.specs.declared.reached.Reached.{Reached}

-- an entry as it is read
pub entry_read : (rows : List Reached) (i : ℕ) (x : Reached) → i < length rows → x ≡ get_or rows i x → x ≡ entry rows i
entry_read rows i x lt e = e ∙ get_or_default rows i x _ lt

pub front_same : (xs ys : List Reached) → ys ≡ xs → Front xs ys
front_same xs ys e i lt = rw e (lt, refl)

pub front_along : (xs ys zs : List Reached) → Front xs ys → Front ys zs → Front xs zs
front_along xs ys zs f g i lt = let a = f i lt in let b = g i a.0 in (b.0, b.1 ∙ a.1)

pub known_front : (xs ys : List Reached) (s d : ℕ) → Front xs ys → Known xs s d → Known ys s d
known_front xs ys s d f k = let a = f k.0 k.1 in (k.0, a.0, rw a.1 k.2, rw a.1 k.3)

pub known_seen : (rows : List Reached) (s d : ℕ) → ((j : ℕ) → j < length rows → (entry rows j).depth ≤ d) → Seen rows s → Known rows s d
known_seen rows s d le h = (h.0, h.1.0, h.1.1 _, le h.0 h.1.0)

-- an entry is known by its own state and depth
pub known_entry : (rows : List Reached) (i d : ℕ) → i < length rows → (entry rows i).depth ≤ d → Known rows (entry rows i).state d
known_entry rows i d lt le = (i, lt, refl, le)

-- no entries at all
pub grown_none : (t : Task) (limit : ℕ) → Grown t limit []
grown_none t limit = record {
  root = λ lt. absurd (let z : ⊥ = omega arith in z);
  branch = λ i pos lt. absurd (let z : ⊥ = omega arith in z);
  shallow = λ i lt. absurd (let z : ⊥ = omega arith in z);
  rising = λ i j ord lt. absurd (let z : ⊥ = omega arith in z);
  once = λ i j ord lt. absurd (let z : ⊥ = omega arith in z);
}

module _ (rows : List Reached) (e : Reached) where
  entry_old : (i : ℕ) → i < length rows → entry (rows ++ e ∷ []) i ≡ entry rows i
  entry_old i lt = get_or_append_left rows (e ∷ []) _ i lt

  pub entry_new : (i : ℕ) → i ≡ length rows → entry (rows ++ e ∷ []) i ≡ e
  entry_new i at = get_or_push rows e _ i (sym at)

  -- a place among the rows, or the place of the new one
  place : (i : ℕ) → i < length (rows ++ e ∷ []) → (i < length rows) ⊎ (i ≡ length rows)
  place i lt = ⊎_elim inl (λ ge. inr (omega (arith, length_push rows e))) (cases_lt i (length rows))

  pub front_push : Front rows (rows ++ e ∷ [])
  front_push i lt = (omega (arith, length_push rows e), entry_old i lt)

  pub known_push : Known (rows ++ e ∷ []) e.state e.depth
  known_push =
      let at = entry_new (length rows) refl in
      (length rows, omega (arith, length_push rows e), ap (λ (x : Reached). x.state) at, omega (arith, ap (λ (x : Reached). x.depth) at))

  branch_old : (t : Task) (i : ℕ) (x : Reached) → i ≤ length rows → Branch t rows i x → Branch t (rows ++ e ∷ []) i x
  branch_old t i x le b =
      let same = entry_old x.from (omega (arith, b.earlier)) in
      record { earlier = b.earlier; deeper = rw same b.deeper; firm = rw same b.firm }

  module _ (t : Task) (limit : ℕ) (g : Grown t limit rows) (b : Branch t rows (length rows) e) (le : e.depth ≤ limit)
      (deepest : (j : ℕ) → j < length rows → (entry rows j).depth ≤ e.depth) (fresh : Seen rows e.state → ⊥) where
    rising : (i j : ℕ) → i ≤ j → j < length (rows ++ e ∷ []) → (entry (rows ++ e ∷ []) i).depth ≤ (entry (rows ++ e ∷ []) j).depth
    rising i j ord lt = ⊎_elim
        (λ old. rw (entry_old i (omega arith)) (rw (entry_old j old) (g.rising i j ord old)))
        (λ new. rw (entry_new j new) (⊎_elim
        (λ before. rw (entry_old i before) (deepest i before))
        (λ same. rw (entry_new i same) (omega arith))
        (place i (omega arith))))
        (place j lt)

    once : (i j : ℕ) → i < j → j < length (rows ++ e ∷ []) → (entry (rows ++ e ∷ []) i).state ≡ (entry (rows ++ e ∷ []) j).state → ⊥
    once i j ord lt = ⊎_elim
        (λ old. rw (entry_old i (omega arith)) (rw (entry_old j old) (g.once i j ord old)))
        (λ new. rw (entry_new j new) (rw (entry_old i (omega arith)) (λ same.
        fresh (i, (omega arith, λ d. ap (λ (x : Reached). x.state) (get_or_default rows i d _ (omega arith)) ∙ same)))))
        (place j lt)

    pub grown_push : Grown t limit (rows ++ e ∷ [])
    grown_push = record {
      root = λ _. rw (entry_old 0 (omega (arith, b.earlier))) (g.root (omega (arith, b.earlier)));
      branch = λ i pos lt. ⊎_elim
          (λ old. rw (entry_old i old) (branch_old t i (entry rows i) (omega arith) (g.branch i pos old)))
          (λ new. rw (entry_new i new) (rw new (branch_old t (length rows) e (omega arith) b)))
          (place i lt);
      shallow = λ i lt. ⊎_elim (λ old. rw (entry_old i old) (g.shallow i old)) (λ new. rw (entry_new i new) le) (place i lt);
      rising = rising;
      once = once;
    }

-- an entry is the end of a firm run as long as it is deep
module _ (t : Task) (limit : ℕ) (rows : List Reached) (g : Grown t limit rows) where
  run_below : (n i : ℕ) → i < n → i < length rows → Run t (entry rows i).depth (entry rows i).state
  run_below zero i lt known = absurd (let z : ⊥ = omega arith in z)
  run_below (suc n) zero lt known =
      let r = g.root (omega arith) in
      rw r.0 (rw r.1 start)
  run_below (suc n) (suc i) lt known =
      let b = g.branch (suc i) (omega arith) known in
      let from : ℕ = (entry rows (suc i)).from in
      rw b.deeper (rw add-one (more (entry rows (suc i)).step _ (run_below n from (omega (arith, b.earlier)) (omega (arith, b.earlier))) b.firm))

  pub entry_run : (i : ℕ) → i < length rows → Run t (entry rows i).depth (entry rows i).state
  entry_run i lt = run_below (suc i) i (omega arith) lt
