-- The states of the entries, with one that is not among them.
use Rattle.std.proofs.Common.{◌≡◌, ℕ, suc, ◌<◌, ◌≤◌, List, [], ◌∷◌, map, length, sym, ap, ◌∙◌, subst, inl, inr, arith}
use Rattle.std.proofs.lemmas.List.{length-map, get_or_default}
use Rattle.problem.specs.Firm.{Task, In, Distinct}
use Rattle.problem.specs.Runs.{Run}
use Rattle.plain.specs.Trees.{entry, Grown, Seen}
use Rattle.plain.specs.Searches.{Crowded}
use Rattle.plain.specs.declared.reached.Reached.{Reached}
use Rattle.plain.proofs.Trees.{entry_run}

abbrev states : List Reached → List ℕ
states rows = map (λ (e : Reached). e.state) rows

-- a state among them has a place
state_at : (rows : List Reached) (s : ℕ) → In s (states rows) → (i : ℕ) × (i < length rows) × ((entry rows i).state ≡ s)
state_at [] s h = absurd h
state_at (x ∷ rows) s (inl e) = (0, omega arith, sym e)
state_at (x ∷ rows) s (inr h) = let r = state_at rows s h in (suc r.0, omega (arith, r.1), r.2)

different : (rows : List Reached) → ((i j : ℕ) → i < j → j < length rows → (entry rows i).state ≡ (entry rows j).state → ⊥) → Distinct (states rows)
different [] once = tt
different (x ∷ rows) once = (
  (λ h. let r = state_at rows x.state h in once 0 (suc r.0) (omega arith) (omega (arith, r.1)) (sym r.2)),
  different rows (λ i j ord lt. once (suc i) (suc j) (omega arith) (omega arith)),
)

-- a full tree, and one state more
pub crowded : (t : Task) (limit most : ℕ) (rows : List Reached) (k s : ℕ) → Grown t limit rows → length rows ≡ most → (Seen rows s → ⊥)
    → k ≤ limit → Run t k s → Crowded t limit most
crowded t limit most rows k s g full fresh le run = record {
  states = s ∷ states rows;
  more = omega (arith, length-map rows (λ (e : Reached). e.state));
  different = (
    (λ h. let r = state_at rows s h in fresh (r.0, (r.1, λ d. ap (λ (x : Reached). x.state) (get_or_default rows r.0 d _ r.1) ∙ r.2))),
    different rows g.once,
  );
  reached = λ x h. elim h [
    | inl e ↦ (k, le, subst (λ (y : ℕ). Run t k y) (sym e) run)
    | inr i ↦ (let r = state_at rows x i in
        ((entry rows r.0).depth, g.shallow r.0 r.1, subst (λ (y : ℕ). Run t (entry rows r.0).depth y) r.2 (entry_run t limit rows g r.0 r.1)))
  ];
}
