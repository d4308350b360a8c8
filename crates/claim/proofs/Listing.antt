-- What a search opened and told, as a list in order.
use Rattle.std.proofs.Common.{◌≡◌, ℕ, ◌≤◌, ◌⊎◌, List, [], ◌∷◌, length, drop, sym, refl, ap, subst, inl, inr, arith}
use Rattle.problem.specs.Firm.{Task}
use Rattle.problem.specs.Runs.{Goal}
use Rattle.store.specs.Positions.{Target, at}
use Rattle.store.specs.Stores.{Meaning}
use Rattle.outlook.specs.Outlooks.{View}
use Rattle.sets.specs.Listed.{Among, Different}
use Rattle.claim.specs.Search.{Question, Dropped, Open, Next, opening, round_of, Event, opened, told, WasTold, opened_in, Search, begins, drops, opens, tells}
use Rattle.claim.specs.Claim.{RuledOut, WasOpened, open_after, DueAfter, Lowest, InOrder}
use Rattle.store.proofs.Counting.{at_most}
use Rattle.claim.proofs.Opening.{Chain}
use Rattle.claim.proofs.Searching.{Past, chain, failed, covers_some, covers_all}

-- the levels of what was opened
levels_of : List Event → List ℕ
levels_of [] = []
levels_of (opened step q ∷ log) = q.level ∷ levels_of log
levels_of (told q a ∷ log) = levels_of log

levels_length : (log : List Event) → length (levels_of log) ≡ opened_in log
unfolding levels_of
levels_length [] = refl
levels_length (opened step q ∷ log) = omega (arith, levels_length log)
levels_length (told q a ∷ log) = levels_length log

levels_has : (q : Target) (log : List Event) → WasOpened q log → Among q.level (levels_of log)
unfolding levels_of
levels_has q [] w = w
levels_has q (opened step r ∷ log) (inl e) = inl (ap (λ (x : Target). x.level) e)
levels_has q (opened step r ∷ log) (inr w) = inr (levels_has q log w)
levels_has q (told r a ∷ log) w = levels_has q log w

-- different levels, at each of which the goal was opened, are no more than what was opened
pub levels_at_most : (g : Goal) (log : List Event) (ns : List ℕ) → Different ns → ((n : ℕ) → Among n ns → WasOpened (at n g) log)
    → length ns ≤ opened_in log
levels_at_most g log ns d f = omega (arith, at_most ns (levels_of log) d (λ n h. levels_has (at n g) log (f n h)), levels_length log)

module _ {p : Task} {v : View} {a : Question} {m₀ : Meaning} where
  -- what is open is what was opened and not told
  pub open_is : {n : ℕ} {st : List Open} {log : List Event} {m : Meaning} → Search p v a m₀ n st log m → open_after log ≡ st
  open_is begins = refl
  open_is (drops s lt fails d) = open_is s
  open_is (opens step q s lt x) = ap (λ (y : List Open). opening y step q) (open_is s)
  open_is (tells f b m' s ex t) = ap (λ (y : List Open). drop 1 y) (open_is s)

  opened_low : {n : ℕ} {st : List Open} {log : List Event} {m : Meaning} → Search p v a m₀ n st log m
      → (r : Target) → WasOpened r log → r.level ≤ n
  opened_low begins r w = absurd w
  opened_low (drops s lt fails d) r w = omega (arith, opened_low s r w)
  opened_low (opens {n} {st} {log} {m} step q s lt x) r w = go n st x (chain s).0 (opened_low s r) w
    where
      go : (n : ℕ) (st : List Open) → Next p v a m n st step q → Chain n st → (WasOpened r log → r.level ≤ n)
          → (r ≡ q) ⊎ WasOpened r log → r.level ≤ round_of n st
      go n [] y ch ih (inl e) = omega (arith, ap (λ (z : Target). z.level) e, ap (λ (z : Target). z.level) y.2)
      go n [] y ch ih (inr w') = omega (arith, ih w')
      go n (f ∷ fs) y ch ih (inl e) = omega (arith, ap (λ (z : Target). z.level) e, y.0.lower, ch.0)
      go n (f ∷ fs) y ch ih (inr w') = ih w'
  opened_low (tells f b m' s ex t) r w = opened_low s r w

  pub due_after : {n : ℕ} {st : List Open} {log : List Event} {m : Meaning} → Search p v a m₀ n st log m
      → (step : ℕ) (q : Target) → Next p v a m n st step q → DueAfter p v a m₀ (open_after log) log step q × (Dropped v m q → ⊥)
  due_after {n} {st} {log} {m} s step q x =
      let r = go n st (opened_low s) (failed s) x in
      (subst (λ (y : List Open). DueAfter p v a m₀ y log step q) (sym (open_is s)) r.0, r.1)
    where
      go : (n : ℕ) (st : List Open) → ((r : Target) → WasOpened r log → r.level ≤ n)
          → ((k : ℕ) → 1 ≤ k → Past n st k → RuledOut v a.goal m₀ k ⊎ WasTold (at k a.goal) log)
          → Next p v a m n st step q → DueAfter p v a m₀ st log step q × (Dropped v m q → ⊥)
      go n [] low past y =
          let e = ap (λ (z : Target). z.level) y.2 in (
            record {
              goal = rw y.2;
              range = (omega arith, omega (arith, y.0));
              first = y.1;
              below = λ k h lt. past k h (omega arith);
              once = λ r w. omega (arith, low r w);
            },
            y.3,
          )
      go n (f ∷ fs) low past y = ((y.0, y.1), y.2)

  pub in_order : {n : ℕ} {st : List Open} {log : List Event} {m : Meaning} → Search p v a m₀ n st log m → InOrder p v a m₀ log
  in_order begins = tt
  in_order (drops s lt fails d) = in_order s
  in_order (opens step q s lt x) =
      let d = due_after s step q x in
      (d.0, (λ b. d.1 (inl b)), (λ c. d.1 (inr (covers_all s q c))), in_order s)
  in_order (tells {log} f b m' s ex t) = (
    subst (λ (y : List Open). Lowest f.position y) (sym (open_is s)) refl,
    (
      ex.0,
      λ high x step end firm meets.
          let r = ex.1 high x step end firm meets in (
            r.0,
            r.1,
            r.2,
            elim r.3 [
              | inl bar ↦ inl bar
              | inr (inl c) ↦ inr (inl (covers_some s r.0 c))
              | inr (inr w) ↦ inr (inr w)
            ],
          ),
    ),
    in_order s,
  )
