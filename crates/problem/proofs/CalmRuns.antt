-- A calm step runs in every order.
use Rattle.std.proofs.Common.{◌≡◌, ℕ, ◌-◌, ◌^◌, ◌<◌, max, ◌≢◌, ◌⊎◌, List, [], ◌∷◌, sym, refl, subst, inl, inr, arith}
use native.Mathlib.Decide.{ℕ_discrete}
use lib.Count.{ones}
use Rattle.sets.proofs.Bits.{bit_digit, bit_none, same_members, has?}
use Rattle.sets.specs.Sets.{bit, Has, Inside, minus}
use Rattle.problem.specs.Actions.{Action, fires, result_of, cuts, gives}
use Rattle.problem.specs.Firm.{Turn, Runs}
use Rattle.problem.specs.Orders.{Order, EveryOrder}
use Rattle.problem.specs.Calm.{Calm, Ends}
use Rattle.problem.proofs.Listed.{left_in, left_other, left_has, some_order}
use Rattle.problem.proofs.Effects.{result_bit, net_apart, fires_inside, inside_fires, same_tests, alike_all, dec_T}

-- t is reached from s, and of the actions of step those of rest are still to run
pub record Reached (at : ℕ → Action) (s step t rest : ℕ) : Type 0 where
  pub part : Inside rest step
  pub source : (k : ℕ) → Has t k → Has s k ⊎ ((j : ℕ) × Has step j × (Has rest j → ⊥) × Has (gives at s j) k)
  pub gone : (j : ℕ) → Has step j → (Has rest j → ⊥) → (k : ℕ) → Has (cuts at s j) k → Has t k → ⊥
  pub stays : (k : ℕ) → Has s k → ((j : ℕ) → Has step j → (Has rest j → ⊥) → Has (cuts at s j) k → ⊥) → Has t k
  pub given : (j : ℕ) → Has step j → (Has rest j → ⊥) → (k : ℕ) → Has (gives at s j) k → Has t k

module _ (at : ℕ → Action) (s step : ℕ) (calm : Calm at s step) where
  start : Reached at s step s step
  start = record {
    part = λ k h. h;
    source = λ k h. inl h;
    gone = λ j h n k. absurd (n h);
    stays = λ k h f. h;
    given = λ j h n. absurd (n h);
  }

  module _ (t rest : ℕ) (r : Reached at s step t rest) (i : ℕ) (hi : Has rest i) where
    other : (j : ℕ) → (Has rest j → ⊥) → i ≢ j
    other j n e = n (subst (λ (x : ℕ). Has rest x) e hi)

    turn : Turn (at i) s t
    turn = (
      λ k h. r.stays k (calm.ready i (r.part i hi) k h) (λ j hj n c. calm.needs i j (r.part i hi) hj (other j n) k h c),
      alike_all (at i).effects s t (λ e among. same_tests (fires s e) (fires t e)
          (λ f. inside_fires t e (λ k h. r.stays k (fires_inside s e f k h) (λ j hj n c. calm.holds i j (r.part i hi) hj (other j n) e among f k h c)))
          (λ f. let sub = fires_inside t e f in
          elim (dec_T (fires s e)) [
            | yes y ↦ y
            | no n ↦ absurd (calm.rests i (r.part i hi) e among n (λ k h. elim (r.source k (sub k h)) [
              | inl a ↦ inl a
              | inr p ↦ inr (p.0, p.1, (λ e. other p.0 p.2 (sym e)), (λ k' h' c. r.gone p.0 p.1 p.2 k' c (sub k' h')), p.3)
            ]))
          ])),
    )

    gave : (k : ℕ) → bit (result_of (at i) t) k ≡ max (bit t k) (bit (gives at s i) k) - bit (cuts at s i) k
    gave k = result_bit at i s t k turn.1

    apart_bit : (j k : ℕ) → Has step j → j ≢ i → Has (gives at s j) k → bit (cuts at s i) k ≡ 0
    apart_bit j k hj ne h =
        let n : Has (cuts at s i) k → ⊥ = calm.clash j i hj (r.part i hi) ne k h in
        omega (arith, bit_digit (cuts at s i) k)

    next : Reached at s step (result_of (at i) t) (minus rest (2 ^ i))
    next = record {
      part = λ k h. r.part k (left_in rest i k h);
      source = λ k h. elim (has? t k) [
        | yes a ↦ elim (r.source k a) [ inl b ↦ inl b | inr p ↦ inr (p.0, p.1, (λ x. p.2 (left_in rest i p.0 x)), p.3) ]
        | no a ↦ inr (
          i,
          r.part i hi,
          (λ x. left_other rest i i x refl),
          omega (arith, h, gave k, net_apart at s i k, bit_digit t k, bit_digit (gives at s i) k),
        )
      ];
      gone = λ j hj n k c h. elim (ℕ_discrete j i) [
        | yes e ↦ (let c' : Has (cuts at s i) k = subst (λ (x : ℕ). Has (cuts at s x) k) e c in
            omega (arith, h, gave k, c', bit_digit t k, bit_digit (gives at s i) k))
        | no ne ↦ (let m : Has rest j → ⊥ = λ x. n (left_has rest i j x ne) in
            let a : Has t k → ⊥ = r.gone j hj m k c in
            calm.clash i j (r.part i hi) hj (λ e. ne (sym e)) k
            (omega (arith, h, gave k, net_apart at s i k, bit_digit t k, bit_digit (gives at s i) k)) c)
      ];
      stays = λ k h f.
          let a : Has t k = r.stays k h (λ j hj n c. f j hj (λ x. n (left_in rest i j x)) c) in
          let b : Has (cuts at s i) k → ⊥ = λ c. f i (r.part i hi) (λ x. left_other rest i i x refl) c in
          omega (arith, gave k, bit_digit (cuts at s i) k, bit_digit (gives at s i) k);
      given = λ j hj n k h. elim (ℕ_discrete j i) [
        | yes e ↦ (let h' : Has (gives at s i) k = subst (λ (x : ℕ). Has (gives at s x) k) e h in
            omega (arith, gave k, h', net_apart at s i k, bit_digit t k, bit_digit (gives at s i) k))
        | no ne ↦ omega (arith, gave k, r.given j hj (λ x. n (left_has rest i j x ne)) k h, apart_bit j k hj ne h, bit_digit (gives at s i) k)
      ];
    }

  -- along any order of what is still to run
  run : (seq : List ℕ) (t rest : ℕ) → Reached at s step t rest → Order rest seq → (end : ℕ) × Runs at s t seq end × Reached at s step end 0
  run [] t rest r o = (t, refl, subst (λ (x : ℕ). Reached at s step t x) o r)
  run (i ∷ seq) t rest r o =
      let more = run seq (result_of (at i) t) (minus rest (2 ^ i)) (next t rest r i o.0) o.1 in
      (more.0, (turn t rest r i o.0, more.1), more.2)

  nothing : (j : ℕ) → Has 0 j → ⊥
  nothing j h = omega (arith, h, bit_none j)

  reached_ends : (end : ℕ) → Reached at s step end 0 → Ends at s step end
  reached_ends end r = record {
    source = λ k h. elim (r.source k h) [ inl a ↦ inl a | inr p ↦ inr (p.0, p.1, p.3) ];
    gone = λ j hj. r.gone j hj (nothing j);
    stays = λ k h f. r.stays k h (λ j hj _. f j hj);
    given = λ j hj. r.given j hj (nothing j);
  }

  ends_inside : (a b : ℕ) → Ends at s step a → Ends at s step b → Inside a b
  ends_inside a b p q k h =
      elim (p.source k h) [ inl x ↦ q.stays k x (λ j hj c. p.gone j hj k c h) | inr x ↦ q.given x.0 x.1 k x.2 ]

  pub ends_one : (a b : ℕ) → Ends at s step a → Ends at s step b → a ≡ b
  ends_one a b p q = same_members a b (ends_inside a b p q) (ends_inside b a q p)

  -- a calm step is firm, with the end that Ends says
  pub calm_every : (end : ℕ) → Ends at s step end → EveryOrder at s s step end
  calm_every end q seq o =
      let r = run seq s step start o in
      subst (λ (x : ℕ). Runs at s s seq x) (ends_one r.0 end (reached_ends r.0 r.2) q) r.1

  pub calm_ends : step < 2 ^ 64 → (end : ℕ) × Ends at s step end
  calm_ends lt =
      let o = some_order (ones step) step lt refl in
      let r = run o.0 s step start o.1 in
      (r.0, reached_ends r.0 r.2)
