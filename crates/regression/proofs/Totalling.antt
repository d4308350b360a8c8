-- What is said of the sums, from the bare fact that it is so.
use Rattle.std.proofs.Common.{ℕ, zero, suc, ◌^◌, ◌<◌, ◌⊎◌, subst, inl, inr, arith}
use native.Mathlib.Decide.{ℕ_discrete}
use Rattle.sets.specs.Sets.{Has}
use Rattle.sets.proofs.Bits.{has?}
use Rattle.sets.proofs.Members.{below_within}
use Rattle.regression.specs.Spans.{Union}
use Rattle.regression.specs.Doings.{Totalled}
use Rattle.regression.specs.Told.{acts}
use Rattle.regression.specs.declared.sums.Sums.{Sums}
use Rattle.regression.proofs.Rows.{never_told}

-- a member below n whose set has k, or none
search_below : (step : ℕ) (f : ℕ → ℕ) (k n : ℕ) → ((j : ℕ) × Has step j × Has (f j) k) ⊎ ((j : ℕ) → j < n → Has step j → Has (f j) k → ⊥)
search_below step f k zero = inr (λ j l. absurd (omega arith))
search_below step f k (suc n) = elim (search_below step f k n) [
  | inl x ↦ inl x
  | inr none ↦ elim (has? step n) [
    | no a ↦ inr (λ j l h g. elim (ℕ_discrete j n) [ yes e ↦ a (subst (Has step) e h) | no o ↦ none j (omega arith) h g ])
    | yes a ↦ elim (has? (f n) k) [
      | yes b ↦ inl (n, a, b)
      | no b ↦ inr (λ j l h g. elim (ℕ_discrete j n) [ yes e ↦ b (subst (λ (z : ℕ). Has (f z) k) e g) | no o ↦ none j (omega arith) h g ])
    ]
  ]
]

-- a number is below the power of two with it
lt_self : (n : ℕ) → n < 2 ^ n
lt_self zero = omega arith
lt_self (suc n) = omega (arith, lt_self n)

-- so a union is known from the bare fact
union_told : {P : Type 0} (f : ℕ → ℕ) (step r : ℕ) → ∥ P ∥₁ → (P → Union f step r) → Union f step r
union_told f step r t u = record {
  from = λ k h. elim (search_below step f k step) [
    | inl x ↦ x
    | inr none ↦ absurd (never_told t (λ p. let x = (u p).from k h in none x.0 (below_within step step (lt_self step) x.0 x.1) x.1 x.2))
  ];
  into = λ j h k g. elim (has? r k) [ yes x ↦ x | no n ↦ absurd (never_told t (λ p. n ((u p).into j h k g))) ];
}

pub summed : (s : Sums) → Totalled (acts s.doings.now) s.doings.now.lo s.doings.now.hi s.doings.now.step s.all
summed s = record {
  give_sure = union_told _ _ _ s.totalled (λ t. t.give_sure);
  give_may = union_told _ _ _ s.totalled (λ t. t.give_may);
  cut_sure = union_told _ _ _ s.totalled (λ t. t.cut_sure);
  cut_may = union_told _ _ _ s.totalled (λ t. t.cut_may);
}
