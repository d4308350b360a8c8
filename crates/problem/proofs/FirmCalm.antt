-- A firm step is calm, and so is each part of it.
use Rattle.std.proofs.Common.{◌≡◌, ℕ, zero, suc, ◌-◌, ◌^◌, ◌<◌, ◌≤◌, T, ◌≢◌, ◌⊎◌, List, [], ◌∷◌, ◌++◌, sym, refl, ap, ◌∙◌, subst, inl, inr, arith}
use native.Mathlib.Decide.{ℕ_discrete}
use lib.Bits.{bit_and, bit_or, and_le_l}
use lib.Count.{ones}
use Rattle.sets.proofs.Bits.{bit_digit, bit_of_or, bit_of_and, bit_none, same_bits, bit_minus, apart_and, has?}
use Rattle.sets.proofs.Members.{bit_one, bit_other, has_lt, minus_lt, not_in_none}
use Rattle.sets.specs.Sets.{bit, Has, Inside, Apart, minus}
use Rattle.problem.specs.Actions.{Action, Among, fires, result_of, cuts, gives}
use Rattle.problem.specs.Firm.{Turn, Runs}
use Rattle.problem.specs.Orders.{Order, EveryOrder}
use Rattle.problem.specs.Calm.{Gets, Calm, Ends}
use Rattle.problem.proofs.Listed.{left_in, left_has, some_order}
use Rattle.problem.proofs.Effects.{result_bit, net_apart, fires_inside, inside_fires, alike_at}
use Rattle.problem.proofs.CalmRuns.{calm_every, calm_ends}
use Rattle.problem.specs.declared.rows.EffectRow.{EffectRow}

-- ---- orders one after the other

order_append : (xs ys : List ℕ) (a b : ℕ) → Order a xs → Order b ys → Apart a b → Order (bit_or a b) (xs ++ ys)
order_append [] ys a b p q f = subst (λ (x : ℕ). Order (bit_or x b) ys) (sym p) q
order_append (x ∷ xs) ys a b p q f =
    let apart : (k : ℕ) → bit (2 ^ x) k ≤ 1 - bit b k =
    λ k. elim (ℕ_discrete k x) [
      | yes e ↦ (let n : Has b k → ⊥ = f k (subst (λ (y : ℕ). Has a y) (sym e) p.0) in omega (arith, bit_digit b k, bit_digit (2 ^ x) k))
      | no ne ↦ omega (arith, bit_other x k ne)
    ] in
    let e : bit_or (minus a (2 ^ x)) b ≡ minus (bit_or a b) (2 ^ x) =
    same_bits _ _ (λ k. omega (
      arith,
      bit_of_or (minus a (2 ^ x)) b k,
      bit_minus a (2 ^ x) k,
      bit_minus (bit_or a b) (2 ^ x) k,
      bit_of_or a b k,
      apart k,
      bit_digit a k,
      bit_digit b k,
      bit_digit (2 ^ x) k,
    )) in (
      omega (arith, p.0, bit_of_or a b x, bit_digit b x),
      subst (λ (y : ℕ). Order y (xs ++ ys)) e (order_append xs ys (minus a (2 ^ x)) b p.1 q (λ k h. f k (left_in a x k h))),
    )

-- an order of a part of step, and then one of the others
order_split : (xs ys : List ℕ) (step part : ℕ) → ((k : ℕ) → bit part k ≤ bit step k) → Order part xs → Order (minus step part) ys → Order step (xs ++ ys)
order_split xs ys step part sub p q =
    let e : bit_or part (minus step part) ≡ step =
    same_bits _ _ (λ k. omega (arith, bit_of_or part (minus step part) k, bit_minus step part k, sub k, bit_digit step k, bit_digit part k)) in
    subst (λ (y : ℕ). Order y (xs ++ ys)) e (order_append xs ys part (minus step part) p q
    (λ k h c. omega (arith, h, c, bit_minus step part k, bit_digit step k)))

runs_split : (at : ℕ → Action) (s end : ℕ) (xs ys : List ℕ) (t : ℕ) → Runs at s t (xs ++ ys) end → (m : ℕ) × Runs at s t xs m × Runs at s m ys end
runs_split at s end [] ys t r = (t, refl, r)
runs_split at s end (x ∷ xs) ys t r = let q = runs_split at s end xs ys (result_of (at x) t) r.1 in (q.0, (r.0, q.1), q.2)

runs_one : (at : ℕ → Action) (s : ℕ) (xs : List ℕ) (t a b : ℕ) → Runs at s t xs a → Runs at s t xs b → a ≡ b
runs_one at s [] t a b p q = sym p ∙ q
runs_one at s (x ∷ xs) t a b p q = runs_one at s xs (result_of (at x) t) a b p.1 q.1

-- ---- the numbers below n for which a test holds, as a mask

chosen : (P : Type 0) → Dec P → ℕ → ℕ
chosen P (yes _) n = 2 ^ n
chosen P (no _) n = 0

in_chosen : (P : Type 0) (d : Dec P) (n : ℕ) → P → Has (chosen P d n) n
unfolding chosen
in_chosen P (yes _) n p = bit_one n
in_chosen P (no f) n p = absurd (f p)

chosen_in : (P : Type 0) (d : Dec P) (n k : ℕ) → Has (chosen P d n) k → P × (k ≡ n)
unfolding chosen
chosen_in P (yes p) n k h = (p, elim (ℕ_discrete k n) [ yes e ↦ e | no ne ↦ absurd (let z : ⊥ = omega (arith, h, bit_other n k ne) in z) ])
chosen_in P (no f) n k h = absurd (let z : ⊥ = omega (arith, h, bit_none k) in z)

module _ (P : ℕ → Type 0) (d : (k : ℕ) → Dec (P k)) where
  pick : ℕ → ℕ
  pick zero = 0
  pick (suc n) = bit_or (pick n) (chosen (P n) (d n) n)

  in_pick : (n k : ℕ) → k < n → P k → Has (pick n) k
  unfolding pick
  in_pick zero k lt p = omega arith
  in_pick (suc n) k lt p = elim (ℕ_discrete k n) [
    | yes e ↦ (let h : Has (chosen (P n) (d n) n) k = subst (λ (y : ℕ). Has (chosen (P n) (d n) n) y) (sym e) (in_chosen (P n) (d n) n (subst P e p)) in
        omega (arith, h, bit_of_or (pick n) (chosen (P n) (d n) n) k, bit_digit (pick n) k))
    | no ne ↦ omega (arith, in_pick n k (omega arith) p, bit_of_or (pick n) (chosen (P n) (d n) n) k, bit_digit (chosen (P n) (d n) n) k)
  ]

  pick_in : (n k : ℕ) → Has (pick n) k → P k
  unfolding pick
  pick_in zero k h = absurd (let z : ⊥ = omega (arith, h, bit_none k) in z)
  pick_in (suc n) k h = elim (has? (pick n) k) [
    | yes a ↦ pick_in n k a
    | no a ↦ (let c = chosen_in (P n) (d n) n k (omega (arith, h, bit_of_or (pick n) (chosen (P n) (d n) n) k, bit_digit (chosen (P n) (d n) n) k, bit_digit (pick n) k)) in
        subst P (sym c.1) c.0)
  ]

-- ---- along a run of actions that delete nothing of c

module _ (at : ℕ → Action) (s c : ℕ) where
  kept_along : (xs : List ℕ) (t m part : ℕ) → Order part xs → ((j : ℕ) → Has part j → Apart c (cuts at s j)) → Runs at s t xs m
      → (k : ℕ) → Has c k → Has t k → Has m k
  kept_along [] t m part o f r k hc h = subst (λ (y : ℕ). Has y k) r h
  kept_along (x ∷ xs) t m part o f r k hc h =
      let n : Has (cuts at s x) k → ⊥ = f x o.0 k hc in
      kept_along xs (result_of (at x) t) m (minus part (2 ^ x)) o.1 (λ j hj. f j (left_in part x j hj)) r.1 k hc
      (omega (arith, h, result_bit at x s t k r.0.1, bit_digit (cuts at s x) k, bit_digit (gives at s x) k))

  given_along : (xs : List ℕ) (t m part : ℕ) → Order part xs → ((j : ℕ) → Has part j → Apart c (cuts at s j)) → Runs at s t xs m
      → (j k : ℕ) → Has part j → Has c k → Has (gives at s j) k → Has m k
  given_along [] t m part o f r j k hj hc h = absurd (not_in_none part j o hj)
  given_along (x ∷ xs) t m part o f r j k hj hc h = elim (ℕ_discrete j x) [
    | yes e ↦ (let h' : Has (gives at s x) k = subst (λ (y : ℕ). Has (gives at s y) k) e h in
        kept_along xs (result_of (at x) t) m (minus part (2 ^ x)) o.1 (λ j hj. f j (left_in part x j hj)) r.1 k hc
        (omega (arith, h', result_bit at x s t k r.0.1, net_apart at s x k, bit_digit t k, bit_digit (gives at s x) k)))
    | no ne ↦ given_along xs (result_of (at x) t) m (minus part (2 ^ x)) o.1 (λ j hj. f j (left_in part x j hj)) r.1 j k (left_has part x j hj ne) hc h
  ]

-- ---- a firm step is calm

module _ (at : ℕ → Action) (s step end : ℕ) (lt : step < 2 ^ 64) (every : EveryOrder at s s step end) where
  order_of : (m : ℕ) → m < 2 ^ 64 → (seq : List ℕ) × Order m seq
  order_of m h = some_order (ones m) m h refl

  first : (i : ℕ) → Has step i → Turn (at i) s s
  first i hi = let o = order_of (minus step (2 ^ i)) (minus_lt step (2 ^ i) lt) in (every (i ∷ o.0) (hi, o.1)).0

  second : (i j : ℕ) → Has step i → Has step j → i ≢ j → Turn (at j) s s × Turn (at i) s (result_of (at j) s)
  second i j hi hj ne =
      let m : ℕ = minus (minus step (2 ^ j)) (2 ^ i) in
      let o = order_of m (minus_lt (minus step (2 ^ j)) (2 ^ i) (minus_lt step (2 ^ j) lt)) in
      let r = every (j ∷ i ∷ o.0) (hj, (left_has step j i hi ne, o.1)) in
      (r.0, r.1.0)

  one_in : (i : ℕ) → Has step i → (k : ℕ) → bit (2 ^ i) k ≤ bit step k
  one_in i hi k = elim (ℕ_discrete k i) [
    | yes e ↦ rw e (omega (arith, hi, bit_one i))
    | no ne ↦ omega (arith, bit_other i k ne)
  ]

  last : (i j : ℕ) → Has step i → Has step j → i ≢ j → (m : ℕ) × Runs at s m (i ∷ j ∷ []) end
  last i j hi hj ne =
      let a : ℕ = minus step (2 ^ i) in
      let part : ℕ = minus a (2 ^ j) in
      let o = order_of part (minus_lt a (2 ^ j) (minus_lt step (2 ^ i) lt)) in
      let left : ℕ = minus step part in
      let bits : (k : ℕ) → bit left k ≡ bit step k - (bit step k - bit (2 ^ i) k - bit (2 ^ j) k) =
      λ k. omega (arith, bit_minus step part k, bit_minus a (2 ^ j) k, bit_minus step (2 ^ i) k) in
      let li : Has left i = omega (arith, bits i, hi, bit_one i) in
      let lj : Has left j = omega (arith, bits j, hj, bit_one j) in
      let none : minus (minus left (2 ^ i)) (2 ^ j) ≡ 0 =
      same_bits _ _ (λ k. omega (arith, bit_minus (minus left (2 ^ i)) (2 ^ j) k, bit_minus left (2 ^ i) k, bits k, one_in i hi k, one_in j hj k, bit_none k)) in
      let r = runs_split at s end o.0 (i ∷ j ∷ []) s
      (every (o.0 ++ (i ∷ j ∷ [])) (order_split o.0 (i ∷ j ∷ []) step part
      (λ k. omega (arith, bit_minus a (2 ^ j) k, bit_minus step (2 ^ i) k)) o.1 (li, (left_has left i j lj (λ e. ne (sym e)), none)))) in
      (r.0, r.2)

  rests : (i : ℕ) → Has step i → (e : EffectRow) → Among e (at i).effects → (T (fires s e) → ⊥)
      → ((k : ℕ) → Has e.condition k → Has s k ⊎ Gets at s step i e.condition k) → ⊥
  rests i hi e among nf hyp =
      let P : ℕ → Type 0 = λ j. bit_and e.condition (cuts at s j) ≡ 0 in
      let d : (j : ℕ) → Dec (P j) = λ j. ℕ_discrete (bit_and e.condition (cuts at s j)) 0 in
      let b : ℕ = bit_and step (pick P d 64) in
      let part : ℕ = minus b (2 ^ i) in
      let sub : (k : ℕ) → bit part k ≤ bit step k = λ k. omega (arith, bit_minus b (2 ^ i) k, bit_of_and step (pick P d 64) k) in
      let apart : (j : ℕ) → Has part j → Apart e.condition (cuts at s j) =
      λ j hj k h c.
      let p : P j = pick_in P d 64 j (omega (arith, bit_of_and step (pick P d 64) j, left_in b i j hj, bit_digit (pick P d 64) j)) in
      omega (arith, h, c, bit_of_and e.condition (cuts at s j) k, ap (λ (y : ℕ). bit y k) p, bit_none k) in
      let member : (j : ℕ) → Has step j → j ≢ i → Apart e.condition (cuts at s j) → Has part j =
      λ j hj ne f.
      let p : P j = apart_and e.condition (cuts at s j) f in
      left_has b i j (omega (arith, hj, bit_of_and step (pick P d 64) j, in_pick P d 64 j (has_lt step j lt hj) p)) ne in
      let o = order_of part (minus_lt b (2 ^ i) (omega (arith, and_le_l step (pick P d 64)))) in
      let left : ℕ = minus step part in
      let li : Has left i = omega (arith, hi, bit_minus step part i, bit_minus b (2 ^ i) i, bit_one i, bit_digit b i) in
      let q = order_of (minus left (2 ^ i)) (minus_lt left (2 ^ i) (minus_lt step part lt)) in
      let r = runs_split at s end o.0 (i ∷ q.0) s (every (o.0 ++ (i ∷ q.0)) (order_split o.0 (i ∷ q.0) step part sub o.1 (li, q.1))) in
      let alike = alike_at (at i).effects s r.0 r.2.0.1 e among in
      nf (subst T (sym alike) (inside_fires r.0 e (λ k h. elim (hyp k h) [
        | inl a ↦ kept_along at s e.condition o.0 s r.0 part o.1 apart r.1 k h a
        | inr g ↦ given_along at s e.condition o.0 s r.0 part o.1 apart r.1 g.0 k (member g.0 g.1 g.2 g.3) h g.4
      ])))

  pub firm_calm : Calm at s step
  firm_calm = record {
    ready = λ i hi. (first i hi).0;
    clash = λ i j hi hj ne k g c.
        let m : ℕ = (last i j hi hj ne).0 in
        let n : ℕ = (last j i hj hi (λ e. ne (sym e))).0 in
        let p = (last i j hi hj ne).1 in
        let q = (last j i hj hi (λ e. ne (sym e))).1 in
        omega (
          arith,
          g,
          c,
          ap (λ (y : ℕ). bit y k) p.1.1,
          ap (λ (y : ℕ). bit y k) q.1.1,
          result_bit at j s _ k p.1.0.1,
          result_bit at i s _ k q.1.0.1,
          net_apart at s i k,
          bit_digit (gives at s i) k,
          bit_digit (gives at s j) k,
          bit_digit (result_of (at i) m) k,
          bit_digit (result_of (at j) n) k,
        );
    needs = λ i j hi hj ne k h c.
        let q = second i j hi hj ne in
        omega (arith, q.1.0 k h, c, result_bit at j s s k q.0.1, bit_digit s k, bit_digit (gives at s j) k);
    holds = λ i j hi hj ne e among f k h c.
        let q = second i j hi hj ne in
        let f' = subst T (alike_at (at i).effects s (result_of (at j) s) q.1.1 e among) f in
        omega (arith, fires_inside (result_of (at j) s) e f' k h, c, result_bit at j s s k q.0.1, bit_digit s k, bit_digit (gives at s j) k);
    rests = rests;
  }

  pub firm_ends : Ends at s step end
  firm_ends =
      let e = calm_ends at s step firm_calm lt in
      let o = order_of step lt in
      subst (λ (y : ℕ). Ends at s step y)
      (runs_one at s o.0 s e.0 end (calm_every at s step firm_calm e.0 e.1 o.0 o.1) (every o.0 o.1)) e.1

-- ---- a part of a calm step is calm, and so a part of a firm step is firm

pub part_calm : (at : ℕ → Action) (s step part : ℕ) → Inside part step → Calm at s step → Calm at s part
part_calm at s step part sub c = record {
  ready = λ i hi. c.ready i (sub i hi);
  clash = λ i j hi hj. c.clash i j (sub i hi) (sub j hj);
  needs = λ i j hi hj. c.needs i j (sub i hi) (sub j hj);
  holds = λ i j hi hj. c.holds i j (sub i hi) (sub j hj);
  rests = λ i hi e among nf hyp. c.rests i (sub i hi) e among nf
      (λ k h. elim (hyp k h) [ inl a ↦ inl a | inr g ↦ inr (g.0, sub g.0 g.1, g.2, g.3, g.4) ]);
}

pub part_firm : (at : ℕ → Action) (s step part end : ℕ) → step < 2 ^ 64 → part < 2 ^ 64 → Inside part step
    → EveryOrder at s s step end → (end' : ℕ) × EveryOrder at s s part end'
part_firm at s step part end lt lt' sub f =
    let c = part_calm at s step part sub (firm_calm at s step end lt f) in
    let e = calm_ends at s part c lt' in
    (e.0, calm_every at s part c e.0 e.1)
