-- How many different positions there can be: each is a number below 32 × 3 ^ m.
use Rattle.std.proofs.Common.{◌≡◌, ℕ, zero, suc, ◌+◌, ◌-◌, ◌*◌, ◌/◌, ◌%◌, ◌^◌, ◌<◌, ◌≤◌, ◌⊎◌, List, [], ◌∷◌, map, length, sym, refl, ap, ◌∙◌, subst, inl, inr, ⊎_elim, pow-suc, arith}
use native.Mathlib.Decide.{ℕ_discrete}
use lib.ListN.{length-map}
use Rattle.sets.specs.Sets.{Apart}
use Rattle.sets.proofs.Bits.{bit_zero, bit_suc}
use Rattle.sets.proofs.Members.{within_below}
use Rattle.sets.specs.Listed.{Among, Different}
use Rattle.store.specs.Positions.{Target, Proper, NamesBelow}
use Rattle.store.specs.Histories.{PositionsOver, PositionsAtMost}

-- a list without the first place of x
take_out : {A : Type 0} (x : A) (ys : List A) → Among x ys
    → (zs : List A) × (length ys ≡ suc (length zs)) × ((y : A) → Among y ys → (y ≡ x) ⊎ Among y zs)
take_out x [] h = absurd h
take_out x (y ∷ ys) (inl e) = (ys, refl, λ z h. elim h [ inl e' ↦ inl (e' ∙ sym e) | inr h' ↦ inr h' ])
take_out x (y ∷ ys) (inr h) =
    let r = take_out x ys h in
    (y ∷ r.0, ap suc r.1, λ z h'. elim h' [ inl e' ↦ inr (inl e') | inr h'' ↦ ⊎_elim inl (λ k. inr (inr k)) (r.2 z h'') ])

-- a list of different things, all of which stand in another list, is no longer than that one
pub at_most : {A : Type 0} (xs ys : List A) → Different xs → ((x : A) → Among x xs → Among x ys) → length xs ≤ length ys
at_most [] ys d f = omega arith
at_most {A} (x ∷ xs) ys d f =
    let r = take_out x ys (f x (inl refl)) in
    let rest : (z : A) → Among z xs → Among z r.0 =
    λ z h. elim (r.2 z (f z (inr h))) [ inl e ↦ absurd (d.0 (subst (λ (y : A). Among y xs) e h)) | inr k ↦ k ] in
    omega (arith, at_most xs r.0 d.1 rest, r.1)

upto : ℕ → List ℕ
upto zero = []
upto (suc n) = n ∷ upto n

upto_length : (n : ℕ) → length (upto n) ≡ n
unfolding upto
upto_length zero = refl
upto_length (suc n) = ap suc (upto_length n)

upto_has : (n k : ℕ) → k < n → Among k (upto n)
unfolding upto
upto_has zero k h = absurd (let z : ⊥ = omega arith in z)
upto_has (suc n) k h = elim (ℕ_discrete k n) [ yes e ↦ inl e | no ne ↦ inr (upto_has n k (omega arith)) ]

-- different numbers below n are at most n
pub below_at_most : (n : ℕ) (xs : List ℕ) → Different xs → ((x : ℕ) → Among x xs → x < n) → length xs ≤ n
below_at_most n xs d f = omega (arith, at_most xs (upto n) d (λ x h. upto_has n x (f x h)), upto_length n)

-- two sets apart over m atoms, as one number below 3 ^ m
code : ℕ → ℕ → ℕ → ℕ
code zero a b = 0
code (suc m) a b = (a % 2 + 2 * (b % 2)) + 3 * code m (a / 2) (b / 2)

-- the sets, one atom on
halves_apart : (a b : ℕ) → Apart a b → Apart (a / 2) (b / 2)
halves_apart a b h k ha hb = h (suc k) (bit_suc a k ∙ ha) (bit_suc b k ∙ hb)

one_digit : (a b : ℕ) → Apart a b → a % 2 + b % 2 < 2
one_digit a b h = elim (ℕ_discrete (a % 2) 1) [
  | yes e ↦ elim (ℕ_discrete (b % 2) 1) [ yes e' ↦ absurd (h 0 (bit_zero a ∙ e) (bit_zero b ∙ e')) | no ne ↦ omega arith ]
  | no ne ↦ omega arith
]

code_lt : (m a b : ℕ) → Apart a b → code m a b < 3 ^ m
unfolding code
code_lt zero a b h = omega arith
code_lt (suc m) a b h = omega (arith, pow-suc 3 m, one_digit a b h, code_lt m (a / 2) (b / 2) (halves_apart a b h))

thirds : (d x e y : ℕ) → d < 3 → e < 3 → d + 3 * x ≡ e + 3 * y → (d ≡ e) × (x ≡ y)
thirds d x e y l l' h =
    let i : (d + 3 * x) / 3 ≡ x = omega arith in
    let j : (e + 3 * y) / 3 ≡ y = omega arith in
    let k : x ≡ y = sym i ∙ ap (λ (z : ℕ). z / 3) h ∙ j in
    (omega arith, k)

-- the two digits of one atom
digits : (a b c d : ℕ) → a + b < 2 → c + d < 2 → a + 2 * b ≡ c + 2 * d → (a ≡ c) × (b ≡ d)
digits zero b zero d h h' e = (refl, omega arith)
digits zero b (suc c) d h h' e = absurd (let z : ⊥ = omega arith in z)
digits (suc a) b zero d h h' e = absurd (let z : ⊥ = omega arith in z)
digits (suc a) b (suc c) d h h' e = (omega arith, omega arith)

code_same : (m a b c d : ℕ) → a < 2 ^ m → b < 2 ^ m → c < 2 ^ m → d < 2 ^ m → Apart a b → Apart c d → code m a b ≡ code m c d → (a ≡ c) × (b ≡ d)
unfolding code
code_same zero a b c d la lb lc ld h h' e = (omega arith, omega arith)
code_same (suc m) a b c d la lb lc ld h h' e =
    let i = one_digit a b h in
    let j = one_digit c d h' in
    let split = thirds (a % 2 + 2 * (b % 2)) (code m (a / 2) (b / 2)) (c % 2 + 2 * (d % 2)) (code m (c / 2) (d / 2)) (omega arith) (omega arith) e in
    let low = digits (a % 2) (b % 2) (c % 2) (d % 2) i j split.0 in
    let p = pow-suc 2 m in
    let r = code_same m (a / 2) (b / 2) (c / 2) (d / 2) (omega arith) (omega arith) (omega arith) (omega arith) (halves_apart a b h) (halves_apart c d h') split.1 in
    (omega (arith, r.0, low.0), omega (arith, r.1, low.1))

levels_same : (x y a b : ℕ) → 1 ≤ a → a ≤ 32 → 1 ≤ b → b ≤ 32 → 32 * x + (a - 1) ≡ 32 * y + (b - 1) → (a ≡ b) × (x ≡ y)
levels_same x y a b la ha lb hb h =
    let i : (32 * x + (a - 1)) / 32 ≡ x = omega arith in
    let j : (32 * y + (b - 1)) / 32 ≡ y = omega arith in
    let k : x ≡ y = sym i ∙ ap (λ (z : ℕ). z / 32) h ∙ j in
    (omega arith, k)

-- a position over m atoms, as one number
number_of : ℕ → Target → ℕ
number_of m q = 32 * code m q.goal.need q.goal.avoid + (q.level - 1)

number_lt : (m : ℕ) (q : Target) → Proper q → number_of m q < 32 * 3 ^ m
unfolding number_of
number_lt m q h = omega (arith, code_lt m q.goal.need q.goal.avoid h.apart, h.ranked.0, h.ranked.1)

number_same : (m : ℕ) (q r : Target) → Proper q × NamesBelow m q → Proper r × NamesBelow m r → number_of m q ≡ number_of m r → q ≡ r
unfolding number_of
number_same m q r h h' e =
    let s = levels_same (code m q.goal.need q.goal.avoid) (code m r.goal.need r.goal.avoid) q.level r.level
    h.0.ranked.0 h.0.ranked.1 h'.0.ranked.0 h'.0.ranked.1 e in
    let c = code_same m q.goal.need q.goal.avoid r.goal.need r.goal.avoid
    (within_below m _ h.1.need) (within_below m _ h.1.avoid) (within_below m _ h'.1.need) (within_below m _ h'.1.avoid)
    h.0.apart h'.0.apart s.1 in
    λ i. record { level = s.0 i; goal = record { need = c.0 i; avoid = c.1 i } }

numbers_among : (m : ℕ) (q : Target) (qs : List Target) → Proper q × NamesBelow m q → PositionsOver m qs
    → Among (number_of m q) (map (number_of m) qs) → Among q qs
numbers_among m q [] h f a = a
numbers_among m q (r ∷ qs) h f (inl e) = inl (number_same m q r h (f r (inl refl)) e)
numbers_among m q (r ∷ qs) h f (inr a) = inr (numbers_among m q qs h (λ x y. f x (inr y)) a)

numbers_different : (m : ℕ) (qs : List Target) → PositionsOver m qs → Different qs → Different (map (number_of m) qs)
numbers_different m [] f d = tt
numbers_different m (q ∷ qs) f d =
    (λ a. d.0 (numbers_among m q qs (f q (inl refl)) (λ x y. f x (inr y)) a), numbers_different m qs (λ x y. f x (inr y)) d.1)

numbers_lt : (m : ℕ) (qs : List Target) → PositionsOver m qs → (x : ℕ) → Among x (map (number_of m) qs) → x < 32 * 3 ^ m
numbers_lt m [] f x a = absurd a
numbers_lt m (q ∷ qs) f x (inl e) = rw e (number_lt m q (f q (inl refl)).0)
numbers_lt m (q ∷ qs) f x (inr a) = numbers_lt m qs (λ r y. f r (inr y)) x a

pub few_positions : PositionsAtMost (λ m. 32 * 3 ^ m)
few_positions m qs f d =
    omega (arith, below_at_most (32 * 3 ^ m) (map (number_of m) qs) (numbers_different m qs f d) (numbers_lt m qs f), length-map qs (number_of m))
