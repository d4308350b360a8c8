-- Members of a mask, bit by bit: `omega` reads these laws.
use Rattle.std.proofs.Common.{◌≡◌, ℕ, zero, suc, ◌-◌, ◌/◌, ◌%◌, ◌^◌, ◌<◌, ◌≤◌, min, max, sym, refl, ap, ◌∙◌, mul_comm, pow-suc, arith}
use native.Mathlib.Nat.{div-div-eq-div-mul, zero-div}
use native.Mathlib.Decide.{dec_le, ℕ_discrete}
use lib.Arith.{bin_ind}
use lib.Bits.{bit_and, bit_or, and_le_l, and_step, or_step, and_shr, or_shr}
use Rattle.sets.specs.Sets.{bit, Has, Inside, Apart, minus, Marks}

pub bit_digit : (s k : ℕ) → bit s k < 2
unfolding bit
bit_digit s k = omega arith

pub bit_zero : (s : ℕ) → bit s 0 ≡ s % 2
unfolding bit
bit_zero s = omega arith

pub bit_suc : (s k : ℕ) → bit s (suc k) ≡ bit (s / 2) k
unfolding bit
bit_suc s k = rw (pow-suc, mul_comm) (ap (λ (x : ℕ). x % 2) (sym (div-div-eq-div-mul s 2 (2 ^ k))))

pub bit_of_or : (a b k : ℕ) → bit (bit_or a b) k ≡ max (bit a k) (bit b k)
unfolding bit
bit_of_or a b k = rw or_shr (omega (arith, or_step (a / 2 ^ k) (b / 2 ^ k)))

pub bit_of_and : (a b k : ℕ) → bit (bit_and a b) k ≡ min (bit a k) (bit b k)
unfolding bit
bit_of_and a b k = rw and_shr (omega (arith, and_step (a / 2 ^ k) (b / 2 ^ k)))

pub bit_none : (k : ℕ) → bit 0 k ≡ 0
unfolding bit
bit_none k = rw zero-div

-- a mask below 2 ^ w has no member from w on
pub bit_past : (w s k : ℕ) → s < 2 ^ w → w ≤ k → bit s k ≡ 0
bit_past zero s k h le = let e : s ≡ 0 = omega arith in rw e (bit_none k)
bit_past (suc w) s zero h le = omega arith
bit_past (suc w) s (suc k) h le = rw bit_suc (bit_past w (s / 2) k (omega (arith, pow-suc 2 w)) (omega arith))

-- equal members, equal masks
pub empty_of : (b : ℕ) → ((k : ℕ) → bit b k ≡ 0) → b ≡ 0
empty_of =
    bin_ind (λ b. ((k : ℕ) → bit b k ≡ 0) → b ≡ 0) (λ _. refl)
    (λ n ih f. let h : n / 2 ≡ 0 = ih (λ k. sym (bit_suc n k) ∙ f (suc k)) in omega (arith, f 0, bit_zero n))

pub same_bits : (a b : ℕ) → ((k : ℕ) → bit a k ≡ bit b k) → a ≡ b
same_bits =
    bin_ind (λ a. (b : ℕ) → ((k : ℕ) → bit a k ≡ bit b k) → a ≡ b) (λ b f. sym (empty_of b (λ k. sym (f k) ∙ bit_none k)))
    (λ n ih b f.
    let h : n / 2 ≡ b / 2 = ih (b / 2) (λ k. sym (bit_suc n k) ∙ f (suc k) ∙ bit_suc b k) in
    omega (arith, f 0, bit_zero n, bit_zero b))

digit_le : (x y : ℕ) → x < 2 → (x ≡ 1 → y ≡ 1) → x ≤ y
digit_le zero y h f = omega arith
digit_le (suc zero) y h f = omega (arith, f refl)
digit_le (suc (suc x)) y h f = omega arith

-- inclusion, bit by bit: the form that `omega` reads
pub inside_le : (a b : ℕ) → Inside a b → (k : ℕ) → bit a k ≤ bit b k
inside_le a b f k = digit_le (bit a k) (bit b k) (bit_digit a k) (f k)

pub le_inside : (a b : ℕ) → ((k : ℕ) → bit a k ≤ bit b k) → Inside a b
le_inside a b f k h = omega (arith, f k, bit_digit b k)

pub same_members : (a b : ℕ) → Inside a b → Inside b a → a ≡ b
same_members a b f g = same_bits a b (λ k. omega (arith, inside_le a b f k, inside_le b a g k))

-- the complement in w bits
pub bit_not : (w b k : ℕ) → b < 2 ^ w → k < w → bit (2 ^ w - 1 - b) k ≡ 1 - bit b k
bit_not zero b k h lt = omega arith
bit_not (suc w) b zero h lt = omega (arith, bit_zero (2 ^ suc w - 1 - b), bit_zero b, pow-suc 2 w)
bit_not (suc w) b (suc k) h lt =
    let e : (2 ^ suc w - 1 - b) / 2 ≡ 2 ^ w - 1 - b / 2 = omega (arith, pow-suc 2 w) in
    let hb : b / 2 < 2 ^ w = omega (arith, pow-suc 2 w) in
    let lt' : k < w = omega arith in
    rw (bit_suc (2 ^ suc w - 1 - b) k, bit_suc b k, e) (bit_not w (b / 2) k hb lt')

pub bit_minus : (a b k : ℕ) → bit (minus a b) k ≡ bit a k - bit b k
unfolding minus
bit_minus a b zero = omega (arith, and_step a b, and_le_l (a / 2) (b / 2), bit_zero (a - bit_and a b), bit_zero a, bit_zero b)
bit_minus a b (suc k) =
    let e : (a - bit_and a b) / 2 ≡ a / 2 - bit_and (a / 2) (b / 2) = omega (arith, and_step a b, and_le_l (a / 2) (b / 2)) in
    rw (bit_suc (a - bit_and a b) k, bit_suc a k, bit_suc b k, e) (bit_minus (a / 2) (b / 2) k)

-- `a & !b`
pub and_not : (a b : ℕ) → a < 2 ^ 64 → b < 2 ^ 64 → bit_and a (2 ^ 64 - 1 - b) ≡ minus a b
and_not a b ha hb =
    same_bits _ _ (λ k. elim (dec_le 64 k) [
      | yes past ↦ omega (arith, bit_of_and a (2 ^ 64 - 1 - b) k, bit_minus a b k, bit_past 64 a k ha past)
      | no below ↦ omega (arith, bit_of_and a (2 ^ 64 - 1 - b) k, bit_minus a b k, bit_not 64 b k hb (omega arith), bit_digit a k)
    ])

pub minus_le : (a b : ℕ) → minus a b ≤ a
unfolding minus
minus_le a b = omega arith

-- inclusion is one test
pub inside_and : (a b : ℕ) → Inside a b → bit_and a b ≡ a
inside_and a b f = same_bits (bit_and a b) a (λ k. omega (arith, bit_of_and a b k, inside_le a b f k))

pub and_inside : (a b : ℕ) → bit_and a b ≡ a → Inside a b
and_inside a b e k h = omega (arith, bit_of_and a b k, ap (λ (x : ℕ). bit x k) e, bit_digit b k)

-- being apart is one test
digits_apart : (x y : ℕ) → x < 2 → y < 2 → (x ≡ 1 → y ≡ 1 → ⊥) → min x y ≡ 0
digits_apart zero y hx hy f = omega arith
digits_apart (suc x) zero hx hy f = omega arith
digits_apart (suc x) (suc y) hx hy f = absurd (f (omega arith) (omega arith))

pub apart_and : (a b : ℕ) → Apart a b → bit_and a b ≡ 0
apart_and a b f =
    same_bits _ _ (λ k. bit_of_and a b k ∙ digits_apart (bit a k) (bit b k) (bit_digit a k) (bit_digit b k) (f k) ∙ sym (bit_none k))

pub and_apart : (a b : ℕ) → bit_and a b ≡ 0 → Apart a b
and_apart a b e k ha hb = omega (arith, ha, hb, bit_of_and a b k, ap (λ (x : ℕ). bit x k) e, bit_none k)

-- membership can be told
pub has? : (s k : ℕ) → Dec (Has s k)
has? s k = ℕ_discrete (bit s k) 1

-- what a has and b has not, by its members
pub minus_marks : (a b : ℕ) → Marks (minus a b) (λ k. Has a k × (Has b k → ⊥))
minus_marks a b = record {
  only = λ k h. (omega (arith, h, bit_minus a b k, bit_digit a k), λ hb. omega (arith, h, hb, bit_minus a b k, bit_digit a k));
  all = λ k h. let n : Has b k → ⊥ = h.1 in omega (arith, h.0, bit_minus a b k, bit_digit b k);
}
