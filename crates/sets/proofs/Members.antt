-- One member of a mask, the lowest, and how many there are.
use Rattle.std.proofs.Common.{◌≡◌, ℕ, zero, suc, ◌+◌, ◌-◌, ◌*◌, ◌/◌, ◌%◌, ◌^◌, ◌<◌, ◌≤◌, min, ◌≢◌, sym, refl, ap, ◌∙◌, subst, div-lt_iff_lt-mul, pow-suc, arith, pow_pos, shr-shr}
use native.Mathlib.Decide.{dec_le, ℕ_discrete}
use lib.Arith.{bin_ind}
use lib.Pow.{pow-lt}
use lib.Bits.{bit_and, or_disjoint, and_self, and_step, and_le_r}
use lib.Count.{ones, ones-le, ones_step, count_trailing_zeros, under}
use Rattle.sets.specs.Sets.{bit, Has, Inside, Within, minus, Lowest, Marks}
use Rattle.sets.proofs.Bits.{bit_digit, bit_zero, bit_suc, bit_of_or, bit_of_and, bit_none, bit_past, same_bits, bit_minus, bit_not, minus_le, empty_of, inside_le, inside_and}

-- the set of one number
pub bit_one : (j : ℕ) → Has (2 ^ j) j
bit_one zero = bit_zero 1
bit_one (suc j) = let e : 2 ^ suc j / 2 ≡ 2 ^ j = omega (arith, pow-suc 2 j) in rw (bit_suc, e) (bit_one j)

pub bit_other : (j k : ℕ) → k ≢ j → bit (2 ^ j) k ≡ 0
bit_other zero zero ne = absurd (ne refl)
bit_other zero (suc k) ne = rw bit_suc (bit_none k)
bit_other (suc j) zero ne = omega (arith, bit_zero (2 ^ suc j), pow-suc 2 j)
bit_other (suc j) (suc k) ne =
    let e : 2 ^ suc j / 2 ≡ 2 ^ j = omega (arith, pow-suc 2 j) in
    rw (bit_suc, e) (bit_other j k (λ p. ne (ap suc p)))

-- to leave out one member takes its power of two away
pub minus_one : (s j : ℕ) → Has s j → minus s (2 ^ j) + 2 ^ j ≡ s
minus_one s j h =
    let one : (k : ℕ) → bit (2 ^ j) k ≤ bit s k =
    λ k. elim (ℕ_discrete k j) [
      | yes e ↦ rw e (omega (arith, h, bit_one j))
      | no ne ↦ omega (arith, bit_other j k ne)
    ] in
    let apart : bit_and (minus s (2 ^ j)) (2 ^ j) ≡ 0 =
    same_bits _ _ (λ k. omega (arith, bit_of_and (minus s (2 ^ j)) (2 ^ j) k, bit_minus s (2 ^ j) k, bit_digit s k, bit_digit (2 ^ j) k, bit_none k)) in
    sym (or_disjoint (minus s (2 ^ j)) (2 ^ j) apart)
    ∙ same_bits _ _ (λ k. omega (arith, bit_of_or (minus s (2 ^ j)) (2 ^ j) k, bit_minus s (2 ^ j) k, one k, bit_digit s k, bit_digit (2 ^ j) k))

ones_more : (j x : ℕ) → bit x j ≡ 0 → ones (x + 2 ^ j) ≡ suc (ones x)
ones_more zero x h =
    let e : (x + 1) / 2 ≡ x / 2 = omega (arith, bit_zero x) in
    omega (arith, bit_zero x, ones_step x, ones_step (x + 1), ap ones e)
ones_more (suc j) x h =
    let e : (x + 2 ^ suc j) / 2 ≡ x / 2 + 2 ^ j = omega (arith, pow-suc 2 j) in
    omega (arith, pow-suc 2 j, ones_step x, ones_step (x + 2 ^ suc j), ap ones e, ones_more j (x / 2) (sym (bit_suc x j) ∙ h))

-- and one from the count
pub ones_minus : (s j : ℕ) → Has s j → suc (ones (minus s (2 ^ j))) ≡ ones s
ones_minus s j h =
    sym (ones_more j (minus s (2 ^ j)) (omega (arith, bit_minus s (2 ^ j) j, bit_one j, h))) ∙ ap ones (minus_one s j h)

-- t is the lowest member, and `s & (s - 1)` is s without it
record Low (w s t : ℕ) : Type 0 where
  pub under_w : t < w
  pub member : Has s t
  pub rest : bit_and s (s - 1) + 2 ^ t ≡ s
  pub none : (j : ℕ) → j < t → bit s j ≡ 0

low_even : (s t : ℕ) → s % 2 ≡ 0 → ((j : ℕ) → j < t → bit (s / 2) j ≡ 0) → (j : ℕ) → j < suc t → bit s j ≡ 0
low_even s t e f zero h = omega (arith, bit_zero s)
low_even s t e f (suc j) h = bit_suc s j ∙ f j (omega arith)

low_step : (w s d t : ℕ) → s % 2 ≡ d → 0 < s → s < 2 ^ suc w → (0 < s / 2 → Low w (s / 2) t) → Low (suc w) s (under d t)
low_step w s zero t e p h ih =
    let r = ih (omega arith) in
    let half : (s - 1) / 2 ≡ s / 2 - 1 = omega arith in
    let b : bit_and s (s - 1) ≡ bit_and (s / 2) (s / 2 - 1) * 2 + min (s % 2) ((s - 1) % 2) =
    rw half at (and_step s (s - 1)) in
    record {
      under_w = omega (arith, r.under_w);
      member = bit_suc s t ∙ r.member;
      rest = omega (arith, b, pow-suc 2 t, r.rest);
      none = low_even s t e r.none;
    }
low_step w s (suc d) t e p h ih =
    let half : (s - 1) / 2 ≡ s / 2 = omega arith in
    let b : bit_and s (s - 1) ≡ bit_and (s / 2) (s / 2) * 2 + min (s % 2) ((s - 1) % 2) = rw half at (and_step s (s - 1)) in
    record {
      under_w = omega arith;
      member = omega (arith, bit_zero s);
      rest = omega (arith, b, and_self (s / 2));
      none = λ j z. absurd (let n : ⊥ = omega arith in n);
    }

low : (w s : ℕ) → 0 < s → s < 2 ^ w → Low w s (count_trailing_zeros w s)
unfolding count_trailing_zeros
low zero s p h = absurd (let z : ⊥ = omega arith in z)
low (suc w) s p h =
    low_step w s (s % 2) (count_trailing_zeros w (s / 2)) refl p h (λ q. low w (s / 2) q (omega (arith, pow-suc 2 w)))

pub low_lt : (s : ℕ) → 0 < s → s < 2 ^ 64 → count_trailing_zeros 64 s < 64
low_lt s p h = (low 64 s p h).under_w

pub low_has : (s : ℕ) → 0 < s → s < 2 ^ 64 → Has s (count_trailing_zeros 64 s)
low_has s p h = (low 64 s p h).member

-- a shift of 1 below 64 fits
pub one_fits : (j : ℕ) → j < 64 → 2 ^ j < 2 ^ 64
one_fits j h = pow-lt h

pub low_rest : (s : ℕ) → 0 < s → s < 2 ^ 64 → bit_and s (s - 1) ≡ minus s (2 ^ count_trailing_zeros 64 s)
low_rest s p h =
    let t : ℕ = count_trailing_zeros 64 s in
    omega (arith, (low 64 s p h).rest, minus_one s t (low_has s p h))

-- every member of a mask of 64 bits is below 64
pub has_lt : (s k : ℕ) → s < 2 ^ 64 → Has s k → k < 64
has_lt s k h m = elim (dec_le 64 k) [ yes past ↦ absurd (let z : ⊥ = omega (arith, bit_past 64 s k h past) in z) | no below ↦ omega arith ]

pub minus_lt : (a b : ℕ) → a < 2 ^ 64 → minus a b < 2 ^ 64
minus_lt a b h = omega (arith, minus_le a b)

-- a mask with no member is 0, and one with a member is not
pub none_zero : (s : ℕ) → ones s ≡ 0 → s ≡ 0
none_zero = bin_ind (λ s. ones s ≡ 0 → s ≡ 0) (λ _. refl) (λ n ih e. omega (arith, ones_step n, ih (omega (arith, ones_step n))))

-- the members from n on, counted from n
pub bit_shift : (s n k : ℕ) → bit (s / 2 ^ n) k ≡ bit s (n + k)
unfolding bit
bit_shift s n k = ap (λ (x : ℕ). x % 2) (shr-shr s n k)

pub all_below : (s n : ℕ) → s / 2 ^ n ≡ 0 → (k : ℕ) → Has s k → k < n
all_below s n e k h = elim (dec_le n k) [
  | yes past ↦ absurd (
      let j : ℕ = k - n in
      let i : n + j ≡ k = omega arith in
      let z : ⊥ = omega (arith, h, ap (λ (x : ℕ). bit s x) i, bit_shift s n j, ap (λ (x : ℕ). bit x j) e, bit_none j) in z)
  | no below ↦ omega arith
]

pub below_all : (s n : ℕ) → ((k : ℕ) → Has s k → k < n) → s / 2 ^ n ≡ 0
below_all s n f =
    empty_of (s / 2 ^ n) (λ k. elim (ℕ_discrete (bit s (n + k)) 1) [
      | yes h ↦ absurd (let z : ⊥ = omega (arith, f (n + k) h) in z)
      | no h ↦ omega (arith, bit_shift s n k, bit_digit s (n + k))
    ])

-- a set below 2 ^ m has only members below m, and the other way round
pub below_within : (m s : ℕ) → s < 2 ^ m → Within m s
below_within m s lt k h = elim (dec_le m k) [ yes past ↦ absurd (let z : ⊥ = omega (arith, h, bit_past m s k lt past) in z) | no below ↦ omega arith ]

pub within_below : (m s : ℕ) → Within m s → s < 2 ^ m
within_below m s f =
    let lt : s < 1 * 2 ^ m = (div-lt_iff_lt-mul {k = 2 ^ m} {x = s} {y = 1} (pow_pos m)).0 (omega (arith, below_all s m f)) in
    omega arith

-- the empty set, and what has no member
pub not_in_none : (s k : ℕ) → s ≡ 0 → Has s k → ⊥
not_in_none s k e h = omega (arith, h, ap (λ (x : ℕ). bit x k) e, bit_none k)

pub none_marks : (P : ℕ → Type 0) → ((k : ℕ) → P k → ⊥) → Marks 0 P
none_marks P f = record { only = λ k h. absurd (not_in_none 0 k refl h); all = λ k p. absurd (f k p) }

-- to leave out a number past the mask leaves it as it is
pub minus_past : (s j : ℕ) → s < 2 ^ 64 → 64 ≤ j → s ≡ minus s (2 ^ j)
minus_past s j lt past = same_bits _ _ (λ k. elim (ℕ_discrete k j) [
  | yes e ↦ omega (arith, bit_minus s (2 ^ j) k, bit_past 64 s k lt (omega arith))
  | no ne ↦ omega (arith, bit_minus s (2 ^ j) k, bit_other j k ne)
])

pub low_lowest : (s : ℕ) → 0 < s → s < 2 ^ 64 → Lowest s (count_trailing_zeros 64 s)
low_lowest s p h =
    let r = low 64 s p h in
    record {
      member = r.member;
      least = λ j hj. elim (dec_le (count_trailing_zeros 64 s) j) [
        | yes le ↦ le
        | no gt ↦ absurd (let z : ⊥ = omega (arith, hj, r.none j (omega arith)) in z)
      ];
    }

-- a set has one lowest member
pub lowest_one : (s j k : ℕ) → Lowest s j → Lowest s k → j ≡ k
lowest_one s j k p q = omega (arith, p.least k q.member, q.least j p.member)

pub rest_marks : (s : ℕ) → 0 < s → s < 2 ^ 64 → Marks (bit_and s (s - 1)) (λ k. Has s k × (Lowest s k → ⊥))
rest_marks s p h =
    let t : ℕ = count_trailing_zeros 64 s in
    let bits : (k : ℕ) → bit (bit_and s (s - 1)) k ≡ bit s k - bit (2 ^ t) k =
    λ k. ap (λ (x : ℕ). bit x k) (low_rest s p h) ∙ bit_minus s (2 ^ t) k in
    record {
      only = λ k m. (
        omega (arith, m, bits k, bit_digit s k),
        λ l. let e : k ≡ t = lowest_one s k t l (low_lowest s p h) in
            let one : Has (2 ^ t) k = subst (λ (x : ℕ). Has (2 ^ t) x) (sym e) (bit_one t) in
            omega (arith, m, bits k, bit_digit s k, one),
      );
      all = λ k m. elim (ℕ_discrete k t) [
        | yes e ↦ absurd (m.1 (subst (λ (x : ℕ). Lowest s x) (sym e) (low_lowest s p h)))
        | no ne ↦ omega (arith, m.0, bits k, bit_other t k ne)
      ];
    }

-- what `1 << j` is
pub shift_one : (j : ℕ) → j < 64 → 1 * 2 ^ j % 18446744073709551616 ≡ 2 ^ j
shift_one j lt = omega (arith, one_fits j lt)

-- the set of one number
pub single_marks : (j : ℕ) → j < 64 → Marks (2 ^ j) (λ k. (k ≡ j) × (k < 64))
single_marks j lt = record {
  only = λ k h. elim (ℕ_discrete k j) [
    | yes e ↦ (e, omega (arith, e))
    | no ne ↦ absurd (let z : ⊥ = omega (arith, h, bit_other j k ne) in z)
  ];
  all = λ k h. subst (λ (x : ℕ). Has (2 ^ j) x) (sym h.0) (bit_one j);
}

-- the set of all numbers below m
pub all_marks : (m : ℕ) → Marks (2 ^ m - 1) (λ k. k < m)
all_marks m =
    let past : 2 ^ m - 1 < 2 ^ m = omega (arith, pow_pos m) in
    record {
      only = below_within m (2 ^ m - 1) past;
      all = λ k lt. let e : 2 ^ m - 1 ≡ 2 ^ m - 1 - 0 = omega arith in
          ap (λ (x : ℕ). bit x k) e ∙ omega (arith, bit_not m 0 k (pow_pos m) lt, bit_none k);
    }

-- the size of a part
pub ones_mono : (a b : ℕ) → Inside a b → ones a ≤ ones b
ones_mono a b f = by_halves a b (inside_le a b f)
  where
    by_halves : (a b : ℕ) → ((k : ℕ) → bit a k ≤ bit b k) → ones a ≤ ones b
    by_halves =
        bin_ind (λ a. (b : ℕ) → ((k : ℕ) → bit a k ≤ bit b k) → ones a ≤ ones b) (λ b f. omega (arith, ones-le 0 0 (omega arith)))
        (λ a ih b f. omega (
          arith,
          ones_step a,
          ones_step b,
          f 0,
          bit_zero a,
          bit_zero b,
          ih (b / 2) (λ k. omega (arith, f (suc k), bit_suc a k, bit_suc b k)),
        ))

pub inside_lt : (a b : ℕ) → Inside a b → b < 2 ^ 64 → a < 2 ^ 64
inside_lt a b f h = omega (arith, inside_and a b f, and_le_r a b)

-- a difference is empty just where the one set lies inside the other
pub minus_none : (a b : ℕ) → Inside a b → minus a b ≡ 0
minus_none a b f = empty_of (minus a b) (λ k. omega (arith, bit_minus a b k, inside_le a b f k))

pub none_minus : (a b : ℕ) → minus a b ≡ 0 → Inside a b
none_minus a b e k h = omega (arith, h, ap (λ (x : ℕ). bit x k) e, bit_minus a b k, bit_none k, bit_digit b k)
