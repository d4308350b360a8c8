use Rattle.std.proofs.Common.{◌≡◌, ℕ, zero, suc, ◌+◌, ◌*◌, ◌/◌, ◌%◌, ◌^◌, ◌<◌, List, [], ◌∷◌, ◌++◌, length, get_or, take, sym, refl, ap, ◌∙◌, pow-suc, arith}
use native.Mathlib.Nat.{div-div-eq-div-mul}
use lib.Arith.{digits_div, digits_mod}
use Rattle.std.specs.Int.Digits.{number_from_digits, AllBelowBase}
use Rattle.std.proofs.lemmas.Int.Digits.{number_push}
use Rattle.std.proofs.lemmas.List.{take_more, take_all, length-take-le, nil_from_length, length_push}
use Rattle.std.proofs.ByRecursion.{All-get_or, All-take}
use Rattle.text.specs.Bytes.{bytes_of}

-- the bytes that `to_be_bytes` gives
pub bytes_of_8 : (n : ℕ) →
    ((n / 72057594037927936 % 256) ∷ (n / 281474976710656 % 256) ∷ (n / 1099511627776 % 256) ∷ (n / 4294967296 % 256) ∷ (n / 16777216 % 256) ∷ (n / 65536 % 256) ∷ (n / 256 % 256) ∷ (n % 256) ∷ []) ≡ bytes_of 8 n
unfolding bytes_of
bytes_of_8 n = simp div-div-eq-div-mul

-- writing a number that bytes write gives the bytes
pub bytes_of_number : (w : ℕ) (bs : List ℕ) → length bs ≡ w → AllBelowBase 256 bs → bytes_of w (number_from_digits 256 bs) ≡ bs
unfolding bytes_of
bytes_of_number zero bs e u = sym (nil_from_length bs e)
bytes_of_number (suc w) bs e u =
    let small : w < length bs = omega arith in
    let last : get_or bs w 0 < 256 = All-get_or (λ d. d < 256) bs w 0 small u in
    let split : bs ≡ take w bs ++ (get_or bs w 0 ∷ []) = sym (take_all (w + 1) bs (omega arith)) ∙ take_more bs w 0 small in
    let n : number_from_digits 256 bs ≡ number_from_digits 256 (take w bs) * 256 + get_or bs w 0 = ap (number_from_digits 256) split ∙ number_push 256 (take w bs) (get_or bs w 0) in
    let ih = bytes_of_number w (take w bs) (length-take-le w bs (omega arith)) (All-take (λ d. d < 256) w bs u) in
    let q : number_from_digits 256 bs / 256 ≡ number_from_digits 256 (take w bs) = ap (λ x. x / 256) n ∙ digits_div (number_from_digits 256 (take w bs)) last in
    let r : number_from_digits 256 bs % 256 ≡ get_or bs w 0 = ap (λ x. x % 256) n ∙ digits_mod (number_from_digits 256 (take w bs)) last in
    rw (q, r, ih) (sym split)

-- reading the bytes of a number gives the number
pub number_bytes_of : (w n : ℕ) → n < 256 ^ w → number_from_digits 256 (bytes_of w n) ≡ n
unfolding bytes_of
number_bytes_of zero n h = omega arith
number_bytes_of (suc w) n h =
    let small : n / 256 < 256 ^ w = omega (arith, pow-suc 256 w) in
    number_push 256 (bytes_of w (n / 256)) (n % 256) ∙ rw (number_bytes_of w (n / 256) small) (omega arith)

pub length_bytes_of : (w n : ℕ) → length (bytes_of w n) ≡ w
unfolding bytes_of
length_bytes_of zero n = refl
length_bytes_of (suc w) n = length_push (bytes_of w (n / 256)) (n % 256) ∙ rw (length_bytes_of w (n / 256)) (omega arith)
