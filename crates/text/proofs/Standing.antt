-- Bytes that stand in a text.
use Rattle.std.proofs.Common.{◌≡◌, ℕ, suc, ◌+◌, ◌-◌, ◌<◌, ◌≤◌, min, List, ◌∷◌, ◌++◌, length, get_or, take, drop, sym, refl, ap, ◌∙◌, subst, zero-add, arith}
use Rattle.std.proofs.lemmas.List.{drop_more, length-take, length-take-le, length-drop, length-append, take-take, drop-take, drop-drop, take-append-drop, take_at, drop_at}
use Rattle.text.specs.Bytes.{Stand}

-- a byte and what follows it
pub record_stand : (text : List ℕ) (at k n : ℕ) (b : List ℕ) → at + 1 + n ≤ length text → k ≡ get_or text at 0 → b ≡ take n (drop (at + 1) text) → (length b ≡ n) × Stand text at (k ∷ b)
record_stand text at k n b h e f =
    let room : n ≤ length (drop (at + 1) text) = omega (arith, length-drop (at + 1) text) in
    let size : length b ≡ n = ap length f ∙ length-take-le n (drop (at + 1) text) room in
    let lt : at < length text = omega arith in
    let m : take (suc (length b)) (drop at text) ≡ get_or text at 0 ∷ take (length b) (drop (at + 1) text) = ap (take (suc (length b))) (drop_more text at 0 lt) in
    (size, rw (m, size, ← e, ← f) refl)

-- what stands lies inside
pub stand_inside : (text : List ℕ) (at : ℕ) (bytes : List ℕ) → Stand text at bytes → 0 < length bytes → at + length bytes ≤ length text
stand_inside text at bytes s h =
    let e : min (length bytes) (length text - at) ≡ length bytes = ap (min (length bytes)) (sym (length-drop at text)) ∙ sym (length-take (length bytes) (drop at text)) ∙ ap length s in
    omega arith

-- a record's kind and body, where its bytes stand
stand_split : (text : List ℕ) (at k : ℕ) (b : List ℕ) → Stand text at (k ∷ b) → get_or text at 0 ∷ take (length b) (drop (at + 1) text) ≡ k ∷ b
stand_split text at k b s =
    let lt : at < length text = omega (arith, stand_inside text at (k ∷ b) s (omega arith)) in
    ap (take (suc (length b))) (sym (drop_more text at 0 lt)) ∙ s

pub first_stands : (text : List ℕ) (at k : ℕ) (b : List ℕ) → Stand text at (k ∷ b) → get_or text at 0 ≡ k
first_stands text at k b s = ap (λ (l : List ℕ). get_or l 0 0) (stand_split text at k b s)

pub body_stands : (text : List ℕ) (at k : ℕ) (b : List ℕ) → Stand text at (k ∷ b) → take (length b) (drop (at + 1) text) ≡ b
body_stands text at k b s = ap (drop 1) (stand_split text at k b s)

-- a text up to the end of what stands
pub take_stand : (text : List ℕ) (at : ℕ) (bytes : List ℕ) → Stand text at bytes → at + length bytes ≤ length text → take (at + length bytes) text ≡ take at text ++ bytes
take_stand text at bytes s h =
    let p : take at (take (at + length bytes) text) ≡ take at text = take-take at (at + length bytes) text (omega arith) in
    let q : drop at (take (at + length bytes) text) ≡ bytes = drop-take at (length bytes) text ∙ s in
    sym (take-append-drop at (take (at + length bytes) text)) ∙ rw (p, q) refl

-- bytes that stand one after the other
pub stand_append : (text : List ℕ) (at : ℕ) (xs ys : List ℕ) → Stand text at (xs ++ ys) → Stand text at xs × Stand text (at + length xs) ys
stand_append text at xs ys s =
    let n = length-append xs ys in
    let f : take (length xs) (drop at text) ≡ xs = sym (take-take (length xs) (length (xs ++ ys)) (drop at text) (omega arith)) ∙ ap (take (length xs)) s ∙ take_at xs ys (length xs) refl in
    let g : take (length ys) (drop (at + length xs) text) ≡ ys =
    ap (take (length ys)) (sym (drop-drop (length xs) at text))
    ∙ sym (drop-take (length xs) (length ys) (drop at text))
    ∙ ap (λ (j : ℕ). drop (length xs) (take j (drop at text))) (sym n)
    ∙ ap (drop (length xs)) s ∙ drop_at xs ys (length xs) refl in
    (f, g)

pub stand_front : (text xs ys : List ℕ) → Stand text 0 (xs ++ ys) → Stand text 0 xs × Stand text (length xs) ys
stand_front text xs ys s =
    let p = stand_append text 0 xs ys s in
    (p.0, subst (λ (n : ℕ). Stand text n ys) (zero-add (length xs)) p.1)
