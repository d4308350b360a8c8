-- The values of a record and its bytes: each gives the other.
use Rattle.std.proofs.Common.{◌≡◌, ℕ, zero, suc, ◌+◌, ◌^◌, ◌<◌, ◌≤◌, cond, eqb, List, [], ◌∷◌, ◌++◌, length, get_or, take, drop, sym, refl, ap, ◌∙◌, subst, arith}
use Rattle.std.specs.Int.Digits.{number_from_digits, AllBelowBase}
use Rattle.std.proofs.lemmas.Int.Digits.{number_lt}
use Rattle.std.proofs.ByRecursion.{All-take, All-drop}
use Rattle.std.proofs.lemmas.List.{take_all, take_at, drop_at, take-append-drop, length-take-le, length-drop, length-append, drop-drop, nil_from_length}
use Rattle.text.specs.Bytes.{bytes_of, set_in, Stand}
use Rattle.text.specs.Records.{body_length}
use Rattle.text.specs.Texts.{Item, size_is, first_is, action_is, effect_is, end_is, item_kind, item_body, item_text, Fitting, effect_in}
use Rattle.text.specs.Readings.{Reading}
use Rattle.text.proofs.Numbers.{bytes_of_number, number_bytes_of, length_bytes_of}
use Rattle.text.proofs.Standing.{first_stands, stand_inside}

-- the record of that kind and body
abbrev pub item_in : ℕ → List ℕ → Item
item_in k b =
    cond (eqb k 1) (size_is (get_or b 0 0) (get_or b 1 0))
    (cond (eqb k 2) (first_is (set_in b 0))
    (cond (eqb k 3) (action_is (set_in b 0))
    (cond (eqb k 4) (effect_is (effect_in b)) end_is)))

-- how long a body is
pub body_long : (i : Item) → length (item_body i) ≡ body_length (item_kind i)
body_long (size_is m h) = refl
body_long (first_is s) = length_bytes_of 8 s
body_long (action_is p) = length_bytes_of 8 p
body_long (effect_is e) =
    length-append (bytes_of 8 e.condition) (bytes_of 8 e.add ++ bytes_of 8 e.delete)
    ∙ omega (arith, length-append (bytes_of 8 e.add) (bytes_of 8 e.delete), length_bytes_of 8 e.condition, length_bytes_of 8 e.add, length_bytes_of 8 e.delete)
body_long end_is = refl

pub kind_between : (i : Item) → (1 ≤ item_kind i) × (item_kind i ≤ 5)
kind_between (size_is m h) = (omega arith, omega arith)
kind_between (first_is s) = (omega arith, omega arith)
kind_between (action_is p) = (omega arith, omega arith)
kind_between (effect_is e) = (omega arith, omega arith)
kind_between end_is = (omega arith, omega arith)

-- a set among bytes
set_within : (s : ℕ) (before after : List ℕ) (k : ℕ) → length before ≡ k → s < 2 ^ 64 → set_in (before ++ (bytes_of 8 s ++ after)) k ≡ s
set_within s before after k e h =
    ap (λ (l : List ℕ). number_from_digits 256 (take 8 l)) (drop_at before (bytes_of 8 s ++ after) k e)
    ∙ ap (number_from_digits 256) (take_at (bytes_of 8 s) after 8 (length_bytes_of 8 s))
    ∙ number_bytes_of 8 s h

set_alone : (s : ℕ) → s < 2 ^ 64 → set_in (bytes_of 8 s) 0 ≡ s
set_alone s h = ap (number_from_digits 256) (take_all 8 (bytes_of 8 s) (omega (arith, length_bytes_of 8 s))) ∙ number_bytes_of 8 s h

-- the values come back from the bytes
pub item_back : (i : Item) → Fitting i → item_in (item_kind i) (item_body i) ≡ i
item_back (size_is m h) f = refl
item_back (first_is s) f = ap first_is (set_alone s f)
item_back (action_is p) f = ap action_is (set_alone p f)
item_back (effect_is e) f =
    let c = bytes_of 8 e.condition in
    let a = bytes_of 8 e.add in
    let d = bytes_of 8 e.delete in
    let p : set_in (c ++ (a ++ d)) 0 ≡ e.condition = set_within e.condition [] (a ++ d) 0 refl f.0 in
    let q : set_in (c ++ (a ++ d)) 8 ≡ e.add = set_within e.add c d 8 (length_bytes_of 8 e.condition) f.1 in
    let r : set_in (c ++ (a ++ d)) 16 ≡ e.delete =
    ap (λ (l : List ℕ). number_from_digits 256 (take 8 l)) (sym (drop-drop 8 8 (c ++ (a ++ d))) ∙ ap (drop 8) (drop_at c (a ++ d) 8 (length_bytes_of 8 e.condition)) ∙ drop_at a d 8 (length_bytes_of 8 e.add))
    ∙ set_alone e.delete f.2 in
    rw (p, q, r) refl
item_back end_is f = refl

-- the bytes of a set that was read
pub set_bytes : (b : List ℕ) (k : ℕ) → k + 8 ≤ length b → AllBelowBase 256 b → bytes_of 8 (set_in b k) ≡ take 8 (drop k b)
set_bytes b k h u =
    bytes_of_number 8 (take 8 (drop k b)) (length-take-le 8 (drop k b) (omega (arith, length-drop k b))) (All-take (λ d. d < 256) 8 (drop k b) (All-drop (λ d. d < 256) k b u))

pub set_small : (b : List ℕ) (k : ℕ) → k + 8 ≤ length b → AllBelowBase 256 b → set_in b k < 2 ^ 64
set_small b k h u =
    let n : length (take 8 (drop k b)) ≡ 8 = length-take-le 8 (drop k b) (omega (arith, length-drop k b)) in
    rw n at (number_lt 256 (take 8 (drop k b)) (All-take (λ d. d < 256) 8 (drop k b) (All-drop (λ d. d < 256) k b u)))

-- a record made from a body
record Made (k : ℕ) (b : List ℕ) : Type 0 where
  kind : item_kind (item_in k b) ≡ k
  body : item_body (item_in k b) ≡ b
  fitting : Fitting (item_in k b)

made_size : (b : List ℕ) → length b ≡ 2 → AllBelowBase 256 b → Made 1 b
made_size (x ∷ y ∷ []) e u = record { kind = refl; body = refl; fitting = (u.0, u.1.0) }
made_size [] e u = absurd (omega arith)
made_size (x ∷ []) e u = absurd (omega arith)
made_size (x ∷ y ∷ z ∷ zs) e u = absurd (omega arith)

-- a body that is one set, as that of a first state or of an action
made_set : (b : List ℕ) → length b ≡ 8 → AllBelowBase 256 b → (bytes_of 8 (set_in b 0) ≡ b) × (set_in b 0 < 2 ^ 64)
made_set b e u = (set_bytes b 0 (omega arith) u ∙ take_all 8 b (omega arith), set_small b 0 (omega arith) u)

made_effect : (b : List ℕ) → length b ≡ 24 → AllBelowBase 256 b → Made 4 b
made_effect b e u =
    let p : bytes_of 8 (set_in b 0) ≡ take 8 b = set_bytes b 0 (omega arith) u in
    let q : bytes_of 8 (set_in b 8) ≡ take 8 (drop 8 b) = set_bytes b 8 (omega arith) u in
    let r : bytes_of 8 (set_in b 16) ≡ drop 8 (drop 8 b) =
    set_bytes b 16 (omega arith) u ∙ take_all 8 (drop 16 b) (omega (arith, length-drop 16 b)) ∙ sym (drop-drop 8 8 b) in
    record {
      kind = refl;
      body = rw (p, q, r) (ap (λ (l : List ℕ). take 8 b ++ l) (take-append-drop 8 (drop 8 b)) ∙ take-append-drop 8 b);
      fitting = (set_small b 0 (omega arith) u, set_small b 8 (omega arith) u, set_small b 16 (omega arith) u);
    }

made_end : (b : List ℕ) → length b ≡ 0 → Made 5 b
made_end b e = record { kind = refl; body = sym (nil_from_length b e); fitting = tt }

made : (k : ℕ) (b : List ℕ) → 1 ≤ k → k ≤ 5 → length b ≡ body_length k → AllBelowBase 256 b → Made k b
made zero b l h e u = absurd (omega arith)
made (suc zero) b l h e u = made_size b e u
made (suc (suc zero)) b l h e u = let s = made_set b e u in record { kind = refl; body = s.0; fitting = s.1 }
made (suc (suc (suc zero))) b l h e u = let s = made_set b e u in record { kind = refl; body = s.0; fitting = s.1 }
made (suc (suc (suc (suc zero)))) b l h e u = made_effect b e u
made (suc (suc (suc (suc (suc zero))))) b l h e u = made_end b e
made (suc (suc (suc (suc (suc (suc k)))))) b l h e u = absurd (omega arith)

-- a whole body of bytes is that of a record
pub item_there : (text : List ℕ) (at k : ℕ) (b : List ℕ) → AllBelowBase 256 text → Stand text at (k ∷ b) → 1 ≤ k → k ≤ 5 → length b ≡ body_length k → Reading text at (item_in k b) × (item_kind (item_in k b) ≡ k)
item_there text at k b u s l h e =
    let v : AllBelowBase 256 (k ∷ b) = subst (AllBelowBase 256) s (All-take (λ d. d < 256) (length (k ∷ b)) (drop at text) (All-drop (λ d. d < 256) at text u)) in
    let m = made k b l h e v.1 in
    (record { fitting = m.fitting; bytes = rw (m.kind, m.body) s }, m.kind)

-- at most one record stands at an offset
pub one_item : (text : List ℕ) (at : ℕ) (i j : Item) → Reading text at i → Reading text at j → i ≡ j
one_item text at i j r s =
    let k : item_kind i ≡ item_kind j = sym (first_stands text at (item_kind i) (item_body i) r.bytes) ∙ first_stands text at (item_kind j) (item_body j) s.bytes in
    let n : length (item_text i) ≡ length (item_text j) = omega (arith, body_long i, body_long j, ap body_length k) in
    let t : item_text i ≡ item_text j = sym r.bytes ∙ ap (λ (n : ℕ). take n (drop at text)) n ∙ s.bytes in
    let b : item_body i ≡ item_body j = ap (drop 1) t in
    sym (item_back i r.fitting) ∙ rw (k, b) (item_back j s.fitting)

-- a text that holds a record is long enough for it
pub item_inside : (text : List ℕ) (at : ℕ) (i : Item) → Reading text at i → at + 1 + body_length (get_or text at 0) ≤ length text
item_inside text at i r =
    let k : get_or text at 0 ≡ item_kind i = first_stands text at (item_kind i) (item_body i) r.bytes in
    omega (arith, stand_inside text at (item_text i) r.bytes (omega arith), body_long i, ap body_length k)
