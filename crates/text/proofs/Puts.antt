use Rattle.std.proofs.Common.{◌≡◌, ℕ, ◌+◌, ◌<◌, ◌≤◌, List, [], ◌∷◌, ◌++◌, length, take, drop, set, sym, refl, ap, ◌∙◌, add-one, arith}
use borrow.Rule.Slice.PartMut.{put_mid}
use Rattle.std.proofs.lemmas.List.{append_assoc, length-append, length-take-le, length-drop, drop-drop, take_at, drop_at, set_split}
use Rattle.text.specs.Bytes.{put}

-- a write to a part of a slice
pub put_from_mid : (a k : ℕ) (xs ys bs : List ℕ) → ys ≡ bs → k ≡ length bs → put_mid a k xs ys ≡ put xs a bs
unfolding put
put_from_mid a k xs ys bs e n = rw (e, n, drop-drop)

pub length_put : (xs : List ℕ) (a : ℕ) (bs : List ℕ) → a + length bs ≤ length xs → length (put xs a bs) ≡ length xs
unfolding put
length_put xs a bs h =
    let t : length (take a xs) ≡ a = length-take-le a xs (omega arith) in
    simp (length-append, length-drop, t) (omega arith)

pub take_put : (xs : List ℕ) (a : ℕ) (bs : List ℕ) → a + length bs ≤ length xs → take (a + length bs) (put xs a bs) ≡ take a xs ++ bs
unfolding put
take_put xs a bs h =
    let t : length (take a xs ++ bs) ≡ a + length bs = length-append (take a xs) bs ∙ ap (λ n. n + length bs) (length-take-le a xs (omega arith)) in
    rw (← append_assoc) (take_at (take a xs ++ bs) (drop (a + length bs) xs) (a + length bs) t)

pub drop_put : (xs : List ℕ) (a : ℕ) (bs : List ℕ) → a + length bs ≤ length xs → drop (a + length bs) (put xs a bs) ≡ drop (a + length bs) xs
unfolding put
drop_put xs a bs h =
    let t : length (take a xs ++ bs) ≡ a + length bs = length-append (take a xs) bs ∙ ap (λ n. n + length bs) (length-take-le a xs (omega arith)) in
    rw (← append_assoc) (drop_at (take a xs ++ bs) (drop (a + length bs) xs) (a + length bs) t)

-- a write right after a write
pub put_put : (xs : List ℕ) (a b : ℕ) (bs cs : List ℕ) → b ≡ a + length bs → a + length bs ≤ length xs → put (put xs a bs) b cs ≡ put xs a (bs ++ cs)
unfolding put
put_put xs a b bs cs e h =
    let t : take b (put xs a bs) ≡ take a xs ++ bs = rw e (take_put xs a bs h) in
    let d : drop (b + length cs) (put xs a bs) ≡ drop (a + length (bs ++ cs)) xs =
    sym (drop-drop (length cs) b (put xs a bs))
    ∙ ap (drop (length cs)) (rw e (drop_put xs a bs h))
    ∙ drop-drop (length cs) (a + length bs) xs
    ∙ ap (λ n. drop n xs) (omega (arith, length-append bs cs)) in
    ap (λ l. l ++ (cs ++ drop (b + length cs) (put xs a bs))) t ∙ rw d (simp append_assoc)

-- a write of one byte
pub put_one : (xs : List ℕ) (i b : ℕ) → i < length xs → set xs i b ≡ put xs i (b ∷ [])
unfolding put
put_one xs i b h = set_split xs i b h ∙ rw add-one refl

-- a byte right after a write
pub put_more : (xs : List ℕ) (a i b : ℕ) (bs : List ℕ) → i ≡ a + length bs → i < length xs → set (put xs a bs) i b ≡ put xs a (bs ++ (b ∷ []))
put_more xs a i b bs e h =
    let k : a + length bs ≤ length xs = omega arith in
    put_one (put xs a bs) i b (omega (arith, length_put xs a bs k)) ∙ put_put xs a i bs (b ∷ []) e k

-- one write more, at the end of what was written
pub put_on : (xs : List ℕ) {ys zs : List ℕ} (a : ℕ) {b : ℕ} (bs cs : List ℕ) → ys ≡ put xs a bs → b ≡ a + length bs → a + length bs ≤ length xs → zs ≡ put ys b cs → zs ≡ put xs a (bs ++ cs)
put_on xs a {b} bs cs e n h f = f ∙ ap (λ l. put l b cs) e ∙ put_put xs a b bs cs n h
