-- Writing a plan to a list, entry by entry.
use Rattle.std.proofs.Common.{◌≡◌, ℕ, zero, suc, ◌+◌, ◌-◌, ◌<◌, ◌≤◌, List, [], ◌∷◌, ◌++◌, length, get_or, reverse, take, drop, set, sym, refl, ap, ap₂, ◌∙◌, append_assoc, arith, length-drop}
use Rattle.std.proofs.lemmas.List.{take_more, drop_more, set_at, length-take-le, take_all, drop-set-lt, get_or-drop, get_or-reverse, get_or_default, get_or-take, length-reverse}
use Rattle.std.proofs.lemmas.List.FromFn.{length-enumerate_from, get_or-enumerate_from}
use Rattle.std.specs.List.{enumerate_from}
use Rattle.planner.specs.Frames.{frame_at, way}
use Rattle.planner.specs.declared.frame.Frame.{Frame}

-- one more entry of xs is written over ys
copy_more : (xs ys : List ℕ) (i : ℕ) (x : ℕ) → i < length xs → i < length ys → get_or xs i 0 ≡ x
    → set (take i xs ++ drop i ys) i x ≡ take (i + 1) xs ++ drop (i + 1) ys
copy_more xs ys i x lt lt' is =
    ap (λ (zs : List ℕ). set (take i xs ++ zs) i x) (drop_more ys i 0 lt')
    ∙ set_at (take i xs) (get_or ys i 0) (drop (i + 1) ys) x i (length-take-le i xs (omega arith))
    ∙ ap (λ (z : ℕ). take i xs ++ z ∷ drop (i + 1) ys) (sym is)
    ∙ sym (append_assoc (take i xs) (get_or xs i 0 ∷ []) (drop (i + 1) ys))
    ∙ ap (λ (zs : List ℕ). zs ++ drop (i + 1) ys) (sym (take_more xs i 0 lt))

pub way_length : (d : ℕ) (fs : List Frame) → length (way d fs) ≡ d - 1
way_length zero fs = refl
way_length (suc zero) fs = refl
way_length (suc (suc d)) fs = omega (arith, way_length (suc d) fs)

-- the plan's entry i is the step of the frame that many from the end
way_at : (d : ℕ) (fs : List Frame) (step i : ℕ) → 1 ≤ i → i < d → get_or (step ∷ way d fs) i 0 ≡ (frame_at fs (d - i)).step
way_at zero fs step i le lt = absurd (let z : ⊥ = omega arith in z)
way_at (suc zero) fs step i le lt = absurd (let z : ⊥ = omega arith in z)
way_at (suc (suc d)) fs step zero le lt = absurd (let z : ⊥ = omega arith in z)
way_at (suc (suc d)) fs step (suc zero) le lt =
    let e : suc d ≡ suc (suc d) - 1 = omega arith in
    ap (λ (k : ℕ). (frame_at fs k).step) e
way_at (suc (suc d)) fs step (suc (suc i)) le lt =
    let e : suc (suc d) - suc (suc i) ≡ suc d - suc i = omega arith in
    way_at (suc d) fs (frame_at fs (suc d)).step (suc i) (omega arith) (omega arith) ∙ ap (λ (k : ℕ). (frame_at fs k).step) (sym e)

-- the first entry is written
pub copy_first : (x : ℕ) (xs ys : List ℕ) → 0 < length ys → set ys 0 x ≡ take 1 (x ∷ xs) ++ drop 1 (set ys 0 x)
copy_first x xs [] lt = absurd (let z : ⊥ = omega arith in z)
copy_first x xs (y ∷ ys) lt = refl

copy_all : (x : ℕ) (xs ys : List ℕ) (d : ℕ) → 1 ≤ d → length xs ≡ d - 1
    → take d (x ∷ xs) ++ drop d (set ys 0 x) ≡ (x ∷ xs) ++ drop d ys
copy_all x xs ys d le e =
    ap (λ (zs : List ℕ). zs ++ drop d (set ys 0 x)) (take_all d (x ∷ xs) (omega arith))
    ∙ ap (λ (zs : List ℕ). (x ∷ xs) ++ zs) (drop-set-lt d ys 0 x le)

-- the turns of the loop that writes
pub write_more : (d : ℕ) (fs : List Frame) (step i : ℕ) (ys zs : List ℕ) → 1 ≤ i → i < d → d ≤ length ys
    → zs ≡ take i (step ∷ way d fs) ++ drop i ys
    → set zs i (frame_at fs (d - i)).step ≡ take (i + 1) (step ∷ way d fs) ++ drop (i + 1) ys
write_more d fs step i ys zs le lt room e =
    ap (λ (xs : List ℕ). set xs i (frame_at fs (d - i)).step) e
    ∙ copy_more (step ∷ way d fs) ys i (frame_at fs (d - i)).step (omega (arith, way_length d fs)) (omega arith) (way_at d fs step i le lt)

pub write_all : (d : ℕ) (fs : List Frame) (step i : ℕ) (ys zs : List ℕ) → 1 ≤ d → i ≡ d
    → zs ≡ take i (step ∷ way d fs) ++ drop i (set ys 0 step) → zs ≡ (step ∷ way d fs) ++ drop d ys
write_all d fs step i ys zs le is e =
    e ∙ ap (λ (k : ℕ). take k (step ∷ way d fs) ++ drop k (set ys 0 step)) is ∙ copy_all step (way d fs) ys d le (way_length d fs)

-- all frames but the first, as a slice of them is read; a walk over them, from the last on, which counts from 0
pub but_first : (fs : List Frame) → take (length fs - 1) (drop 1 fs) ≡ drop 1 fs
but_first fs = take_all (length fs - 1) (drop 1 fs) (omega (arith, length-drop 1 fs))

abbrev walk : List Frame → List (ℕ × Frame)
walk fs = enumerate_from 0 (reverse (drop 1 fs))

pub walk_length : (fs : List Frame) → length (walk fs) ≡ length fs - 1
walk_length fs = omega (arith, length-enumerate_from 0 (reverse (drop 1 fs)), length-reverse (drop 1 fs), length-drop 1 fs)

pub write_turn : (fs : List Frame) (step i n m : ℕ) (f : Frame) (ys zs : List ℕ) → 0 < length fs → length fs ≤ length ys
    → n < length (walk fs) → (i, f) ≡ get_or (walk fs) n (i, f) → m ≡ n + 1
    → zs ≡ take (n + 1) (step ∷ way (length fs) fs) ++ drop (n + 1) ys
    → set zs (i + 1) f.step ≡ take (m + 1) (step ∷ way (length fs) fs) ++ drop (m + 1) ys
write_turn fs step i n m f ys zs some room lt is next e =
    let rest = drop 1 fs in
    let within : n < length rest = omega (arith, length-enumerate_from 0 (reverse rest), length-reverse rest) in
    let in_rest : n < length (reverse rest) = omega (arith, length-reverse rest) in
    let same : ◌≡◌ {A = ℕ × Frame} (i, f) (0 + n, get_or (reverse rest) n f) = is ∙ get_or-enumerate_from 0 (reverse rest) n (i, f) in_rest in
    let k : 1 + (length rest - 1 - n) ≡ length fs - (n + 1) = omega (arith, length-drop 1 fs) in
    let here : f ≡ get_or fs (1 + (length rest - 1 - n)) f =
    ap (λ (p : ℕ × Frame). p.1) same ∙ get_or-reverse rest n f within ∙ get_or-drop 1 fs (length rest - 1 - n) f in
    let there : f ≡ frame_at fs (length fs - (n + 1)) =
    here ∙ ap (λ (j : ℕ). get_or fs j f) k ∙ get_or_default fs (length fs - (n + 1)) f _ (omega (arith, length-drop 1 fs)) in
    let counted : i ≡ n = omega (arith, ap (λ (p : ℕ × Frame). p.0) same) in
    ap (λ (j : ℕ). set zs (j + 1) f.step) counted
    ∙ ap (λ (x : Frame). set zs (n + 1) x.step) there
    ∙ write_more (length fs) fs step (n + 1) ys zs (omega arith) (omega (arith, length-drop 1 fs)) room e
    ∙ ap (λ (j : ℕ). take (j + 1) (step ∷ way (length fs) fs) ++ drop (j + 1) ys) (sym next)

-- the way up from the last of the first frames
way_same : (d : ℕ) (fs gs : List Frame) → ((i : ℕ) → i < d → frame_at gs i ≡ frame_at fs i) → way d gs ≡ way d fs
way_same zero fs gs alike = refl
way_same (suc zero) fs gs alike = refl
way_same (suc (suc d)) fs gs alike =
    ap₂ (λ (f : Frame) (ks : List ℕ). f.step ∷ ks) (alike (suc d) (omega arith)) (way_same (suc d) fs gs (λ i lt. alike i (omega arith)))

pub front_written : (d : ℕ) (fs : List Frame) (step : ℕ) (ys zs : List ℕ) → d ≤ length fs
    → zs ≡ (step ∷ way (length (take d fs)) (take d fs)) ++ drop (length (take d fs)) ys → zs ≡ (step ∷ way d fs) ++ drop d ys
front_written d fs step ys zs le e =
    e
    ∙ ap (λ (k : ℕ). (step ∷ way k (take d fs)) ++ drop k ys) (length-take-le d fs le)
    ∙ ap (λ (ks : List ℕ). (step ∷ ks) ++ drop d ys) (way_same d fs (take d fs) (λ i lt. get_or-take d fs i _ lt))
