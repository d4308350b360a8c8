-- The frames and nodes of a path as a list of held positions.
use Rattle.std.proofs.Common.{◌≡◌, ℕ, zero, suc, ◌+◌, ◌-◌, ◌*◌, ◌<◌, ◌≤◌, ◌≢◌, List, ◌∷◌, length, take, set, sym, refl, ap, ◌∙◌, subst, ap₂, add-one, arith, get_or-set_other, get_or-set_same}
use Rattle.std.proofs.lemmas.List.{take-take}
use Rattle.regression.specs.Stacks.{part_of}
use Rattle.regression.specs.declared.node.Node.{Node}
use Rattle.regression.proofs.Stacking.{part_kept}
use Rattle.store.specs.Positions.{Target}
use Rattle.planner.specs.Frames.{frame_at, way}
use Rattle.planner.specs.Paths.{Held, steps_of}
use Rattle.planner.specs.Works.{position, lowest_of, holding, held, held_of, Sized}
use Rattle.planner.specs.declared.frame.Frame.{Frame}
use Rattle.planner.specs.declared.path.Path.{Path}

pub held_length : (d : ℕ) (fs : List Frame) (ns : List Node) (end : ℕ) → length (held d fs ns end) ≡ d
held_length zero fs ns end = refl
held_length (suc d) fs ns end = ap suc (held_length d fs ns (frame_at fs d).base)

-- the steps of what is held are those of the frames
pub held_way : (d : ℕ) (fs : List Frame) (ns : List Node) (end : ℕ) → steps_of (held d fs ns end) ≡ way d fs
held_way zero fs ns end = refl
held_way (suc zero) fs ns end = refl
held_way (suc (suc d)) fs ns end = ap (λ (ks : List ℕ). (frame_at fs (suc d)).step ∷ ks) (held_way (suc d) fs ns (frame_at fs (suc d)).base)

-- the lowest, and the others
pub held_lowest : (d : ℕ) (fs : List Frame) (ns : List Node) (end : ℕ) → 0 < d
    → held d fs ns end ≡ holding (frame_at fs (d - 1)) ns end ∷ held (d - 1) fs ns (frame_at fs (d - 1)).base
held_lowest zero fs ns end h = absurd (let z : ⊥ = omega arith in z)
held_lowest (suc d) fs ns end h = let e : suc d - 1 ≡ d = omega arith in rw e

pub held_lowest_of : (d : ℕ) (fs : List Frame) (ns : List Node) (end : ℕ) → 0 < d → lowest_of (held d fs ns end) ≡ position (frame_at fs (d - 1))
held_lowest_of d fs ns end h = ap (λ (hs : List (Held (List Node))). lowest_of hs) (held_lowest d fs ns end h)

pub sized_lowest : (d : ℕ) (fs : List Frame) (end : ℕ) → 0 < d → Sized d fs end
    → ((frame_at fs (d - 1)).base ≤ end) × (end ≤ (frame_at fs (d - 1)).base + 129) × Sized (d - 1) fs (frame_at fs (d - 1)).base
sized_lowest zero fs end h x = absurd (let z : ⊥ = omega arith in z)
sized_lowest (suc d) fs end h x = let e : suc d - 1 ≡ d = omega arith in rw e x

pub sized_again : (d : ℕ) (fs : List Frame) (end : ℕ) → 0 < d
    → (frame_at fs (d - 1)).base ≤ end → end ≤ (frame_at fs (d - 1)).base + 129 → Sized (d - 1) fs (frame_at fs (d - 1)).base → Sized d fs end
sized_again zero fs end h low high x = absurd (let z : ⊥ = omega arith in z)
sized_again (suc d) fs end h low high x =
    let e : suc d - 1 ≡ d = omega arith in
    subst (λ (k : ℕ). ((frame_at fs k).base ≤ end) × (end ≤ (frame_at fs k).base + 129) × Sized k fs (frame_at fs k).base) e (low, high, x)

-- so there is room for the work on all of them
pub sized_room : (d : ℕ) (fs : List Frame) (end : ℕ) → Sized d fs end → end ≤ 129 * d
sized_room zero fs end x = omega arith
sized_room (suc d) fs end x = omega (arith, sized_room d fs (frame_at fs d).base x.2, x.1)

take_less : (ns ns' : List Node) (b end : ℕ) → b ≤ end → take end ns' ≡ take end ns → take b ns' ≡ take b ns
take_less ns ns' b end le same = sym (take-take b end ns' le) ∙ ap (λ (xs : List Node). take b xs) same ∙ take-take b end ns le

-- frames and nodes that are alike so far hold the same
pub held_same : (d : ℕ) (fs fs' : List Frame) (ns ns' : List Node) (end : ℕ) → ((i : ℕ) → i < d → frame_at fs' i ≡ frame_at fs i)
    → take end ns' ≡ take end ns → Sized d fs end → held d fs' ns' end ≡ held d fs ns end
held_same zero fs fs' ns ns' end alike same x = refl
held_same (suc d) fs fs' ns ns' end alike same x =
    let f : Frame = frame_at fs d in
    ap (λ (e : Frame). holding e ns' end ∷ held d fs' ns' e.base) (alike d (omega arith))
    ∙ ap (λ (w : List Node). record { position = position f; step = f.step; work = w } ∷ held d fs' ns' f.base) (part_kept ns' ns end f.base (end - f.base) same (omega (arith, x.0)))
    ∙ ap (λ (hs : List (Held (List Node))). holding f ns end ∷ hs)
    (held_same d fs fs' ns ns' f.base (λ i lt. alike i (omega arith)) (take_less ns ns' f.base end x.0 same) x.2)

pub sized_same : (d : ℕ) (fs fs' : List Frame) (end : ℕ) → ((i : ℕ) → i < d → frame_at fs' i ≡ frame_at fs i) → Sized d fs end → Sized d fs' end
sized_same zero fs fs' end alike x = x
sized_same (suc d) fs fs' end alike x =
    subst (λ (f : Frame). (f.base ≤ end) × (end ≤ f.base + 129) × Sized d fs' f.base) (sym (alike d (omega arith)))
    (x.0, x.1, sized_same d fs fs' (frame_at fs d).base (λ i lt. alike i (omega arith)) x.2)

set_alike : (fs : List Frame) (d : ℕ) (f : Frame) (i : ℕ) → i < d → frame_at (set fs d f) i ≡ frame_at fs i
set_alike fs d f i lt = let ne : i ≢ d = omega arith in get_or-set_other fs d i f _ ne

set_there : (fs : List Frame) (d : ℕ) (f : Frame) → d < length fs → frame_at (set fs d f) d ≡ f
set_there fs d f lt = get_or-set_same fs d f _ lt

-- one more frame, whose work begins where that on the others ends
module _ (d : ℕ) (fs : List Frame) (ns ns' : List Node) (f : Frame) (count : ℕ) (lt : d < length fs) (few : count ≤ 129)
    (same : take f.base ns' ≡ take f.base ns) (sized : Sized d fs f.base) where
  pub opened_held : held (d + 1) (set fs d f) ns' (f.base + count)
      ≡ record { position = position f; step = f.step; work = part_of ns' f.base count } ∷ held d fs ns f.base
  opened_held =
      let e : f.base + count - f.base ≡ count = omega arith in
      ap (λ (k : ℕ). held k (set fs d f) ns' (f.base + count)) (add-one d)
      ∙ ap (λ (e' : Frame). holding e' ns' (f.base + count) ∷ held d (set fs d f) ns' e'.base) (set_there fs d f lt)
      ∙ ap (λ (k : ℕ). record { position = position f; step = f.step; work = part_of ns' f.base k } ∷ held d (set fs d f) ns' f.base) e
      ∙ ap (λ (hs : List (Held (List Node))). record { position = position f; step = f.step; work = part_of ns' f.base count } ∷ hs)
      (held_same d fs (set fs d f) ns ns' f.base (set_alike fs d f) same sized)

  pub opened_sized : Sized (d + 1) (set fs d f) (f.base + count)
  opened_sized =
      subst (λ (k : ℕ). Sized k (set fs d f) (f.base + count)) (sym (add-one d))
      (subst (λ (e : Frame). (e.base ≤ f.base + count) × (f.base + count ≤ e.base + 129) × Sized d (set fs d f) e.base) (sym (set_there fs d f lt))
      (omega arith, omega arith, sized_same d fs (set fs d f) f.base (set_alike fs d f) sized))

-- a path with the frames of another has its lowest position
module _ (p q : Path) (deep : p.depth ≡ q.depth) (same : p.frames ≡ q.frames) (some : 0 < q.depth) where
  pub lowest_is : lowest_of (held_of p) ≡ position (frame_at q.frames (q.depth - 1))
  lowest_is =
      held_lowest_of p.depth p.frames p.nodes p.len (omega arith)
      ∙ ap₂ (λ (d : ℕ) (fs : List Frame). position (frame_at fs (d - 1))) deep same

  pub lowest_level : (f : Frame) → f ≡ frame_at q.frames (q.depth - 1) → (lowest_of (held_of p)).level ≡ f.position.level - 1 + 1
  lowest_level f is =
      let low = (frame_at q.frames (q.depth - 1)).position.low in
      let e : (frame_at q.frames (q.depth - 1)).position.level ≡ (frame_at q.frames (q.depth - 1)).position.level - 1 + 1 = omega (arith, low) in
      ap (λ (r : Target). r.level) lowest_is ∙ e ∙ ap (λ (x : Frame). x.position.level - 1 + 1) (sym is)
