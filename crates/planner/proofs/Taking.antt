-- The work on the lowest position of a path goes on.
use Rattle.std.proofs.Common.{◌≡◌, ℕ, ◌+◌, ◌-◌, ◌<◌, ◌≤◌, List, [], ◌∷◌, length, take, Some, None, sym, refl, ap, ◌∙◌, subst, inl, inr, arith}
use lib.Bits.{bit_or}
use Rattle.sets.proofs.Bits.{bit_of_or, bit_digit}
use Rattle.problem.specs.Actions.{Action}
use Rattle.problem.specs.Firm.{Task}
use Rattle.problem.specs.Runs.{Goal}
use Rattle.problem.specs.declared.rows.EffectRow.{EffectRow}
use Rattle.regression.specs.Matters.{ActionNames as Names}
use Rattle.regression.specs.Stacks.{part_of, Orderly, Carried, Brings}
use Rattle.regression.specs.declared.node.Node.{Node}
use Rattle.regression.specs.declared.found.Due.{Due}
use Rattle.outlook.specs.Outlooks.{View}
use Rattle.claim.specs.Search.{ActionNames}
use Rattle.planner.specs.Frames.{frame_at}
use Rattle.planner.specs.Paths.{Pruned, Held, Gave, Done as Emptied}
use Rattle.planner.specs.Works.{waits, may, position, holding, held, held_of, Sized, AllOrderly, Shape, Took}
use Rattle.planner.specs.declared.frame.Frame.{Frame}
use Rattle.planner.specs.declared.path.Path.{Path}
use Rattle.regression.proofs.Stacking.{part_fits}
use Rattle.planner.proofs.Holding.{held_lowest, held_same, sized_lowest, sized_again, sized_room}

-- an atom that an action names is one that its precondition or an effect names
named_so : (a : Action) (k : ℕ) → Names a k → ActionNames a k
named_so a k (inl h) = inl h
named_so a k (inr h) =
    let e : EffectRow = h.0 in
    let bits = bit_of_or (bit_or e.condition e.add) e.delete k in
    let more = bit_of_or e.condition e.add k in
    inr (
      e,
      h.1,
      elim h.2 [
        | inl c ↦ omega (arith, c, bits, more, bit_digit e.add k, bit_digit e.delete k)
        | inr (inl c) ↦ omega (arith, c, bits, more, bit_digit e.condition k, bit_digit e.delete k)
        | inr (inr c) ↦ omega (arith, c, bits, more, bit_digit e.condition k, bit_digit e.add k)
      ],
    )

module _ (t : Task) (v : View) (l : ℕ) (q : Goal) (before after : List Node) (orderly : Orderly t q before) where
  -- what is made due was given
  gave_of : (due : Due) → Brings t q (Pruned t v l) before after due.step due.region
      → Gave (waits t) may t v l q before due.step due.region after
  gave_of due x = record {
    apart = x.apart;
    leads = λ s meets. let r = x.leads s meets in (r.end, r.firm, r.meets);
    names = λ k n. elim ((x.due orderly).names k n) [ inl a ↦ inl a | inr b ↦ inr (b.0, b.1, named_so (t.at b.0) k b.2) ];
    came = x.taken;
    never_again = x.gone orderly;
    less = λ step need. x.carried.within need step;
    keeps = λ s part w. elim (x.carried.pairs s part w.0 w.1) [
      | inl y ↦ inl (w.0, y)
      | inr (inl y) ↦ inr (inl y)
      | inr (inr y) ↦ inr (inr y)
    ];
  }

-- where all work is carried to nothing, nothing more is given
emptied_of : (t : Task) (v : View) (l : ℕ) (q : Goal) (before : List Node) → Carried t q (Pruned t v l) (λ _. ⊥) before []
    → Emptied (waits t) may t v l q before
emptied_of t v l q before x s part w = elim (x.pairs s part w.0 w.1) [ inl y ↦ absurd y | inr (inl y) ↦ absurd y | inr (inr y) ↦ y ]

-- the lowest position is that of the frame f
module _ (t : Task) (v : View) (p : Path) (f : Frame) (is : f ≡ frame_at p.frames (p.depth - 1)) (some : 0 < p.depth) (x : Shape t p) where
  abbrev goal : Goal
  goal = f.position.goal

  abbrev before : List Node
  before = part_of p.nodes f.base (p.len - f.base)

  abbrev others : List (Held (List Node))
  others = held (p.depth - 1) p.frames p.nodes f.base

  lowest_held : held_of p ≡ holding f p.nodes p.len ∷ others
  lowest_held =
      held_lowest p.depth p.frames p.nodes p.len some
      ∙ ap (λ (e : Frame). holding e p.nodes p.len ∷ held (p.depth - 1) p.frames p.nodes e.base) (sym is)

  lowest_sized : (f.base ≤ p.len) × (p.len ≤ f.base + 129) × Sized (p.depth - 1) p.frames f.base
  lowest_sized =
      subst (λ (e : Frame). (e.base ≤ p.len) × (p.len ≤ e.base + 129) × Sized (p.depth - 1) p.frames e.base) (sym is)
      (sized_lowest p.depth p.frames p.len some x.sized)

  pub based : f.base ≤ p.len
  based = lowest_sized.0

  all_orderly : Orderly t goal before × AllOrderly t others
  all_orderly = subst (λ (hs : List (Held (List Node))). AllOrderly t hs) lowest_held x.orderly

  room : f.base + 129 ≤ 4128
  room = omega (arith, sized_room (p.depth - 1) p.frames f.base lowest_sized.2, x.deep, some)

  pub low_base : f.base < 4128
  low_base = omega (arith, room)

  -- the nodes have changed, but for those below
  module _ (ns : List Node) (long : length ns ≡ length p.nodes) (same : take f.base ns ≡ take f.base p.nodes) (left end : ℕ)
      (ends : end ≡ f.base + left) where
    abbrev later : Path
    later = record { frames = p.frames; depth = p.depth; nodes = ns; len = end }

    later_held : held_of later ≡ record { position = position f; step = f.step; work = part_of ns f.base left } ∷ others
    later_held =
        let e : end - f.base ≡ left = omega arith in
        held_lowest p.depth p.frames ns end some
        ∙ ap (λ (e' : Frame). holding e' ns end ∷ held (p.depth - 1) p.frames ns e'.base) (sym is)
        ∙ ap (λ (k : ℕ). record { position = position f; step = f.step; work = part_of ns f.base k } ∷ held (p.depth - 1) p.frames ns f.base) e
        ∙ ap (λ (hs : List (Held (List Node))). record { position = position f; step = f.step; work = part_of ns f.base left } ∷ hs)
        (held_same (p.depth - 1) p.frames p.frames p.nodes ns f.base (λ i _. refl) same lowest_sized.2)

    later_shape : Orderly t goal (part_of ns f.base left) → Shape t later
    later_shape o =
        let few : left ≤ 129 = part_fits t goal ns f.base left o in
        let base = ap (λ (e : Frame). e.base) is in
        record {
          frames = x.frames;
          nodes = long ∙ x.nodes;
          deep = x.deep;
          sized = sized_again p.depth p.frames end some (omega arith) (omega arith)
              (subst (λ (b : ℕ). Sized (p.depth - 1) p.frames b) base lowest_sized.2);
          orderly = subst (λ (hs : List (Held (List Node))). AllOrderly t hs) (sym later_held) (o, all_orderly.1);
        }

    module _ (due : Due) (brings : Brings t goal (Pruned t v (f.position.level - 1)) before (part_of ns f.base left) due.step due.region) where
      pub took_due : Took t v (held_of p) (Some due) (held_of later)
      took_due =
          subst (λ (hs : List (Held (List Node))). Took t v hs (Some due) (held_of later)) (sym lowest_held)
          (part_of ns f.base left, later_held, gave_of t v (f.position.level - 1) goal before (part_of ns f.base left) all_orderly.0 due brings, brings.less)

      pub due_shape : Shape t later
      due_shape = later_shape (brings.carried.orderly all_orderly.0)

      pub due_few : left ≤ 129
      due_few = part_fits t goal ns f.base left (brings.carried.orderly all_orderly.0)

  module _ (ns : List Node) (long : length ns ≡ length p.nodes) (same : take f.base ns ≡ take f.base p.nodes)
      (carried : Carried t goal (Pruned t v (f.position.level - 1)) (λ _. ⊥) before []) where
    pub took_none : Took t v (held_of p) None (held_of (record { frames = p.frames; depth = p.depth; nodes = ns; len = f.base }))
    took_none =
        subst (λ (hs : List (Held (List Node))). Took t v hs None (held_of (record { frames = p.frames; depth = p.depth; nodes = ns; len = f.base }))) (sym lowest_held)
        (later_held ns long same 0 f.base (omega arith), emptied_of t v (f.position.level - 1) goal before carried)

    pub none_shape : Shape t (record { frames = p.frames; depth = p.depth; nodes = ns; len = f.base })
    none_shape = later_shape ns long same 0 f.base (omega arith) (carried.orderly all_orderly.0)

  pub never_full : (ns : List Node) → length ns ≡ 4128 → (Orderly t goal before → f.base + 129 ≤ length ns → ⊥) → ⊥
  never_full ns long h = h all_orderly.0 (omega (arith, room))
