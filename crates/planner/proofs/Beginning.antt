-- Work on a position begins.
use Rattle.std.proofs.Common.{◌≡◌, ℕ, ◌+◌, ◌<◌, ◌≤◌, List, [], ◌∷◌, length, Some, None, Option, MatchOption, IsSome, set, sym, refl, ap, ◌∙◌, subst, inl, arith, length-set}
use Rattle.problem.specs.Firm.{Task}
use Rattle.problem.specs.Runs.{Goal}
use Rattle.regression.specs.Roots.{Root, Begun as Begins}
use Rattle.regression.specs.Stacks.{part_of}
use Rattle.regression.specs.declared.node.Node.{Node}
use Rattle.regression.specs.declared.found.Part.{Part}
use Rattle.store.specs.Positions.{target_of}
use Rattle.store.specs.declared.position.Position.{Position}
use Rattle.planner.specs.Paths.{Held, Begun}
use Rattle.planner.specs.Works.{waits, may, held_of, AllOrderly, Shape, Entered}
use Rattle.planner.specs.declared.frame.Frame.{Frame}
use Rattle.planner.specs.declared.path.Path.{Path}
use Rattle.regression.proofs.Stacking.{length_part}
use Rattle.planner.proofs.Holding.{opened_held, opened_sized, sized_room}

root_begun : (t : Task) (q : Goal) (r : Node) → Root t q r → Begun (waits t) may t q (r ∷ [])
root_begun t q r root s step end firm meets =
    let p = root.parts s step (record { end = end; firm = firm; meets = meets }) in
    (p.0, (p.2, inl p.3))

-- there is room for one more
pub room_for : (t : Task) (p : Path) → Shape t p → p.depth < 32 → p.len < 4128
room_for t p x lt = omega (arith, sized_room p.depth p.frames p.len x.sized)

-- so work begins
pub begins_some : {A : Type 0} (P : Type 0) (Q : A → Type 0) (o : Option A) → MatchOption o P Q → (P → ⊥) → IsSome o
begins_some P Q None h full = absurd (full h)
begins_some P Q (Some x) h full = refl

-- work begins with one node, on any goal
module _ (t : Task) (p : Path) (g : Goal) (ns : List Node) (part : Part) (begins : Begins t g p.nodes ns p.len part) where
  one : part.count ≡ 1
  one = sym (length_part ns part.start part.count) ∙ ap (λ (xs : List Node). length xs) begins.nodes

  pub one_few : part.count ≤ 129
  one_few = omega (arith, one)

-- the path with one more position
module _ (t : Task) (p : Path) (q : Position) (step : ℕ) (ns : List Node) (part : Part) (shallow : p.depth < 32) (x : Shape t p)
    (long : length ns ≡ length p.nodes) (begins : Begins t q.goal p.nodes ns p.len part) where
  abbrev frame : Frame
  frame = record { position = q; step = step; base = p.len }

  few : part.count ≤ 129
  few = one_few t p q.goal ns part begins

  abbrev longer : Path
  longer = record { frames = set p.frames p.depth frame; depth = p.depth + 1; nodes = ns; len = p.len + part.count }

  longer_held : held_of longer ≡ record { position = target_of q; step = step; work = begins.root ∷ [] } ∷ held_of p
  longer_held =
      opened_held p.depth p.frames p.nodes ns frame part.count (omega (arith, x.frames)) few begins.below x.sized
      ∙ ap (λ (b : ℕ). record { position = target_of q; step = step; work = part_of ns b part.count } ∷ held_of p) (sym begins.from)
      ∙ ap (λ (w : List Node). record { position = target_of q; step = step; work = w } ∷ held_of p) begins.nodes

  pub opened_entered : Entered t p (target_of q) step longer
  opened_entered = record { work = begins.root ∷ []; begun = root_begun t q.goal begins.root begins.is_root; is = longer_held; depth = refl }

  pub opened_shape : Shape t longer
  opened_shape = record {
    frames = simp length-set x.frames;
    nodes = long ∙ x.nodes;
    deep = omega (arith, shallow);
    sized = opened_sized p.depth p.frames p.nodes ns frame part.count (omega (arith, x.frames)) few begins.below x.sized;
    orderly = subst (λ (hs : List (Held (List Node))). AllOrderly t hs) (sym longer_held) (begins.is_root.orderly, x.orderly);
  }
