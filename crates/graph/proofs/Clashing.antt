-- Clashes by masks.
use Rattle.std.proofs.Common.{◌≡◌, ℕ, ◌+◌, ◌<◌, ◌⊎◌, List, length, map, set, get_or, sym, refl, ap, ◌∙◌, subst, inl, inr, arith}
use native.Mathlib.Decide.{ℕ_discrete}
use lib.Bits.{bit_or}
use Rattle.std.proofs.Math.ListN.{get_or-map}
use Rattle.std.proofs.lemmas.List.{get_or-set_same, get_or-set_other}
use Rattle.sets.specs.Sets.{bit, Has, Marks}
use Rattle.problem.specs.Firm.{Task}
use Rattle.graph.specs.Levels.{Level, Node, action, noop, Needs, SureDelete, Hurts, Rivals, Clash}
use Rattle.graph.specs.Turning.{row, Turned}
use Rattle.graph.specs.Tables.{Uses, MoveOf, MovesOf, Touches, Meet, NodesOf, move_at}
use Rattle.graph.specs.declared.table.Move.{Move}
use Rattle.graph.specs.declared.table.Nodes.{Nodes}
use Rattle.sets.proofs.Parts.{or_left, or_right, or_either}
use Rattle.graph.proofs.RowSets.{one_is, one_has}

-- what is exclusive with a precondition of x
abbrev pub Against : Task → Level → Node → ℕ → Type 0
Against t l x g = (f : ℕ) × Needs t x f × l.exclusive f g

-- x and y spoil each other: they clash if they are different
abbrev pub Spoils : Task → Level → Node → Node → Type 0
Spoils t l x y = Hurts t x y ⊎ (Hurts t y x ⊎ Rivals t l x y)

-- a node by its masks
pub record Profile (t : Task) (l : Level) (x : Node) (u v w : ℕ) : Type 0 where
  pub uses : Marks u (Uses t x)
  pub deletes : Marks v (SureDelete t x)
  pub barred : Marks w (Against t l x)

module _ (t : Task) (l : Level) (x : Node) (uses deletes barred : ℕ) (p : Profile t l x uses deletes barred) where
  module _ (m : List Move) (ms : MovesOf t m) (j : ℕ) (lt : j < t.count) where
    pub touches_spoils : Touches m uses deletes barred j → Spoils t l x (action j)
    touches_spoils (inl h) = inl (h.0, p.deletes.only h.0 h.2, (ms.each j lt).uses.only h.0 h.1)
    touches_spoils (inr (inl h)) = inr (inl (h.0, (ms.each j lt).deletes.only h.0 h.1, p.uses.only h.0 h.2))
    touches_spoils (inr (inr h)) =
        let b = p.barred.only h.0 h.2 in
        inr (inr (b.0, h.0, b.1, (ms.each j lt).needs.only h.0 h.1, b.2))

    pub spoils_touches : Spoils t l x (action j) → Touches m uses deletes barred j
    spoils_touches (inl h) = inl (h.0, (ms.each j lt).uses.all h.0 h.2, p.deletes.all h.0 h.1)
    spoils_touches (inr (inl h)) = inr (inl (h.0, (ms.each j lt).deletes.all h.0 h.1, p.uses.all h.0 h.2))
    spoils_touches (inr (inr h)) = inr (inr (h.1, (ms.each j lt).needs.all h.1 h.3, p.barred.all h.1 (h.0, h.2, h.4)))

  -- a no-op
  pub noop_spoils : (g : ℕ) → Has deletes g ⊎ Has barred g → Spoils t l x (noop g)
  noop_spoils g (inl h) = inl (g, p.deletes.only g h, inl refl)
  noop_spoils g (inr h) = let b = p.barred.only g h in inr (inr (b.0, g, b.1, refl, b.2))

  pub spoils_noop : (g : ℕ) → Spoils t l x (noop g) → Has deletes g ⊎ Has barred g
  spoils_noop g (inl h) =
      let e : h.0 ≡ g = elim h.2 [ inl a ↦ a | inr a ↦ a ] in
      inl (subst (λ (y : ℕ). Has deletes y) e (p.deletes.all h.0 h.1))
  spoils_noop g (inr (inl h)) = absurd h.1
  spoils_noop g (inr (inr h)) = inr (p.barred.all g (h.0, h.2, subst (λ (y : ℕ). l.exclusive h.0 y) h.3 h.4))

-- nodes of different kinds or numbers differ
pub action_one : (i j : ℕ) → action i ≡ action j → i ≡ j
action_one i j e = cc

pub noop_one : (i j : ℕ) → noop i ≡ noop j → i ≡ j
noop_one i j e = cc

pub action_noop : (i j : ℕ) → action i ≡ noop j → ⊥
action_noop i j e = let z : ◌≡◌ {A = ℕ} 0 1 = cc in omega arith

-- the union of the rows of a set, of a set of the moves turned: the moves that meet it
pub turned_marks : (part : Move → ℕ) (others : List ℕ) (moves : List Move) (r set : ℕ) → part (record { needs = 0; uses = 0; deletes = 0 }) ≡ 0
    → Turned others (map part moves) → Marks r (λ j. (f : ℕ) × Has set f × Has (row others f) j) → Marks r (λ j. Meet (part (move_at moves j)) set)
turned_marks part others moves r set none e m = record {
  only = λ j h. let c = m.only j h in (c.0, sym (same c.0 j) ∙ c.2, c.1);
  all = λ j h. m.all j (h.0, h.2, same h.0 j ∙ h.1);
}
  where
    same : (f j : ℕ) → bit (row others f) j ≡ bit (part (move_at moves j)) f
    same f j = e f j ∙ ap (λ (x : ℕ). bit x f) (ap (get_or (map part moves) j) (sym none) ∙ get_or-map part moves j _)

-- the actions that touch, by the three ways in which they can
pub touched_marks : (m : List Move) (uses deletes barred a b c : ℕ) → Marks a (λ j. Meet (move_at m j).uses deletes) → Marks b (λ j. Meet (move_at m j).deletes uses)
    → Marks c (λ j. Meet (move_at m j).needs barred) → Marks (bit_or (bit_or a b) c) (Touches m uses deletes barred)
touched_marks m uses deletes barred a b c ma mb mc = record {
  only = λ j h. elim (or_either (bit_or a b) c j h) [
    | inl x ↦ elim (or_either a b j x) [ inl y ↦ inl (ma.only j y) | inr y ↦ inr (inl (mb.only j y)) ]
    | inr x ↦ inr (inr (mc.only j x))
  ];
  all = λ j h. elim h [
    | inl x ↦ or_left (bit_or a b) c j (or_left a b j (ma.all j x))
    | inr x ↦ elim x [
      | inl y ↦ or_left (bit_or a b) c j (or_right a b j (mb.all j y))
      | inr y ↦ or_right (bit_or a b) c j (mc.all j y)
    ]
  ];
}

-- the profile of an action, by its move
action_profile : (t : Task) (l : Level) (k : ℕ) (m : Move) → MoveOf t k m → (barred : ℕ)
    → Marks barred (λ g. (f : ℕ) × Has m.needs f × l.exclusive f g)
    → Profile t l (action k) m.uses m.deletes barred
action_profile t l k m is barred b = record {
  uses = is.uses;
  deletes = is.deletes;
  barred = record {
    only = λ g h. let r = b.only g h in (r.0, is.needs.only r.0 r.1, r.2);
    all = λ g a. b.all g (a.0, is.needs.all a.0 a.1, a.2);
  };
}

-- what clashes with an action
pub action_clashes : (t : Task) (l : Level) (moves : List Move) → MovesOf t moves → (k : ℕ) → k < t.count → (barred touched one others : ℕ)
    → Marks barred (λ g. (f : ℕ) × Has (move_at moves k).needs f × l.exclusive f g)
    → Marks touched (Touches moves (move_at moves k).uses (move_at moves k).deletes barred)
    → Marks one (λ j. (j ≡ k) × (j < 64)) → Marks others (λ j. Has touched j × (Has one j → ⊥))
    → NodesOf t (Clash t l (action k)) (record { actions = others; noops = bit_or (move_at moves k).deletes barred })
action_clashes t l moves ms k lt barred touched one others b th o r =
    let m : Move = move_at moves k in
    let p : Profile t l (action k) m.uses m.deletes barred = action_profile t l k m (ms.each k lt) barred b in
    record {
      actions = λ j ltj. (
        (λ h. (
          (λ q. (r.only j h).1 (subst (λ (y : ℕ). Has one y) (action_one k j q) (one_has one k o (omega (arith, lt, ms.few))))),
          touches_spoils t l (action k) m.uses m.deletes barred p moves ms j ltj (th.only j (r.only j h).0),
        )),
        λ c. r.all j (th.all j (spoils_touches t l (action k) m.uses m.deletes barred p moves ms j ltj c.1), λ q. c.0 (ap action (sym (one_is one k j o q)))),
      );
      noops = λ g _. (
        (λ h. (action_noop k g, noop_spoils t l (action k) m.uses m.deletes barred p g (or_either m.deletes barred g h))),
        λ c. elim (spoils_noop t l (action k) m.uses m.deletes barred p g c.1) [ inl a ↦ or_left m.deletes barred g a | inr a ↦ or_right m.deletes barred g a ],
      );
    }

-- two rows that are filled together
module _ (P : ℕ → Nodes → Type 0) (actions noops : List ℕ) (i : ℕ) (v : Nodes) where
  pub fill_both : i < length actions → i < length noops
      → ((k : ℕ) → k < i → P k (record { actions = row actions k; noops = row noops k })) → P i v
      → (k : ℕ) → k < i + 1 → P k (record { actions = row (set actions i v.actions) k; noops = row (set noops i v.noops) k })
  fill_both la ln f p k le = elim (ℕ_discrete k i) [
    | yes e ↦ rw e (rw (get_or-set_same actions i v.actions 0 la, get_or-set_same noops i v.noops 0 ln) p)
    | no ne ↦ rw (get_or-set_other actions i k v.actions 0 ne, get_or-set_other noops i k v.noops 0 ne) (f k (omega arith))
  ]
