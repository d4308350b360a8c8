-- Sure adds and sure deletes by what fires in the empty state and in the full one.
use Rattle.std.proofs.Common.{◌≡◌, ℕ, ◌<◌, T, List, length, sym, refl, subst, inl, inr, arith}
use lib.Bits.{bit_or}
use Rattle.sets.specs.Sets.{Has, Marks}
use Rattle.sets.proofs.Bits.{same_members, minus_marks}
use Rattle.sets.proofs.Members.{all_marks, not_in_none}
use Rattle.problem.specs.Actions.{Among, fires, gather, adds, deletes}
use Rattle.problem.specs.Firm.{Task}
use Rattle.problem.specs.Problems.{task_of, Fits}
use Rattle.problem.specs.declared.problem.Problem.{Problem}
use Rattle.problem.proofs.Fitting.{problem_fits}
use Rattle.problem.specs.declared.rows.EffectRow.{EffectRow}
use Rattle.problem.proofs.Effects.{fires_inside, inside_fires, gather_from, gather_has, empty_fires}
use Rattle.graph.specs.Levels.{action, SureAdd, SureDelete, Needs}
use Rattle.graph.specs.Tables.{Uses, MoveOf, MovesOf, every, move_at, move_is, sure_add_of, sure_delete_of}
use Rattle.graph.specs.declared.table.Move.{Move}
use Rattle.sets.proofs.Parts.{or_left, or_right, or_either}

pub all_has : (k : ℕ) → k < 64 → Has every k
all_has k lt = (all_marks 64).all k lt

-- what fires in the empty state has the empty condition
fires_empty : (e : EffectRow) → T (fires 0 e) → e.condition ≡ 0
fires_empty e h = same_members e.condition 0 (fires_inside 0 e h) (λ k b. absurd (not_in_none 0 k refl b))

-- in the state that has all atoms, every effect fires
all_fire : (t : Task) → Fits t → (k : ℕ) → k < t.count → (e : EffectRow) → Among e (t.at k).effects → T (fires every e)
all_fire t fits k lt e a = inside_fires every e (λ f h. all_has f
    (omega (arith, fits.few_atoms, fits.effects k lt e a f (or_left (bit_or e.condition e.add) e.delete f (or_left e.condition e.add f h)))))

-- in one set of an effect with empty condition, and in no other set of any effect
abbrev Sure : (EffectRow → ℕ) → (EffectRow → ℕ) → List EffectRow → ℕ → Type 0
Sure part other es f =
    ((e : EffectRow) × Among e es × (e.condition ≡ 0) × Has (part e) f) × ((e : EffectRow) → Among e es → Has (other e) f → ⊥)

module _ (part other : EffectRow → ℕ) (es : List EffectRow) (always ever r : ℕ) (p : always ≡ gather part 0 es) (q : ever ≡ gather other every es)
    (fire : (e : EffectRow) → Among e es → T (fires every e)) (m : Marks r (λ f. Has always f × (Has ever f → ⊥))) where
  sure_marks : Marks r (Sure part other es)
  sure_marks = record {
    only = λ f h.
        let b = m.only f h in
        let g = gather_from part 0 f es (subst (λ (x : ℕ). Has x f) p b.0) in (
          (g.0, g.1, fires_empty g.0 g.2, g.3),
          λ e a d. b.1 (subst (λ (x : ℕ). Has x f) (sym q) (gather_has other every f es e a (fire e a) d)),
        );
    all = λ f s. m.all f (
      subst (λ (x : ℕ). Has x f) (sym p) (gather_has part 0 f es s.0.0 s.0.1 (empty_fires 0 s.0.0 s.0.2) s.0.3),
      λ h. let g = gather_from other every f es (subst (λ (x : ℕ). Has x f) q h) in s.1 g.0 g.1 g.3,
    );
  }

module _ (t : Task) (fits : Fits t) (k : ℕ) (lt : k < t.count) (es : List EffectRow) (is : es ≡ (t.at k).effects) (always ever r : ℕ) where
  here : (e : EffectRow) → Among e es → T (fires every e)
  here e a = all_fire t fits k lt e (subst (Among e) is a)

  pub sure_adds : always ≡ adds 0 es → ever ≡ deletes every es → Marks r (λ f. Has always f × (Has ever f → ⊥)) → Marks r (SureAdd t (action k))
  sure_adds p q m =
      let s = subst (λ (xs : List EffectRow). Marks r (Sure (λ e. e.add) (λ e. e.delete) xs)) is
      (sure_marks (λ e. e.add) (λ e. e.delete) es always ever r p q here m) in
      record {
        only = λ f h. let b = s.only f h in record { adds = b.0; spares = b.1 };
        all = λ f b. s.all f (b.adds, b.spares);
      }

  pub sure_deletes : always ≡ deletes 0 es → ever ≡ adds every es → Marks r (λ f. Has always f × (Has ever f → ⊥)) → Marks r (SureDelete t (action k))
  sure_deletes p q m =
      let s = subst (λ (xs : List EffectRow). Marks r (Sure (λ e. e.delete) (λ e. e.add) xs)) is
      (sure_marks (λ e. e.delete) (λ e. e.add) es always ever r p q here m) in
      record {
        only = λ f h. let b = s.only f h in record { deletes = b.0; spares = b.1 };
        all = λ f b. s.all f (b.deletes, b.spares);
      }

-- precondition and sure adds together
pub use_marks : (t : Task) (k pre add : ℕ) → pre ≡ (t.at k).precondition → Marks add (SureAdd t (action k)) → Marks (bit_or pre add) (Uses t (action k))
use_marks t k pre add e m = record {
  only = λ f h. elim (or_either pre add f h) [ inl a ↦ inl (subst (λ (x : ℕ). Has x f) e a) | inr a ↦ inr (m.only f a) ];
  all = λ f u. elim u [ inl a ↦ or_left pre add f (subst (λ (x : ℕ). Has x f) (sym e) a) | inr a ↦ or_right pre add f (m.all f a) ];
}

pub need_marks : (t : Task) (k pre : ℕ) → pre ≡ (t.at k).precondition → Marks pre (Needs t (action k))
need_marks t k pre e = record { only = λ f. subst (λ (x : ℕ). Has x f) e; all = λ f. subst (λ (x : ℕ). Has x f) (sym e) }

-- a move that is worked out says what its action needs, uses and surely deletes
pub action_move : (t : Task) → Fits t → (k : ℕ) → k < t.count → MoveOf t k (move_is t k)
action_move t fits k lt = record {
  needs = need_marks t k _ refl;
  uses = use_marks t k _ (sure_add_of t k) refl (sure_adds t fits k lt _ refl _ _ _ refl refl (minus_marks _ _));
  deletes = sure_deletes t fits k lt _ refl _ _ (sure_delete_of t k) refl refl (minus_marks _ _);
}

-- and so do those of a problem
pub worked_out : (p : Problem) (moves : List Move) → ((k : ℕ) → k < length p.actions.now → move_at moves k ≡ move_is (task_of p) k) → MovesOf (task_of p) moves
worked_out p moves is = record {
  few = p.sized.2;
  each = λ k lt. subst (λ (m : Move). MoveOf (task_of p) k m) (sym (is k lt)) (action_move (task_of p) (problem_fits p) k lt);
}
