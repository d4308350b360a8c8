-- The next level as a computation on masks, for examples.
use Rattle.std.proofs.Common.{◌≡◌, ℕ, zero, suc, ◌^◌, ◌<◌, ◌≤◌, Bool, true, false, cond, ◌&&◌, eqb, ltb, List, [], ◌∷◌, length, Decides, sym, refl, ap, ◌∙◌, subst, inl, inr, arith}
use native.Mathlib.Decide.{ℕ_discrete, dec_le}
use lib.Bits.{bit_and, bit_or}
use Rattle.std.proofs.lemmas.List.{get_or_past}
use Rattle.std.proofs.lemmas.Bool.{ne_eqb, le-ltb, lt-ltb}
use Rattle.std.proofs.lemmas.Bool.Decides.{Decides-eqb, Decides-and, Decides-like, not_from_Decides}
use Rattle.sets.specs.Sets.{Has, Marks, minus}
use Rattle.sets.proofs.Bits.{has?, minus_marks, and_inside, inside_and, and_apart, apart_and}
use Rattle.sets.proofs.Members.{has_lt, not_in_none, none_marks, single_marks, within_below, one_fits}
use Rattle.problem.specs.Actions.{Among}
use Rattle.problem.specs.Firm.{Task}
use Rattle.problem.specs.declared.rows.EffectRow.{EffectRow}
use Rattle.graph.specs.Levels.{Level, action, noop, next, Same, Together, Supports, Supported, Clash, Excludes}
use Rattle.graph.specs.Turning.{row}
use Rattle.graph.specs.Tables.{Meet, MovesOf, Touches, NodesOf, Stopped, Beaten, move_at}
use Rattle.graph.specs.Graphs.{has}
use Rattle.graph.specs.declared.table.Move.{Move}
use Rattle.sets.proofs.Parts.{or_left, or_right, or_either, and_left, and_right, and_both}
use Rattle.graph.proofs.RowSets.{met, row_lt}
use Rattle.graph.specs.Tables.{every}
use Rattle.graph.proofs.Supporting.{apart_together, together_apart, supported}
use Rattle.graph.proofs.Clashing.{touched_marks, action_clashes}
use Rattle.graph.proofs.Excluding.{facts_marks, unstopped, stopped, beaten_both, none_excluded, excluded, self_marks}

-- ---- the union of the rows of a set, what they have in common, and the rows that meet a set: rows below n

abbrev pub union : ℕ → (ℕ → ℕ) → ℕ → ℕ
union zero rows of = 0
union (suc n) rows of = cond (has of n) (bit_or (rows n) (union n rows of)) (union n rows of)

abbrev pub common : ℕ → (ℕ → ℕ) → ℕ → ℕ → ℕ
common zero rows of start = start
common (suc n) rows of start = cond (has of n) (bit_and (rows n) (common n rows of start)) (common n rows of start)

abbrev pub meeting : ℕ → (ℕ → ℕ) → ℕ → ℕ
meeting zero rows set = 0
meeting (suc n) rows set = cond (eqb (bit_and (rows n) set) 0) (meeting n rows set) (bit_or (2 ^ n) (meeting n rows set))

has_true : (s k : ℕ) → Has s k → has s k ≡ true
has_true s k h = (Decides-eqb _ 1).1 h

pub has_false : (s k : ℕ) → (Has s k → ⊥) → has s k ≡ false
has_false s k n = ne_eqb _ 1 n

union_marks : (n : ℕ) (rows : ℕ → ℕ) (of : ℕ) → Marks (union n rows of) (λ g. (k : ℕ) × (k < n) × Has of k × Has (rows k) g)
union_marks zero rows of = none_marks _ (λ g h. omega (arith, h.1))
union_marks (suc n) rows of = go (has? of n) (union_marks n rows of)
  where
    go : Dec (Has of n) → Marks (union n rows of) (λ g. (k : ℕ) × (k < n) × Has of k × Has (rows k) g)
        → Marks (union (suc n) rows of) (λ g. (k : ℕ) × (k < suc n) × Has of k × Has (rows k) g)
    go (yes h) ih = rw (has_true of n h) (record {
      only = λ g b. elim (or_either (rows n) (union n rows of) g b) [
        | inl a ↦ (n, omega arith, h, a)
        | inr a ↦ (let r = ih.only g a in (r.0, omega (arith, r.1), r.2, r.3))
      ];
      all = λ g r. elim (ℕ_discrete r.0 n) [
        | yes e ↦ or_left (rows n) (union n rows of) g (subst (λ (x : ℕ). Has (rows x) g) e r.3)
        | no ne ↦ or_right (rows n) (union n rows of) g (ih.all g (r.0, omega (arith, r.1), r.2, r.3))
      ];
    })
    go (no q) ih = rw (has_false of n q) (record {
      only = λ g b. let r = ih.only g b in (r.0, omega (arith, r.1), r.2, r.3);
      all = λ g r. elim (ℕ_discrete r.0 n) [
        | yes e ↦ absurd (q (subst (λ (x : ℕ). Has of x) e r.2))
        | no ne ↦ ih.all g (r.0, omega (arith, r.1), r.2, r.3)
      ];
    })

common_marks : (n : ℕ) (rows : ℕ → ℕ) (of start : ℕ)
    → Marks (common n rows of start) (λ g. Has start g × ((k : ℕ) → k < n → Has of k → Has (rows k) g))
common_marks zero rows of start = record { only = λ g h. (h, λ k lt. omega arith); all = λ g h. h.0 }
common_marks (suc n) rows of start = go (has? of n) (common_marks n rows of start)
  where
    go : Dec (Has of n) → Marks (common n rows of start) (λ g. Has start g × ((k : ℕ) → k < n → Has of k → Has (rows k) g))
        → Marks (common (suc n) rows of start) (λ g. Has start g × ((k : ℕ) → k < suc n → Has of k → Has (rows k) g))
    go (yes h) ih = rw (has_true of n h) (record {
      only = λ g b.
          let r = ih.only g (and_right (rows n) (common n rows of start) g b) in (
            r.0,
            λ k lt o. elim (ℕ_discrete k n) [
              | yes e ↦ subst (λ (x : ℕ). Has (rows x) g) (sym e) (and_left (rows n) (common n rows of start) g b)
              | no ne ↦ r.1 k (omega arith) o
            ],
          );
      all = λ g r. and_both (rows n) (common n rows of start) g (r.1 n (omega arith) h) (ih.all g (r.0, λ k lt o. r.1 k (omega arith) o));
    })
    go (no q) ih = rw (has_false of n q) (record {
      only = λ g b.
          let r = ih.only g b in (
            r.0,
            λ k lt o. elim (ℕ_discrete k n) [
              | yes e ↦ absurd (q (subst (λ (x : ℕ). Has of x) e o))
              | no ne ↦ r.1 k (omega arith) o
            ],
          );
      all = λ g r. ih.all g (r.0, λ k lt o. r.1 k (omega arith) o);
    })

meeting_marks : (n : ℕ) (rows : ℕ → ℕ) (set : ℕ) → n ≤ 64 → set < 2 ^ 64 → Marks (meeting n rows set) (λ k. (k < n) × Meet (rows k) set)
meeting_marks zero rows set few small = none_marks _ (λ k h. omega (arith, h.0))
meeting_marks (suc n) rows set few small = go (ℕ_discrete (bit_and (rows n) set) 0) (meeting_marks n rows set (omega arith) small)
  where
    go : Dec (bit_and (rows n) set ≡ 0) → Marks (meeting n rows set) (λ k. (k < n) × Meet (rows k) set)
        → Marks (meeting (suc n) rows set) (λ k. (k < suc n) × Meet (rows k) set)
    go (yes e) ih = rw ((Decides-eqb _ 0).1 e) (record {
      only = λ k h. let r = ih.only k h in (omega (arith, r.0), r.1);
      all = λ k h. elim (ℕ_discrete k n) [
        | yes q ↦ (let m = subst (λ (x : ℕ). Meet (rows x) set) q h.1 in absurd (and_apart (rows n) set e m.0 m.1 m.2))
        | no ne ↦ ih.all k (omega (arith, h.0), h.1)
      ];
    })
    go (no q) ih = rw (ne_eqb _ 0 q) (record {
      only = λ k h. elim (or_either (2 ^ n) (meeting n rows set) k h) [
        | inl a ↦ (let e = ((single_marks n (omega arith)).only k a).0 in
            (omega (arith, e), subst (λ (x : ℕ). Meet (rows x) set) (sym e) (met (rows n) set small q)))
        | inr a ↦ (let r = ih.only k a in (omega (arith, r.0), r.1))
      ];
      all = λ k h. elim (ℕ_discrete k n) [
        | yes e ↦ or_left (2 ^ n) (meeting n rows set) k ((single_marks n (omega arith)).all k (e, omega (arith, e)))
        | no ne ↦ or_right (2 ^ n) (meeting n rows set) k (ih.all k (omega (arith, h.0), h.1))
      ];
    })

-- ---- a level of masks: facts F, and rows R, of which those from a on are empty

abbrev pub masks : ℕ → (ℕ → ℕ) → Level
masks F R = record { fact = λ f. Has F f; exclusive = λ f g. Has (R f) g }

-- whether a set is together there
abbrev pub stands : ℕ → (ℕ → ℕ) → ℕ → ℕ → Bool
stands F R a set = eqb (bit_and set F) set && eqb (bit_and (union a R set) set) 0

-- what the effects of an action support
abbrev pub supporting : ℕ → (ℕ → ℕ) → ℕ → ℕ → List EffectRow → ℕ
supporting F R a pre [] = 0
supporting F R a pre (e ∷ es) = cond (stands F R a (bit_or pre e.condition)) (bit_or e.add (supporting F R a pre es)) (supporting F R a pre es)

module _ (F : ℕ) (R : ℕ → ℕ) (a : ℕ) (past : (f g : ℕ) → Has (R f) g → f < a) where
  pub barred_marks : (set : ℕ) → Marks (union a R set) (λ g. (k : ℕ) × Has set k × Has (R k) g)
  barred_marks set = record {
    only = λ g h. let r = (union_marks a R set).only g h in (r.0, r.2, r.3);
    all = λ g r. (union_marks a R set).all g (r.0, past r.0 g r.2, r.1, r.2);
  }

  pub stands_decides : (set : ℕ) → Decides (stands F R a set) (Together (masks F R) set)
  stands_decides set =
      let barred = barred_marks set in
      Decides-like _
      (λ h. apart_together (masks F R) set (union a R set) barred (and_inside set F h.0) (and_apart (union a R set) set h.1))
      (λ h. (inside_and set F h.facts, apart_and (union a R set) set (together_apart (masks F R) set (union a R set) barred h)))
      (Decides-and _ _ (Decides-eqb _ _) (Decides-eqb _ _))

  supporting_marks : (pre : ℕ) (es : List EffectRow)
      → Marks (supporting F R a pre es) (λ f. (e : EffectRow) × Among e es × Has e.add f × Together (masks F R) (bit_or pre e.condition))
  supporting_marks pre [] = none_marks _ (λ f h. h.1)
  supporting_marks pre (e ∷ es) = go (stands F R a (bit_or pre e.condition)) refl (supporting_marks pre es)
    where
      go : (b : Bool) → stands F R a (bit_or pre e.condition) ≡ b
          → Marks (supporting F R a pre es) (λ f. (x : EffectRow) × Among x es × Has x.add f × Together (masks F R) (bit_or pre x.condition))
          → Marks (cond b (bit_or e.add (supporting F R a pre es)) (supporting F R a pre es))
          (λ f. (x : EffectRow) × Among x (e ∷ es) × Has x.add f × Together (masks F R) (bit_or pre x.condition))
      go true p ih = record {
        only = λ f h. elim (or_either e.add (supporting F R a pre es) f h) [
          | inl q ↦ (e, inl refl, q, (stands_decides (bit_or pre e.condition)).0 p)
          | inr q ↦ (let r = ih.only f q in (r.0, inr r.1, r.2, r.3))
        ];
        all = λ f r. elim r.1 [
          | inl q ↦ or_left e.add (supporting F R a pre es) f (subst (λ (x : EffectRow). Has x.add f) q r.2)
          | inr q ↦ or_right e.add (supporting F R a pre es) f (ih.all f (r.0, q, r.2, r.3))
        ];
      }
      go false p ih = record {
        only = λ f h. let r = ih.only f h in (r.0, inr r.1, r.2, r.3);
        all = λ f r. elim r.1 [
          | inl q ↦ absurd (not_from_Decides _ (stands_decides (bit_or pre e.condition)) p (subst (λ (x : EffectRow). Together (masks F R) (bit_or pre x.condition)) q r.3))
          | inr q ↦ ih.all f (r.0, q, r.2, r.3)
        ];
      }

  module _ (t : Task) where
    -- what each action supports
    abbrev pub supports : ℕ → ℕ
    supports k = cond (ltb k t.count) (supporting F R a (t.at k).precondition (t.at k).effects) 0

    pub supports_marks : (k : ℕ) → Marks (supports k) (Supports t (masks F R) (action k))
    supports_marks k = elim (dec_le t.count k) [
      | yes le ↦ rw (le-ltb k t.count le) (none_marks _ (λ f s. omega (arith, s.0)))
      | no gt ↦ (let lt : k < t.count = omega arith in
          rw (lt-ltb k t.count lt) (supported t (masks F R) k (t.at k).precondition (t.at k).effects _ (λ e among. lt) refl refl (supporting_marks _ _)))
    ]

-- ---- the level after it, for a task with these moves

-- there is a move for each action, and the moves fit 64 bits
pub record Rows (t : Task) (m : List Move) : Type 0 where
  pub long : length m ≡ t.count
  pub small_uses : (k : ℕ) → (move_at m k).uses < 2 ^ 64
  pub small_deletes : (k : ℕ) → (move_at m k).deletes < 2 ^ 64

abbrev pub touch : Task → List Move → ℕ → ℕ → ℕ → ℕ
touch t m u d w =
    bit_or (bit_or (meeting t.count (λ k. (move_at m k).uses) d) (meeting t.count (λ k. (move_at m k).deletes) u))
    (meeting t.count (λ k. (move_at m k).needs) w)

module _ (t : Task) (m : List Move) (ms : MovesOf t m) (rs : Rows t m) where
  part_marks : (part : Move → ℕ) (set : ℕ) → part (record { needs = 0; uses = 0; deletes = 0 }) ≡ 0 → set < 2 ^ 64
      → Marks (meeting t.count (λ k. part (move_at m k)) set) (λ k. Meet (part (move_at m k)) set)
  part_marks part set none lt =
      let q = meeting_marks t.count (λ k. part (move_at m k)) set ms.few lt in
      record { only = λ k h. (q.only k h).1; all = λ k h. q.all k (below k h.0 h.1, h) }
    where
      below : (k f : ℕ) → Has (part (move_at m k)) f → k < t.count
      below k f h = elim (dec_le t.count k) [
        | yes past ↦ absurd (not_in_none _ f (ap part (get_or_past m k _ (omega (arith, rs.long))) ∙ none) h)
        | no gt ↦ omega arith
      ]

  row_marks : (rows : List ℕ) (set : ℕ) → length rows ≡ t.count → set < 2 ^ 64 → Marks (meeting t.count (row rows) set) (λ k. Meet (row rows k) set)
  row_marks rows set e lt =
      let q = meeting_marks t.count (row rows) set ms.few lt in
      record { only = λ k h. (q.only k h).1; all = λ k h. q.all k (row_lt rows t.count k h.0 e h.1, h) }

  touch_marks : (u d w : ℕ) → u < 2 ^ 64 → d < 2 ^ 64 → w < 2 ^ 64 → Marks (touch t m u d w) (Touches m u d w)
  touch_marks u d w lu ld lw =
      touched_marks m u d w _ _ _ (part_marks (λ x. x.uses) d refl ld) (part_marks (λ x. x.deletes) u refl lu) (part_marks (λ x. x.needs) w refl lw)

  module _ (F : ℕ) (R : ℕ → ℕ) (a : ℕ) (past : (f g : ℕ) → Has (R f) g → f < a) (lF : F < 2 ^ 64) (lR : (f : ℕ) → R f < 2 ^ 64) where
    abbrev rivals : ℕ → ℕ
    rivals k = union a R (move_at m k).needs

    abbrev beside : ℕ → ℕ
    beside k = minus (touch t m (move_at m k).uses (move_at m k).deletes (rivals k)) (2 ^ k)

    abbrev kept : ℕ → ℕ
    kept k = bit_or (move_at m k).deletes (rivals k)

    rivals_small : (k : ℕ) → rivals k < 2 ^ 64
    rivals_small k = within_below 64 (rivals k) (λ g h. let r = (barred_marks F R a past (move_at m k).needs).only g h in has_lt (R r.0) g (lR r.0) r.2)

    clash_nodes : (k : ℕ) → k < t.count → NodesOf t (Clash t (masks F R) (action k)) (record { actions = beside k; noops = kept k })
    clash_nodes k lt =
        action_clashes t (masks F R) m ms k lt (rivals k) _ (2 ^ k) _ (barred_marks F R a past (move_at m k).needs)
        (touch_marks _ _ _ (rs.small_uses k) (rs.small_deletes k) (rivals_small k)) (single_marks k (omega (arith, ms.few))) (minus_marks _ _)

    abbrev stopped_actions : ℕ → ℕ
    stopped_actions f = cond (has F f) (touch t m (2 ^ f) 0 (R f)) every

    abbrev stopped_noops : ℕ → ℕ
    stopped_noops f = cond (has F f) (minus (R f) (2 ^ f)) every

    stopped_nodes : (f : ℕ) → f < 64 → NodesOf t (Stopped t (masks F R) f) (record { actions = stopped_actions f; noops = stopped_noops f })
    stopped_nodes f lt = elim (has? F f) [
      | yes h ↦ rw (has_true F f h) (stopped t (masks F R) f (2 ^ f) (R f) lt (single_marks f lt) (self_marks (R f)) m ms h _ _
          (touch_marks (2 ^ f) 0 (R f) (one_fits f lt) (omega arith) (lR f)) (minus_marks (R f) (2 ^ f)))
      | no n ↦ rw (has_false F f n) (unstopped t (masks F R) f ms.few n)
    ]

    abbrev supporters : ℕ → ℕ
    supporters f = meeting t.count (supports F R a past t) (2 ^ f)

    supporters_marks : (f : ℕ) → f < 64 → Marks (supporters f) (λ k. Has (supports F R a past t k) f)
    supporters_marks f lt =
        let q = meeting_marks t.count (supports F R a past t) (2 ^ f) ms.few (one_fits f lt) in
        let one = single_marks f lt in
        record {
          only = λ k h. let r = (q.only k h).1 in subst (λ (x : ℕ). Has (supports F R a past t k) x) (one.only r.0 r.2).0 r.1;
          all = λ k h. q.all k (((supports_marks F R a past t k).only f h).0, (f, h, one.all f (refl, lt)));
        }

    abbrev beaten : (ℕ → ℕ) → ℕ → ℕ → ℕ
    beaten rows start f = common t.count rows (supporters f) start

    beaten_marks : (rows : ℕ → ℕ) (start f : ℕ) → f < 64 → Marks (beaten rows start f) (λ g. Has start g × ((k : ℕ) → Has (supporters f) k → Has (rows k) g))
    beaten_marks rows start f lt =
        let q = common_marks t.count rows (supporters f) start in
        record {
          only = λ g h. let r = q.only g h in (r.0, λ k s. r.1 k ((meeting_marks t.count (supports F R a past t) (2 ^ f) ms.few (one_fits f lt)).only k s).0 s);
          all = λ g h. q.all g (h.0, λ k _ s. h.1 k s);
        }

    beaten_nodes : (f : ℕ) → f < 64
        → NodesOf t (Beaten t (masks F R) f) (record { actions = beaten beside (stopped_actions f) f; noops = beaten kept (stopped_noops f) f })
    beaten_nodes f lt = record {
      actions = λ j ltj. beaten_both t (masks F R) f (supports F R a past t) beside (supporters f) (supports_marks F R a past t) (supporters_marks f lt)
          (action j) j (λ k ltk. (clash_nodes k ltk).actions j ltj) _ _ ((stopped_nodes f lt).actions j ltj) (beaten_marks beside (stopped_actions f) f lt);
      noops = λ g ltg. beaten_both t (masks F R) f (supports F R a past t) kept (supporters f) (supports_marks F R a past t) (supporters_marks f lt)
          (noop g) g (λ k ltk. (clash_nodes k ltk).noops g ltg) _ _ ((stopped_nodes f lt).noops g ltg) (beaten_marks kept (stopped_noops f) f lt);
    }

    abbrev pub next_facts : ℕ
    next_facts = bit_or F (union t.count (supports F R a past t) every)

    abbrev unbeaten : ℕ → ℕ
    unbeaten f =
        bit_or (union t.count (supports F R a past t) (minus every (beaten beside (stopped_actions f) f)))
        (minus F (beaten kept (stopped_noops f) f))

    abbrev pub next_row : ℕ → ℕ
    next_row f = cond (has next_facts f) (minus next_facts (unbeaten f)) 0

    union_supports : (of : ℕ) → Marks (union t.count (supports F R a past t) of) (λ g. (k : ℕ) × Has of k × Has (supports F R a past t k) g)
    union_supports of =
        let q = union_marks t.count (supports F R a past t) of in
        record {
          only = λ g h. let r = q.only g h in (r.0, r.2, r.3);
          all = λ g h. q.all g (h.0, ((supports_marks F R a past t h.0).only g h.2).0, h.1, h.2);
        }

    pub next_facts_marks : Marks next_facts (Supported t (masks F R))
    next_facts_marks =
        facts_marks t (masks F R) F _ (supports F R a past t) (self_marks F) (supports_marks F R a past t)
        (λ k g h. omega (arith, ms.few, ((supports_marks F R a past t k).only g h).0)) (union_supports every)

    pub next_row_marks : (f : ℕ) → f < 64 → Marks (next_row f) (Excludes t (masks F R) f)
    next_row_marks f lt = elim (has? next_facts f) [
      | yes h ↦ rw (has_true next_facts f h) (excluded t (masks F R) F next_facts f (supports F R a past t) ms.few lF (self_marks F) (supports_marks F R a past t) next_facts_marks
          _ (beaten_nodes f lt) _ _ _ _ (minus_marks every _) (union_supports _) (minus_marks F _) (minus_marks next_facts _) h)
      | no n ↦ rw (has_false next_facts f n) (none_excluded t (masks F R) next_facts f next_facts_marks n)
    ]

    -- a level of masks that have been computed is the next one
    pub next_masks : (F' : ℕ) (R' : ℕ → ℕ) → F' < 2 ^ 64 → ((f g : ℕ) → Has (R' f) g → f < 64) → next_facts ≡ F' → ((f : ℕ) → f < 64 → next_row f ≡ R' f)
        → Same (next t (masks F R)) (masks F' R')
    next_masks F' R' lt small p q =
        let facts : Marks F' (Supported t (masks F R)) = subst (λ (x : ℕ). Marks x (Supported t (masks F R))) p next_facts_marks in
        let rows : (f : ℕ) → f < 64 → Marks (R' f) (Excludes t (masks F R) f) =
        λ f l. subst (λ (x : ℕ). Marks x (Excludes t (masks F R) f)) (q f l) (next_row_marks f l) in
        record {
          facts = facts.all;
          facts' = facts.only;
          exclusive = λ f g ex. (rows f (has_lt F' f lt (facts.all f ex.one))).all g ex;
          exclusive' = λ f g h. (rows f (small f g h)).only g h;
        }
