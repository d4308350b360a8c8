-- What the table answers.
use Rattle.std.proofs.Common.{◌≡◌, ℕ, suc, ◌+◌, ◌*◌, ◌<◌, ◌≤◌, min, Bool, ◌==◌, ◌&&◌, List, length, drop, ap, ◌∙◌, length-drop, true, false, T, ◌⊎◌, Some, None, Decides, Option, MatchOption, sym, refl, subst, inl, inr, add-one, arith}
use Rattle.std.specs.Str.{bytes_eq}
use Rattle.std.proofs.lemmas.List.{length-take}
use Rattle.std.proofs.lemmas.Grind.{same_number_lists}
use Rattle.std.proofs.lemmas.Slice.Eq.{bytes_eq-Decides}
use Rattle.std.proofs.lemmas.Bool.Decides.{Decides-eqb, Decides-and, Decides-like, Decides-not, Decides-or, same_from_decides}
use Rattle.sets.specs.Sets.{Has, Marks}
use Rattle.sets.proofs.Bits.{same_members, has?}
use Rattle.problem.specs.Firm.{Task}
use Rattle.problem.specs.Problems.{Fits}
use Rattle.graph.specs.Levels.{Level, level, Same, Bars, Closing}
use Rattle.graph.specs.Graphs.{facts_at, row_at, rows_at, level_in, GraphOf, bars_in}
use Rattle.graph.specs.Turning.{row}
use Rattle.graph.specs.declared.layer.Layer.{Layer}
use Rattle.graph.specs.declared.graph.Graph.{Graph}
use Rattle.graph.proofs.Growing.{rows_read, rows_few}
use Rattle.graph.proofs.Neighbours.{turned, joined, exclusive_both, fact_atom}

-- a test that is true holds
pub t_true : (b : Bool) → T b → b ≡ true
t_true true h = refl
t_true false h = absurd h

pub true_t : (b : Bool) → b ≡ true → T b
true_t b e = subst T (sym e) tt

module _ (g : Graph) (n a : ℕ) where
  -- what the table bars
  pub bars_decides : (b : ℕ) → Decides (bars_in g n a b) ((Has (facts_at g n) a → ⊥) ⊎ ((Has (facts_at g n) b → ⊥) ⊎ Has (row_at g n a) b))
  bars_decides b =
      Decides-or _ _ (Decides-not _ (Decides-eqb _ 1)) (Decides-or _ _ (Decides-not _ (Decides-eqb _ 1)) (Decides-eqb _ 1))

  module _ (all : ℕ) (few : g.atoms ≤ 64) (m : Marks all (λ k. k < min g.atoms 64)) where
    -- the row of an atom that is no fact
    pub no_fact_row : (facts : ℕ) → facts ≡ facts_at g n → (Has facts a → ⊥) → Marks all (λ k. (k < g.atoms) × T (bars_in g n a k))
    no_fact_row facts p none = record {
      only = λ k h. (omega (arith, m.only k h), true_t _ ((bars_decides k).1 (inl (λ b. none (subst (λ (x : ℕ). Has x a) (sym p) b)))));
      all = λ k h. m.all k (omega (arith, h.0));
    }

    by_row : (free r : ℕ) → Has (facts_at g n) a → Marks free (λ k. Has (facts_at g n) k × (Has (row_at g n a) k → ⊥))
        → Marks r (λ k. Has all k × (Has free k → ⊥)) → Marks r (λ k. (k < g.atoms) × T (bars_in g n a k))
    by_row free r fact f o = record {
      only = λ k h.
          let b = o.only k h in (
            omega (arith, m.only k b.0),
            true_t _ ((bars_decides k).1 (inr (elim (has? (facts_at g n) k) [
              | no q ↦ inl q
              | yes q ↦ inr (elim (has? (row_at g n a) k) [ yes z ↦ z | no z ↦ absurd (b.1 (f.all k (q, z))) ])
            ]))),
          );
      all = λ k h. o.all k (
        m.all k (omega (arith, h.0)),
        λ q.
            let b = f.only k q in
            elim ((bars_decides k).0 (t_true _ h.1)) [
              | inl z ↦ z fact
              | inr z ↦ elim z [ inl y ↦ y b.0 | inr y ↦ b.1 y ]
            ],
      );
    }

    -- the row of a fact: all but the facts that are not exclusive with it
    pub fact_row : (facts row free r : ℕ) → facts ≡ facts_at g n → row ≡ row_at g n a → Has facts a
        → Marks free (λ k. Has facts k × (Has row k → ⊥)) → Marks r (λ k. Has all k × (Has free k → ⊥))
        → Marks r (λ k. (k < g.atoms) × T (bars_in g n a k))
    fact_row facts row free r p q fact f o = by_row free r (subst (λ (x : ℕ). Has x a) p fact)
        (subst (λ (x : ℕ). Marks free (λ k. Has x k × (Has (row_at g n a) k → ⊥))) p (subst (λ (x : ℕ). Marks free (λ k. Has facts k × (Has x k → ⊥))) q f)) o

-- a row and a pair never disagree
pub row_pair : (m : ℕ) (P : ℕ → Bool) (r k : ℕ) (x : Bool) → Marks r (λ j. (j < m) × T (P j)) → k < m → Decides x (Has r k) → x ≡ P k
row_pair m P r k x marks lt d =
    same_from_decides x (P k) d ((λ e. marks.all k (lt, true_t _ e)), λ h. t_true _ (marks.only k h).1)

-- two neighbours of the table
module _ (g : Graph) (n : ℕ) where
  pub same_masks : facts_at g n ≡ facts_at g (n + 1) → ((a : ℕ) → a < 64 → row_at g n a ≡ row_at g (n + 1) a) → Same (level_in g n) (level_in g (suc n))
  same_masks p q = subst (λ (x : ℕ). Same (level_in g n) (level_in g x)) (add-one n) (record {
    facts = λ f. subst (λ (x : ℕ). Has x f) p;
    facts' = λ f. subst (λ (x : ℕ). Has x f) (sym p);
    exclusive = λ f h b. (b.0, subst (λ (x : ℕ). Has x h) (q f b.0) b.1);
    exclusive' = λ f h b. (b.0, subst (λ (x : ℕ). Has x h) (sym (q f b.0)) b.1);
  })

  over : Same (level_in g n) (level_in g (suc n)) → Same (level_in g n) (level_in g (n + 1))
  over = subst (λ (x : ℕ). Same (level_in g n) (level_in g x)) (sym (add-one n))

  pub masks_facts : Same (level_in g n) (level_in g (suc n)) → facts_at g n ≡ facts_at g (n + 1)
  masks_facts s = let o = over s in same_members _ _ o.facts o.facts'

  pub masks_rows : Same (level_in g n) (level_in g (suc n)) → (a : ℕ) → a < 64 → row_at g n a ≡ row_at g (n + 1) a
  masks_rows s a lt = let o = over s in same_members _ _ (λ k h. (o.exclusive a k (lt, h)).1) (λ k h. (o.exclusive' a k (lt, h)).1)

  -- layers that are equal make equal levels, and the other way round
  pub layers_same : (here there : Layer) → here.facts ≡ facts_at g n → here.exclusive.now ≡ rows_at g n
      → there.facts ≡ facts_at g (n + 1) → there.exclusive.now ≡ rows_at g (n + 1) → 64 * (n + 1) + 64 ≤ length g.exclusive
      → (r : Bool) → r ≡ (here.facts == there.facts && bytes_eq here.exclusive.now there.exclusive.now) → Decides r (Same (level_in g n) (level_in g (suc n)))
  layers_same here there p q p' q' long r e = Decides-like r
      (λ u. same_masks (sym p ∙ u.0 ∙ p')
      (λ a lt. sym (rows_read g n a lt) ∙ ap (λ (xs : List ℕ). row xs a) (sym q ∙ u.1 ∙ q') ∙ rows_read g (n + 1) a lt))
      (λ s. (p ∙ masks_facts s ∙ sym p', q ∙ same_rows s ∙ sym q'))
      (subst (λ (x : Bool). Decides x ((here.facts ≡ there.facts) × (here.exclusive.now ≡ there.exclusive.now))) (sym e)
      (Decides-and _ _ (Decides-eqb _ _) (bytes_eq-Decides _ _)))
    where
      same_rows : Same (level_in g n) (level_in g (suc n)) → rows_at g n ≡ rows_at g (n + 1)
      same_rows s = same_number_lists (rows_at g n) (rows_at g (n + 1))
          (omega (
            arith,
            length-take 64 (drop (64 * n) g.exclusive),
            length-take 64 (drop (64 * (n + 1)) g.exclusive),
            length-drop (64 * n) g.exclusive,
            length-drop (64 * (n + 1)) g.exclusive,
          ))
          (λ a lt.
          let below : a < 64 = omega (arith, rows_few g n) in
          rows_read g n a below ∙ masks_rows s a below ∙ sym (rows_read g (n + 1) a below))

-- ---- the table of a task's graph

module _ (t : Task) (g : Graph) (of : GraphOf t g) where
  -- the table bars what the rules bar
  pub bars_rule : Fits t → (n a b : ℕ) → n ≤ 32 → Decides (bars_in g n a b) (Bars (level t n) a b)
  bars_rule fits n a b le =
      let s = of.levels n le in (
        (λ e. elim ((bars_decides g n a b).0 e) [
          | inl z ↦ inl (λ h. z (s.facts' a h))
          | inr z ↦ elim z [
            | inl y ↦ inr (inl (λ h. y (s.facts' b h)))
            | inr y ↦ elim (has? (facts_at g n) a) [
              | yes h ↦ inr (inr (s.exclusive a b (omega (arith, fits.few_atoms, fact_atom t fits n a (s.facts a h)), y)))
              | no h ↦ inl (λ f. h (s.facts' a f))
            ]
          ]
        ]),
        λ r. (bars_decides g n a b).1 (elim r [
          | inl z ↦ inl (λ h. z (s.facts a h))
          | inr z ↦ inr (elim z [ inl y ↦ inl (λ h. y (s.facts b h)) | inr y ↦ inr (s.exclusive' a b y).1 ])
        ]),
      )

  -- neighbours are equal in the table just where they are by the rules
  table_rule : (n : ℕ) → n < 32 → Same (level_in g n) (level_in g (suc n)) → Same (level t n) (level t (suc n))
  table_rule n lt s = joined _ _ _ (turned _ _ (of.levels n (omega arith))) (joined _ _ _ s (of.levels (suc n) (omega arith)))

  rule_table : (n : ℕ) → n < 32 → Same (level t n) (level t (suc n)) → Same (level_in g n) (level_in g (suc n))
  rule_table n lt s = joined _ _ _ (of.levels n (omega arith)) (joined _ _ _ s (turned _ _ (of.levels (suc n) (omega arith))))

  pub closing_rule : (r : Option ℕ) → Closing (level_in g) r → Closing (level t) r
  closing_rule (Some n) c = record {
    below = c.below;
    same = table_rule n c.below c.same;
    least = λ k lt s. c.least k lt (rule_table k (omega (arith, c.below)) s);
  }
  closing_rule None f = λ n lt s. f n lt (rule_table n lt s)

-- a pair is barred in both orders
pub bars_turned : (t : Task) (n a b : ℕ) → Bars (level t n) a b → Bars (level t n) b a
bars_turned t n a b (inl z) = inr (inl z)
bars_turned t n a b (inr (inl z)) = inl z
bars_turned t n a b (inr (inr z)) = inr (inr (exclusive_both t n a b z))

-- the first of the numbers below 32 at which a level equals the next
pub closing_found : (at : ℕ → Level) (r : Option ℕ)
    → MatchOption r ((k : ℕ) → 0 ≤ k → k < 32 → Same (at k) (at (suc k)) → ⊥)
    (λ n. (0 ≤ n) × (n < 32) × Same (at n) (at (suc n)) × ((k : ℕ) → 0 ≤ k → k < n → Same (at k) (at (suc k)) → ⊥))
    → Closing at r
closing_found at (Some n) h = record { below = h.1; same = h.2; least = λ k lt. h.3 k (omega arith) lt }
closing_found at None h = λ n lt. h n (omega arith) lt
