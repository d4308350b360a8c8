-- The table of a graph, level by level.
use Rattle.std.proofs.Common.{◌≡◌, ℕ, zero, suc, ◌+◌, ◌*◌, ◌<◌, ◌≤◌, ◌≢◌, List, length, get_or, set, take, drop, sym, refl, ap, ◌∙◌, subst, add-one, arith}
use native.Mathlib.Decide.{ℕ_discrete}
use Rattle.std.specs.Simd.{first_chunks}
use Rattle.std.proofs.lemmas.List.{get_or-set_same, get_or-set_other, get_or-take, get_or-drop, drop-drop, length-take}
use Rattle.sets.specs.Sets.{Has, Marks}
use Rattle.sets.proofs.Members.{not_in_none}
use Rattle.problem.specs.Firm.{Task}
use Rattle.problem.specs.Problems.{Fits}
use Rattle.graph.specs.Levels.{Level, action, next, level, Same, Supported, Excludes}
use Rattle.graph.specs.Turning.{row}
use Rattle.graph.specs.Tables.{SupportsOf, level_of}
use Rattle.graph.specs.Graphs.{facts_at, row_at, rows_at, level_in}
use Rattle.graph.specs.declared.layer.Layer.{Layer}
use Rattle.graph.specs.declared.graph.Graph.{Graph}
use Rattle.graph.proofs.Neighbours.{turned, joined, supports_same, next_same, fact_atom}
use Rattle.graph.proofs.RowSets.{row_lt}

-- ---- writing the rows of the level n

pub put_more : (table rows : List ℕ) (n i : ℕ) → 64 * n + i < length table
    → ((a : ℕ) → a < i → get_or table (64 * n + a) 0 ≡ row rows a)
    → (a : ℕ) → a < i + 1 → get_or (set table (64 * n + i) (row rows i)) (64 * n + a) 0 ≡ row rows a
put_more table rows n i lt f a le = elim (ℕ_discrete a i) [
  | yes e ↦ rw e (get_or-set_same table (64 * n + i) (row rows i) 0 lt)
  | no ne ↦ get_or-set_other table (64 * n + i) (64 * n + a) (row rows i) 0 (λ e. ne (omega arith)) ∙ f a (omega arith)
]

pub put_other : (table : List ℕ) (v n i k a : ℕ) → i < 64 → k ≢ n → a < 64
    → get_or (set table (64 * n + i) v) (64 * k + a) 0 ≡ get_or table (64 * k + a) 0
put_other table v n i k a lti ne lta = get_or-set_other table (64 * n + i) (64 * k + a) v 0 (λ e. ne (omega arith))

-- ---- reading a level

-- a chunk of the table
pub chunk : (k n : ℕ) (xs d : List ℕ) → n < k → get_or (first_chunks 64 k xs) n d ≡ take 64 (drop (64 * n) xs)
chunk zero n xs d lt = absurd (let z : ⊥ = omega arith in z)
chunk (suc k) zero xs d lt = refl
chunk (suc k) (suc n) xs d lt =
    let e : 64 + 64 * n ≡ 64 * suc n = omega arith in
    chunk k n (drop 64 xs) d (omega arith) ∙ ap (take 64) (drop-drop (64 * n) 64 xs ∙ ap (λ (i : ℕ). drop i xs) e)

pub rows_read : (g : Graph) (n a : ℕ) → a < 64 → row (rows_at g n) a ≡ row_at g n a
rows_read g n a lt = get_or-take 64 (drop (64 * n) g.exclusive) a 0 lt ∙ get_or-drop (64 * n) g.exclusive a 0

pub rows_few : (g : Graph) (n : ℕ) → length (rows_at g n) ≤ 64
rows_few g n = omega (arith, length-take 64 (drop (64 * n) g.exclusive))

pub layer_same : (y : Layer) (g : Graph) (n : ℕ) → y.facts ≡ facts_at g n → y.exclusive.now ≡ rows_at g n → Same (level_of y) (level_in g n)
layer_same y g n p q = record {
  facts = λ f. subst (λ (x : ℕ). Has x f) p;
  facts' = λ f. subst (λ (x : ℕ). Has x f) (sym p);
  exclusive = λ f h b.
      let r : Has (row (rows_at g n) f) h = subst (λ (xs : List ℕ). Has (row xs f) h) q b in
      let lt : f < 64 = omega (arith, row_lt (rows_at g n) (length (rows_at g n)) f h refl r, rows_few g n) in
      (lt, subst (λ (x : ℕ). Has x h) (rows_read g n f lt) r);
  exclusive' = λ f h b. subst (λ (xs : List ℕ). Has (row xs f) h) (sym q) (subst (λ (x : ℕ). Has x h) (sym (rows_read g n f b.0)) b.1);
}

-- the same where the rows are told one by one, and there are 64 of them
pub layer_same_rows : (y : Layer) (g : Graph) (n : ℕ) → length y.exclusive.now ≡ 64 → y.facts ≡ facts_at g n
    → ((a : ℕ) → a < 64 → row y.exclusive.now a ≡ row_at g n a) → Same (level_of y) (level_in g n)
layer_same_rows y g n whole p q = record {
  facts = λ f. subst (λ (x : ℕ). Has x f) p;
  facts' = λ f. subst (λ (x : ℕ). Has x f) (sym p);
  exclusive = λ f h b. let lt : f < 64 = row_lt y.exclusive.now 64 f h whole b in (lt, subst (λ (x : ℕ). Has x h) (q f lt) b);
  exclusive' = λ f h b. subst (λ (x : ℕ). Has x h) (sym (q f b.0)) b.1;
}

-- ---- the same of a level as it is read and as it stands in the table

module _ (t : Task) (l m : Level) (s : Same l m) where
  pub supports_over : (rows : List ℕ) → SupportsOf t l rows → SupportsOf t m rows
  supports_over rows sup k = record {
    only = λ f h. supports_same t l m s (action k) f ((sup k).only f h);
    all = λ f h. (sup k).all f (supports_same t m l (turned l m s) (action k) f h);
  }

  pub facts_over : (r : ℕ) → Marks r (Supported t l) → Marks r (Supported t m)
  facts_over r h = record {
    only = λ f b. (next_same t l m s).facts f (h.only f b);
    all = λ f b. h.all f ((next_same t l m s).facts' f b);
  }

  pub row_over : (r f : ℕ) → Marks r (Excludes t l f) → Marks r (Excludes t m f)
  row_over r f h = record {
    only = λ g b. (next_same t l m s).exclusive f g (h.only g b);
    all = λ g b. h.all g ((next_same t l m s).exclusive' f g b);
  }

-- ---- one level more: g has the levels up to n, and g' the next one too

module _ (t : Task) (fits : Fits t) (n : ℕ) (g g' : Graph) (so_far : (k : ℕ) → k ≤ n → Same (level_in g k) (level t k))
    (facts : Marks (facts_at g' (n + 1)) (Supported t (level_in g n)))
    (rows : (f : ℕ) → f < 64 → Marks (row_at g' (n + 1) f) (Excludes t (level_in g n) f))
    (other-facts : (k : ℕ) → k ≢ n + 1 → facts_at g' k ≡ facts_at g k)
    (other-rows : (k a : ℕ) → k ≢ n + 1 → a < 64 → row_at g' k a ≡ row_at g k a) where
  kept : (k : ℕ) → k ≢ n + 1 → Same (level_in g' k) (level_in g k)
  kept k ne = record {
    facts = λ f. subst (λ (x : ℕ). Has x f) (other-facts k ne);
    facts' = λ f. subst (λ (x : ℕ). Has x f) (sym (other-facts k ne));
    exclusive = λ f h b. (b.0, subst (λ (x : ℕ). Has x h) (other-rows k f ne b.0) b.1);
    exclusive' = λ f h b. (b.0, subst (λ (x : ℕ). Has x h) (sym (other-rows k f ne b.0)) b.1);
  }

  found : Same (level_in g' (n + 1)) (level t (suc n))
  found =
      let over : Same (next t (level_in g n)) (level t (suc n)) = next_same t (level_in g n) (level t n) (so_far n (omega arith)) in
      joined (level_in g' (n + 1)) (next t (level_in g n)) (level t (suc n)) (record {
        facts = facts.only;
        facts' = facts.all;
        exclusive = λ f h b. (rows f b.0).only h b.1;
        exclusive' = λ f h ex.
            let lt : f < 64 = omega (arith, fits.few_atoms, fact_atom t fits (suc n) f (over.facts f ex.one)) in
            (lt, (rows f lt).all h ex);
      }) over

  pub grown : (k : ℕ) → k ≤ n + 1 → Same (level_in g' k) (level t k)
  grown k le = elim (ℕ_discrete k (n + 1)) [
    | yes e ↦ subst (λ (x : ℕ). Same (level_in g' x) (level t x)) (sym e) (subst (λ (x : ℕ). Same (level_in g' (n + 1)) (level t x)) (sym (add-one n)) found)
    | no ne ↦ joined (level_in g' k) (level_in g k) (level t k) (kept k ne) (so_far k (omega arith))
  ]

pub level_kept : (g g' : Graph) (n : ℕ) → facts_at g' n ≡ facts_at g n → ((a : ℕ) → a < 64 → row_at g' n a ≡ row_at g n a)
    → Same (level_in g n) (level_in g' n)
level_kept g g' n p q = record {
  facts = λ f. subst (λ (x : ℕ). Has x f) (sym p);
  facts' = λ f. subst (λ (x : ℕ). Has x f) p;
  exclusive = λ f h b. (b.0, subst (λ (x : ℕ). Has x h) (sym (q f b.0)) b.1);
  exclusive' = λ f h b. (b.0, subst (λ (x : ℕ). Has x h) (q f b.0) b.1);
}

module _ (t : Task) (fits : Fits t) (n : ℕ) (g : Graph) (l : Level) (s : Same l (level t n))
    (facts : Marks (facts_at g (n + 1)) (Supported t l)) (rows : (f : ℕ) → f < 64 → Marks (row_at g (n + 1) f) (Excludes t l f)) where
  pub level_found : Same (level_in g (n + 1)) (level t (suc n))
  level_found =
      let over : Same (next t l) (level t (suc n)) = next_same t l (level t n) s in
      joined (level_in g (n + 1)) (next t l) (level t (suc n)) (record {
        facts = λ f h. facts.only f h;
        facts' = λ f h. facts.all f h;
        exclusive = λ f h b. (rows f b.0).only h b.1;
        exclusive' = λ f h ex.
            let lt : f < 64 = omega (arith, fits.few_atoms, fact_atom t fits (suc n) f (over.facts f ex.one)) in
            (lt, (rows f lt).all h ex);
      }) over

-- by two graphs: g has the levels up to n, g₁ has the facts of the next one too, and g₂ its exclusions
module _ (t : Task) (fits : Fits t) (n : ℕ) (g g₁ g₂ : Graph) (so_far : (k : ℕ) → k ≤ n → Same (level_in g k) (level t k))
    (found : Marks (facts_at g₁ (n + 1)) (Supported t (level_in g n))) (others : (k : ℕ) → k ≢ n + 1 → facts_at g₁ k ≡ facts_at g k)
    (same_rows : g₁.exclusive ≡ g.exclusive) where
  pub facts_kept : (k : ℕ) → k ≤ n → Same (level_in g k) (level_in g₁ k)
  facts_kept k le =
      level_kept g g₁ k (others k (λ e. omega arith)) (λ a lt. ap (λ (xs : List ℕ). get_or xs (64 * k + a) 0) same_rows)

  pub facts_stand : Marks (facts_at g₁ (n + 1)) (Supported t (level_in g₁ n))
  facts_stand = facts_over t (level_in g n) (level_in g₁ n) (facts_kept n (omega arith)) (facts_at g₁ (n + 1)) found

  module _ (rows : (f : ℕ) → f < 64 → Marks (row_at g₂ (n + 1) f) (Excludes t (level_in g₁ n) f))
      (other-rows : (k a : ℕ) → k ≢ n + 1 → a < 64 → row_at g₂ k a ≡ row_at g₁ k a) (same-facts : g₂.facts ≡ g₁.facts) where
    fact_same : (k : ℕ) → facts_at g₂ k ≡ facts_at g₁ k
    fact_same k = ap (λ (xs : List ℕ). get_or xs k 0) same-facts

    up_to : (k : ℕ) → k ≤ n → Same (level_in g₁ k) (level t k)
    up_to k le = joined (level_in g₁ k) (level_in g k) (level t k) (turned _ _ (facts_kept k le)) (so_far k le)

    pub grown_by_two : (k : ℕ) → k ≤ n + 1 → Same (level_in g₂ k) (level t k)
    grown_by_two k le = elim (ℕ_discrete k (n + 1)) [
      | yes e ↦ subst (λ (x : ℕ). Same (level_in g₂ x) (level t x)) (sym e)
          (subst (λ (x : ℕ). Same (level_in g₂ (n + 1)) (level t x)) (sym (add-one n))
          (level_found t fits n g₂ (level_in g₁ n) (up_to n (omega arith))
          (subst (λ (x : ℕ). Marks x (Supported t (level_in g₁ n))) (sym (fact_same (n + 1))) facts_stand) rows))
      | no ne ↦ joined (level_in g₂ k) (level_in g₁ k) (level t k)
          (turned _ _ (level_kept g₁ g₂ k (fact_same k) (λ a lt. other-rows k a ne lt))) (up_to k (omega arith))
    ]

-- ---- level 0

pub first_level : (t : Task) (g : Graph) → facts_at g 0 ≡ t.first → ((i : ℕ) → get_or g.exclusive i 0 ≡ 0) → Same (level_in g 0) (level t 0)
first_level t g p none = record {
  facts = λ f. subst (λ (x : ℕ). Has x f) p;
  facts' = λ f. subst (λ (x : ℕ). Has x f) (sym p);
  exclusive = λ f h b. not_in_none (row_at g 0 f) h (none (64 * 0 + f)) b.1;
  exclusive' = λ f h z. absurd z;
}

pub up_to_first : (t : Task) (g : Graph) → Same (level_in g 0) (level t 0) → (k : ℕ) → k ≤ 0 → Same (level_in g k) (level t k)
up_to_first t g s zero le = s
up_to_first t g s (suc k) le = absurd (let z : ⊥ = omega arith in z)
