-- The next level by masks: its facts, and its exclusions.
use Rattle.std.proofs.Common.{◌≡◌, ℕ, ◌^◌, ◌<◌, ◌≤◌, List, sym, refl, ap, subst, inl, inr, arith}
use lib.Bits.{bit_or}
use Rattle.sets.specs.Sets.{Has, Marks}
use Rattle.sets.proofs.Bits.{has?}
use Rattle.sets.proofs.Members.{has_lt, not_in_none, none_marks}
use Rattle.problem.specs.Firm.{Task}
use Rattle.graph.specs.Levels.{Level, Node, action, noop, Supports, Supported, Clash, Excludes}
use Rattle.graph.specs.Turning.{Both}
use Rattle.graph.specs.Tables.{MovesOf, NodesOf, Touches, Stopped, Beaten}
use Rattle.graph.specs.declared.table.Move.{Move}
use Rattle.graph.specs.declared.table.Nodes.{Nodes}
use Rattle.sets.proofs.Parts.{or_left, or_right, or_either}
use Rattle.graph.proofs.RowSets.{one_is, one_has}
use Rattle.graph.specs.Tables.{every}
use Rattle.graph.proofs.Sure.{all_has}
use Rattle.graph.proofs.Clashing.{Profile, touches_spoils, spoils_touches, noop_spoils, spoils_noop, action_noop, noop_one}

-- ---- the facts

module _ (t : Task) (l : Level) (facts u : ℕ) (supports : ℕ → ℕ) (is : Marks facts l.fact) (sup : (k : ℕ) → Marks (supports k) (Supports t l (action k)))
    (below : (k g : ℕ) → Has (supports k) g → k < 64)
    (m : Marks u (λ g. (k : ℕ) × Has every k × Has (supports k) g)) where
  pub facts_marks : Marks (bit_or facts u) (Supported t l)
  facts_marks = record {
    only = λ g h. elim (or_either facts u g h) [
      | inl a ↦ (noop g, (refl, is.only g a))
      | inr a ↦ (let r = m.only g a in (action r.0, (sup r.0).only g r.2))
    ];
    all = λ g s. back g s.0 s.1;
  }
    where
      back : (g : ℕ) (x : Node) → Supports t l x g → Has (bit_or facts u) g
      back g (action k) s = let h = (sup k).all g s in or_right facts u g (m.all g (k, all_has k (below k g h), h))
      back g (noop h) s = or_left facts u g (subst (λ (w : ℕ). Has facts w) (sym s.0) (is.all h s.1))

-- ---- the no-op of an atom

module _ (t : Task) (l : Level) (f : ℕ) where
  pub unstopped : t.count ≤ 64 → (l.fact f → ⊥) → NodesOf t (Stopped t l f) (record { actions = every; noops = every })
  unstopped few none = record {
    actions = λ j lt. ((λ _ h. absurd (none h)), λ _. all_has j (omega arith));
    noops = λ g lt. ((λ _ h. absurd (none h)), λ _. all_has g lt);
  }

  module _ (one barred : ℕ) (lt : f < 64) (o : Marks one (λ j. (j ≡ f) × (j < 64))) (b : Marks barred (l.exclusive f)) where
    noop_profile : Profile t l (noop f) one 0 barred
    noop_profile = record {
      uses = record {
        only = λ g h. inl (one_is one f g o h);
        all = λ g u. let q : g ≡ f = elim u [ inl a ↦ a | inr a ↦ a ] in subst (λ (x : ℕ). Has one x) (sym q) (one_has one f o lt);
      };
      deletes = none_marks _ (λ g z. z);
      barred = record {
        only = λ g h. (f, refl, b.only g h);
        all = λ g a. b.all g (subst (λ (x : ℕ). l.exclusive x g) a.1 a.2);
      };
    }

    pub stopped : (m : List Move) → MovesOf t m → l.fact f → (touched rest : ℕ) → Marks touched (Touches m one 0 barred)
        → Marks rest (λ g. Has barred g × (Has one g → ⊥)) → NodesOf t (Stopped t l f) (record { actions = touched; noops = rest })
    stopped m ms fact touched rest th r = record {
      actions = λ j ltj. (
        (λ h _. ((λ q. action_noop j f (sym q)), touches_spoils t l (noop f) one 0 barred noop_profile m ms j ltj (th.only j h))),
        λ s. th.all j (spoils_touches t l (noop f) one 0 barred noop_profile m ms j ltj (s fact).1),
      );
      noops = λ g _. (
        (λ h _. let d = r.only g h in (
          (λ q. d.1 (subst (λ (x : ℕ). Has one x) (noop_one f g q) (one_has one f o lt))),
          noop_spoils t l (noop f) one 0 barred noop_profile g (inr d.0),
        )),
        λ s. elim (spoils_noop t l (noop f) one 0 barred noop_profile g (s fact).1) [
          | inl z ↦ absurd (not_in_none 0 g refl z)
          | inr h ↦ r.all g (h, λ q. (s fact).0 (ap noop (sym (one_is one f g o q))))
        ],
      );
    }

-- ---- what clashes with each supporter

module _ (t : Task) (l : Level) (f : ℕ) (supports rows : ℕ → ℕ) (supporters : ℕ)
    (sup : (k : ℕ) → Marks (supports k) (Supports t l (action k))) (by : Marks supporters (λ k. Has (supports k) f)) where
  supporter : (k : ℕ) → Has supporters k → Supports t l (action k) f
  supporter k h = (sup k).only f (by.only k h)

  is_supporter : (k : ℕ) → Supports t l (action k) f → Has supporters k
  is_supporter k s = by.all k ((sup k).all f s)

  module _ (y : Node) (j : ℕ) (rowed : (k : ℕ) → k < t.count → Both (Has (rows k) j) (Clash t l (action k) y))
      (start r : ℕ) (starts : Both (Has start j) (Stopped t l f y)) (m : Marks r (λ g. Has start g × ((k : ℕ) → Has supporters k → Has (rows k) g))) where
    beats : Has r j → (x : Node) → Supports t l x f → Clash t l x y
    beats h (action k) s = (rowed k s.0).0 ((m.only j h).1 k (is_supporter k s))
    beats h (noop g) s = subst (λ (x : ℕ). Clash t l (noop x) y) s.0 (starts.0 (m.only j h).0 (subst (λ (x : ℕ). l.fact x) (sym s.0) s.1))

    pub beaten_both : Both (Has r j) (Beaten t l f y)
    beaten_both = (
      beats,
      λ b. m.all j (starts.1 (λ h. b (noop f) (refl, h)), λ k h. let s = supporter k h in (rowed k s.0).1 (b (action k) s)),
    )

-- ---- the exclusions of an atom

pub none_excluded : (t : Task) (l : Level) (facts f : ℕ) → Marks facts (Supported t l) → (Has facts f → ⊥) → Marks 0 (Excludes t l f)
none_excluded t l facts f m none = none_marks _ (λ g ex. none (m.all f ex.one))

module _ (t : Task) (l : Level) (old facts f : ℕ) (supports : ℕ → ℕ) (few : t.count ≤ 64) (fits : old < 2 ^ 64)
    (is : Marks old l.fact) (sup : (k : ℕ) → Marks (supports k) (Supports t l (action k))) (marks : Marks facts (Supported t l))
    (nodes : Nodes) (beaten : NodesOf t (Beaten t l f) nodes)
    (others u v r : ℕ) (m-others : Marks others (λ k. Has every k × (Has nodes.actions k → ⊥)))
    (m-u : Marks u (λ g. (k : ℕ) × Has others k × Has (supports k) g))
    (m-v : Marks v (λ g. Has old g × (Has nodes.noops g → ⊥))) (m-r : Marks r (λ g. Has facts g × (Has (bit_or u v) g → ⊥))) where
  clashes : (g : ℕ) → (Has (bit_or u v) g → ⊥) → (x z : Node) → Supports t l x f → Supports t l z g → Clash t l x z
  clashes g un x (action j) sx sz = elim (has? nodes.actions j) [
    | yes a ↦ (beaten.actions j sz.0).0 a x sx
    | no na ↦ absurd (un (or_left u v g (m-u.all g (j, m-others.all j (all_has j (omega (arith, sz.0, few)), na), (sup j).all g sz))))
  ]
  clashes g un x (noop h) sx sz = elim (has? nodes.noops h) [
    | yes a ↦ (beaten.noops h (has_lt old h fits (is.all h sz.1))).0 a x sx
    | no na ↦ absurd (un (or_right u v g (subst (λ (w : ℕ). Has v w) (sym sz.0) (m-v.all h (is.all h sz.1, na)))))
  ]

  pub excluded : Has facts f → Marks r (Excludes t l f)
  excluded hf = record {
    only = λ g h.
        let b = m-r.only g h in
        record {
          one = marks.only f hf;
          other = marks.only g b.0;
          apart = λ x p q. (clashes g b.1 x x p q).0 refl;
          clash = clashes g b.1;
        };
    all = λ g ex. m-r.all g (
      marks.all g ex.other,
      λ b. elim (or_either u v g b) [
        | inl a ↦ (
            let m = m-u.only g a in
            let s = (sup m.0).only g m.2 in
            (m-others.only m.0 m.1).1 ((beaten.actions m.0 s.0).1 (λ x sx. ex.clash x (action m.0) sx s)))
        | inr a ↦ (
            let d = m-v.only g a in
            d.1 ((beaten.noops g (has_lt old g fits d.0)).1 (λ x sx. ex.clash x (noop g) sx (refl, is.only g d.0))))
      ],
    );
  }

-- a set has just its members
pub self_marks : (s : ℕ) → Marks s (Has s)
self_marks s = record { only = λ k h. h; all = λ k h. h }
