-- One node after the other: what is kept of the work.
use Rattle.std.proofs.Common.{◌≡◌, ℕ, zero, suc, ◌+◌, ◌-◌, ◌^◌, ◌<◌, ◌≤◌, ◌≢◌, List, [], ◌∷◌, length, take, set, sym, refl, ap, ◌∙◌, subst, ap₂, inl, inr, pow-suc, arith, length-set, get_or-set_other, get_or-set_same, pow_pos, pow_mono}
use lib.Bits.{bit_or}
use lib.Count.{ones-le}
use Rattle.std.proofs.lemmas.List.{get_or-take}
use Rattle.sets.specs.Sets.{Has, Inside, Apart, minus}
use Rattle.sets.proofs.Bits.{has?, same_members, bit_digit, bit_not, minus_le}
use Rattle.sets.proofs.Members.{has_lt, not_in_none}
use Rattle.problem.specs.Firm.{Task}
use Rattle.problem.specs.Runs.{Goal, Meets}
use Rattle.regression.specs.Regions.{top_of}
use Rattle.regression.specs.Reaching.{MakesDue}
use Rattle.regression.specs.Nodes.{Lies, undecided, Splits, Settles, Expanded}
use Rattle.regression.specs.Stacks.{node_in, part_of, Slim, Orderly, Treated, Carried, Brings, weight, weights}
use Rattle.regression.specs.declared.node.Node.{Node}
use Rattle.regression.specs.declared.node.Next.{Next}
use Rattle.regression.specs.declared.node.Next.TheVariants.{Drop, Due, Split}
use Rattle.sets.proofs.Parts.{or_left}
use Rattle.regression.proofs.Masks.{nothing, so}
use Rattle.regression.proofs.Reaching.{top_avoids, need_below}

-- ---- one node

pub kept_treated : (t : Task) (q : Goal) (D : Goal → Type 0) (n : Node) → (D n.region → ⊥) → (r : Next) → Expanded t q n r → Treated t q D n r
kept_treated t q D n f Drop e = λ s step pair l. absurd (e s step pair l)
kept_treated t q D n f (Due p) e = (e, f)
kept_treated t q D n f (Split a b) e = e

pub dismissed_treated : (t : Task) (q : Goal) (D : Goal → Type 0) (n : Node) → D n.region → Treated t q D n Drop
dismissed_treated t q D n d s step pair l = (n.region, d, l.meets)

-- ---- the empty step

-- what the empty step makes due is the goal itself
due_own : (t : Task) (q : Goal) (p : Goal) → q.need < 2 ^ 64 → q.avoid < 2 ^ 64 → p.need < 2 ^ 64 → p.avoid < 2 ^ 64
    → MakesDue t q 0 p → (p.need ≡ q.need) × (p.avoid ≡ q.avoid)
due_own t q p ln la lp lr d =
    let stays : (s : ℕ) → Meets p s → Meets q s = λ s m.
    let r = d.leads s m in
    subst (Meets q) (sym (r.firm.firm [] (record { once = tt; all = λ k h. absurd (nothing k h); only = λ k z. absurd z }))) r.meets in
    let low : Meets q p.need = stays p.need (record { holds = λ k h. h; lacks = λ k a h. d.apart k h a }) in
    let high : Meets q (top_of p) = stays (top_of p) (record {
      holds = need_below p lp lr d.apart;
      lacks = λ k a h. top_avoids p.avoid k lr h a;
    }) in
    let shunned : Inside q.avoid p.avoid = λ k h. elim (has? p.avoid k) [
      | yes y ↦ y
      | no n ↦ absurd (high.lacks k h (omega (arith, bit_not 64 p.avoid k lr (has_lt q.avoid k la h), bit_digit p.avoid k)))
    ] in (
      same_members p.need q.need
          (λ k h. elim (d.names k (inl h)) [ inl g ↦ elim g [ inl a ↦ a | inr a ↦ absurd (low.lacks k a h) ] | inr c ↦ absurd (nothing c.0 c.1) ])
          low.holds,
      same_members p.avoid q.avoid
          (λ k h. elim (d.names k (inr h)) [ inl g ↦ elim g [ inl a ↦ absurd (d.apart k (low.holds k a) h) | inr a ↦ a ] | inr c ↦ absurd (nothing c.0 c.1) ])
          shunned,
    )

-- ---- how much is left to do

weight_pos : (n : Node) → 0 < weight n
weight_pos n = omega (arith, pow-suc 2 (undecided n), pow_pos (undecided n))

less_drop : (n : Node) (ns : List Node) → weights ns < weights (n ∷ ns)
less_drop n ns = omega (arith, weight_pos n)

less_split : (t : Task) (q : Goal) (n a b : Node) (ns : List Node) → Splits t q n a b → weights (a ∷ b ∷ ns) < weights (n ∷ ns)
less_split t q n a b ns f =
    let u : ℕ = undecided n in
    omega (
      arith,
      pow_mono {i = suc (undecided a)} {j = u} f.first_less,
      pow_mono {i = suc (undecided b)} {j = u} f.second_less,
      pow-suc 2 u,
      pow_pos (suc (undecided a)),
      pow_pos (suc (undecided b)),
    )

-- ---- the nodes of a part

module _ (t : Task) (q : Goal) (D : Goal → Type 0) where
  pub carried_none : (before : List Node) → Carried t q D (λ _. ⊥) before before
  carried_none before = record { pairs = λ s step p l. inl l; within = λ s step l. l; orderly = λ o. o; lighter = omega arith }

  module _ (before : List Node) (n : Node) (ns : List Node) (c : Carried t q D (λ _. ⊥) before (n ∷ ns)) where
    -- after a node is dropped
    carried_drop : Treated t q D n Drop → Carried t q D (λ _. ⊥) before ns
    carried_drop d = record {
      pairs = λ s step p l. elim (c.pairs s step p l) [
        | inl m ↦ elim m [ inl x ↦ inr (inr (d s step p x)) | inr y ↦ inl y ]
        | inr m ↦ inr m
      ];
      within = λ s step l. c.within s step (inr l);
      orderly = λ o. let r = c.orderly o in record { named = r.named.1; disjoint = r.disjoint.1; slim = r.slim.1 };
      lighter = omega (arith, c.lighter, less_drop n ns);
    }

    -- after it is split
    carried_split : (a b : Node) → Splits t q n a b → Carried t q D (λ _. ⊥) before (a ∷ b ∷ ns)
    carried_split a b f = record {
      pairs = λ s step p l. elim (c.pairs s step p l) [
        | inr m ↦ inr m
        | inl m ↦ elim m [
          | inr y ↦ inl (inr (inr y))
          | inl x ↦ elim (f.either s step p x) [ inl y ↦ inl (inl y) | inr y ↦ inl (inr (inl y)) ]
        ]
      ];
      within = λ s step l. elim l [
        | inl x ↦ c.within s step (inl (f.first_in s step x))
        | inr m ↦ elim m [ inl x ↦ c.within s step (inl (f.second_in s step x)) | inr y ↦ c.within s step (inr y) ]
      ];
      orderly = λ o. let r = c.orderly o in record {
        named = (f.first_named r.named.0, (f.second_named r.named.0, r.named.1));
        disjoint = (
          (λ s step x m. elim m [ inl y ↦ f.never_both s step x y | inr y ↦ r.disjoint.0 s step (f.first_in s step x) y ]),
          ((λ s step x y. r.disjoint.0 s step (f.second_in s step x) y), r.disjoint.1),
        );
        slim = (
          omega (arith, r.slim.0, f.first_less),
          (omega (arith, r.slim.0, f.second_less), r.slim.1),
        );
      };
      lighter = omega (arith, c.lighter, less_split t q n a b ns f);
    }

-- ---- room

slim_length : (ns : List Node) → Slim ns → length ns ≤ 129
slim_length [] s = omega arith
slim_length (n ∷ ns) s = omega (arith, s.0)

pub length_part : (nodes : List Node) (start n : ℕ) → length (part_of nodes start n) ≡ n
length_part nodes start zero = refl
length_part nodes start (suc n) = ap suc (length_part nodes start n)

-- no part of orderly work is longer than its room
pub part_fits : (t : Task) (q : Goal) (nodes : List Node) (start n : ℕ) → Orderly t q (part_of nodes start n) → n ≤ 129
part_fits t q nodes start n o = omega (arith, length_part nodes start n, slim_length (part_of nodes start n) o.slim)

-- ---- a part of an array

part_set : (nodes : List Node) (i : ℕ) (x : Node) (start n : ℕ) → start + n ≤ i → part_of (set nodes i x) start n ≡ part_of nodes start n
part_set nodes i x start zero h = refl
part_set nodes i x start (suc n) h =
    let ne : start + n ≢ i = λ e. let z : ⊥ = omega arith in z in
    ap₂ (λ (y : Node) (ys : List Node). y ∷ ys) (get_or-set_other nodes i (start + n) x _ ne) (part_set nodes i x start n (omega arith))

join : Node → List Node → List Node
join n ns = n ∷ ns

-- its top, and what is under it
part_top : (nodes : List Node) (start n : ℕ) → 0 < n → part_of nodes start n ≡ node_in nodes (start + (n - 1)) ∷ part_of nodes start (n - 1)
unfolding join
part_top nodes start zero h = absurd (let z : ⊥ = omega arith in z)
part_top nodes start (suc n) h =
    let e : n ≡ suc n - 1 = omega arith in
    ap (λ (m : ℕ). join (node_in nodes (start + m)) (part_of nodes start m)) e

-- two nodes in place of the top
part_two : (nodes : List Node) (start m i j : ℕ) (a b : Node) → i ≡ start + m → j ≡ start + suc m → j < length nodes
    → part_of (set (set nodes i b) j a) start (suc (suc m)) ≡ a ∷ b ∷ part_of nodes start m
unfolding join
part_two nodes start m i j a b ei ej lt =
    let two : List Node = set (set nodes i b) j a in
    let far : j < length (set nodes i b) = omega (arith, length-set nodes i b) in
    let ne : start + m ≢ j = λ e. let z : ⊥ = omega arith in z in
    let first : node_in two (start + suc m) ≡ a = ap (node_in two) (sym ej) ∙ get_or-set_same (set nodes i b) j a _ far in
    let second : node_in two (start + m) ≡ b =
    get_or-set_other (set nodes i b) j (start + m) a _ ne ∙ ap (node_in (set nodes i b)) (sym ei) ∙ get_or-set_same nodes i b _ (omega arith) in
    let others : part_of two start m ≡ part_of nodes start m = part_set (set nodes i b) j a start m (omega arith) ∙ part_set nodes i b start m (omega arith) in
    ap₂ join first (ap₂ join second others)

part_split : (nodes : List Node) (start n : ℕ) (a b : Node) → 0 < n → start + (n - 1) + 1 < length nodes
    → part_of (set (set nodes (start + (n - 1)) b) (start + (n - 1) + 1) a) start (n + 1) ≡ a ∷ b ∷ part_of nodes start (n - 1)
part_split nodes start n a b h lt =
    let e : n + 1 ≡ suc (suc (n - 1)) = omega arith in
    ap (part_of (set (set nodes (start + (n - 1)) b) (start + (n - 1) + 1) a) start) e
    ∙ part_two nodes start (n - 1) (start + (n - 1)) (start + (n - 1) + 1) a b refl (omega arith) lt

-- ---- one turn

module _ (t : Task) (q : Goal) (D : Goal → Type 0) (before nodes : List Node) (start left : ℕ) (some : 0 < left)
    (c : Carried t q D (λ _. ⊥) before (part_of nodes start left)) where
  abbrev Top : Node
  Top = node_in nodes (start + (left - 1))

  abbrev Under : List Node
  Under = part_of nodes start (left - 1)

  top_first : Carried t q D (λ _. ⊥) before (Top ∷ Under)
  top_first = subst (Carried t q D (λ _. ⊥) before) (part_top nodes start left some) c

  pub turn_drop : Treated t q D Top Drop → Carried t q D (λ _. ⊥) before (part_of nodes start (left - 1))
  turn_drop d = carried_drop t q D before Top Under top_first d

  pub turn_drop_less : weights (part_of nodes start (left - 1)) < weights (part_of nodes start left)
  turn_drop_less = omega (arith, ap weights (part_top nodes start left some), less_drop Top Under)

  module _ (a b : Node) (f : Splits t q Top a b) where
    pub turn_split : start + (left - 1) + 1 < length nodes
        → Carried t q D (λ _. ⊥) before (part_of (set (set nodes (start + (left - 1)) b) (start + (left - 1) + 1) a) start (left + 1))
    turn_split lt = subst (Carried t q D (λ _. ⊥) before) (sym (part_split nodes start left a b some lt)) (carried_split t q D before Top Under top_first a b f)

    pub turn_split_less : start + (left - 1) + 1 < length nodes
        → weights (part_of (set (set nodes (start + (left - 1)) b) (start + (left - 1) + 1) a) start (left + 1)) < weights (part_of nodes start left)
    turn_split_less lt =
        omega (arith, ap weights (part_top nodes start left some), ap weights (part_split nodes start left a b some lt), less_split t q Top a b Under f)

    -- there is room for one more node
    pub turn_room : length nodes ≤ start + (left - 1) + 1 → Orderly t q before → start + 129 ≤ length nodes → ⊥
    turn_room full o room =
        let s = (top_first.orderly o).slim in
        omega (arith, s.0, f.first_less, length_part nodes start (left - 1))

  -- a node that is settled
  module _ (p : Goal) (f : Settles t q Top p) (keep : D Top.region → ⊥) where
    needs : (k : ℕ) → Has p.need k → Has Top.region.need k
    needs k h = so _ _ k f.shrunk.need h

    needed : (k : ℕ) → Has Top.region.need k → Has p.need k
    needed k h = so _ _ k (sym f.shrunk.need) h

    in_top : Lies Top p.need Top.chosen
    in_top = record {
      meets = record { holds = needed; lacks = λ k a h. f.apart k (needs k h) a };
      least = λ k h. h;
      most = λ k h. or_left _ _ k h;
    }

    apart : Apart p.need p.avoid
    apart k h a = f.apart k (needs k h) (f.shrunk.avoid k a)

    named : Orderly t q before → MakesDue t q Top.chosen p
    named o = record {
      apart = apart;
      leads = f.leads;
      names = λ k g. (top_first.orderly o).named.0 k (elim g [ inl h ↦ inl (needs k h) | inr h ↦ inr (f.shrunk.avoid k h) ]);
    }

    pub turn_brings : q.need < 2 ^ 64 → q.avoid < 2 ^ 64 → p.need < 2 ^ 64 → p.avoid < 2 ^ 64
        → Brings t q D before (part_of nodes start (left - 1)) Top.chosen p
    turn_brings ln la lp lr = record {
      carried = record {
        pairs = λ s step pair l. elim (top_first.pairs s step pair l) [
          | inr m ↦ elim m [ inl z ↦ absurd z | inr d ↦ inr (inr d) ]
          | inl m ↦ elim m [
            | inr y ↦ inl y
            | inl x ↦ inr (inl (record {
              holds = λ k h. x.meets.holds k (needs k h);
              lacks = λ k h. x.meets.lacks k (f.shrunk.avoid k h);
            }))
          ]
        ];
        within = λ s step l. top_first.within s step (inr l);
        orderly = λ o. let r = top_first.orderly o in record { named = r.named.1; disjoint = r.disjoint.1; slim = r.slim.1 };
        lighter = omega (arith, top_first.lighter, less_drop Top Under);
      };
      apart = apart;
      leads = f.leads;
      taken = top_first.within p.need Top.chosen (inl in_top);
      gone = λ o l. (top_first.orderly o).disjoint.0 p.need Top.chosen in_top l;
      less = omega (arith, top_first.lighter, less_drop Top Under);
      least = f.shrunk.least;
      wider = (Top.region.avoid, f.shrunk.avoid, λ d. keep (subst (λ (y : ℕ). D (record { need = y; avoid = Top.region.avoid })) f.shrunk.need d));
      due = named;
      own = λ o z. due_own t q p ln la lp lr (subst (λ (y : ℕ). MakesDue t q y p) z (named o));
    }

-- ---- where work begins

pub part_one : (nodes : List Node) (start : ℕ) (x : Node) → start < length nodes → part_of (set nodes start x) start 1 ≡ x ∷ []
unfolding join
part_one nodes start x lt =
    let e : start + 0 ≡ start = omega arith in
    ap (λ (y : Node). join y []) (ap (node_in (set nodes start x)) e ∙ get_or-set_same nodes start x _ lt)

-- a part below is as it was
pub part_kept : (xs ys : List Node) (start base n : ℕ) → take start xs ≡ take start ys → base + n ≤ start → part_of xs base n ≡ part_of ys base n
unfolding join
part_kept xs ys start base zero e h = refl
part_kept xs ys start base (suc n) e h =
    let lt : base + n < start = omega arith in
    let same : node_in xs (base + n) ≡ node_in ys (base + n) =
    sym (get_or-take start xs (base + n) _ lt) ∙ ap (λ (l : List Node). node_in l (base + n)) e ∙ get_or-take start ys (base + n) _ lt in
    ap₂ join same (part_kept xs ys start base n e (omega arith))

pub root_orderly : (t : Task) (q : Goal) (r : Node) → r.candidates < 2 ^ 64 → r.region.need ≡ 0 → r.region.avoid ≡ 0 → Orderly t q (r ∷ [])
root_orderly t q r lt en ea = record {
  named = ((λ k g. absurd (elim g [ inl h ↦ not_in_none _ k en h | inr h ↦ not_in_none _ k ea h ])), tt);
  disjoint = ((λ s step x z. z), tt);
  slim = (
    omega (
      arith,
      ones-le 64 r.candidates lt,
      ones-le 64 (minus (2 ^ 64 - 1) (bit_or r.region.need r.region.avoid)) (omega (arith, minus_le (2 ^ 64 - 1) (bit_or r.region.need r.region.avoid))),
    ),
    tt,
  );
}
