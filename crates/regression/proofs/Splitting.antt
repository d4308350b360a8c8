-- A node that is split loses no pair.
use Rattle.std.proofs.Common.{◌≡◌, ℕ, ◌-◌, ◌^◌, ◌<◌, ◌≤◌, ◌⊎◌, sym, refl, ap, subst, inl, inr, arith}
use native.Mathlib.Decide.{ℕ_discrete}
use lib.Bits.{bit_and, bit_or}
use lib.Count.{ones}
use Rattle.sets.specs.Sets.{Has, Inside, Apart, minus}
use Rattle.sets.proofs.Bits.{has?, same_members}
use Rattle.sets.proofs.Members.{bit_one, ones_minus, ones_mono, all_marks, not_in_none}
use Rattle.problem.specs.Actions.{Action}
use Rattle.problem.specs.Firm.{Task, Step}
use Rattle.problem.specs.Runs.{Goal, Meets}
use Rattle.problem.specs.Problems.{task_of}
use Rattle.problem.specs.declared.problem.Problem.{Problem}
use Rattle.problem.proofs.Listed.{left_in, left_other, left_has, firm_every}
use Rattle.problem.proofs.FirmCalm.{firm_calm}
use Rattle.regression.specs.Regions.{top_of}
use Rattle.regression.specs.Spans.{Between, UnhurtBy}
use Rattle.regression.specs.Matters.{GoalNames, ActionNames, Matters}
use Rattle.regression.specs.Reaching.{Reaches, Lean, Judges}
use Rattle.regression.specs.declared.verdict.Verdict.TheVariants.{No}
use Rattle.regression.specs.Nodes.{Pair, Lies, Named, Splits, Expanded, WithAction, Hopeless, closed}
use Rattle.regression.specs.declared.node.Node.{Node}
use Rattle.regression.specs.declared.node.Next.{Next}
use Rattle.regression.specs.declared.node.Next.TheVariants.{Drop, Due, Split}
use Rattle.sets.proofs.Parts.{or_left, or_right, or_either, and_both}
use Rattle.regression.proofs.Masks.{nothing, minus_has, minus_from, minus_not, one_only, same_size, so}
use Rattle.regression.proofs.Local.{low, low_alike, fine_alike, problem_narrow}
use Rattle.regression.proofs.Reaching.{step_lt, reaches_calm, calm_fine, low_between}

-- what matters to a step is named by the goal or by the step's actions
pub matters_names : (at : ℕ → Action) (step : ℕ) (q : Goal) (x : ℕ) → Matters at step q x → GoalNames q x ⊎ ((i : ℕ) × Has step i × ActionNames (at i) x)
matters_names at step q x (inl (inl g)) = inl g
matters_names at step q x (inl (inr s)) = inr (s.0, s.1, inr (s.2.0, s.2.1, inl s.2.2))
matters_names at step q x (inr c) = inr (c.0, c.1, elim c.2 [ inl p ↦ inl p | inr r ↦ inr (r.3.0, r.3.1, inl r.3.2) ])

-- the atoms of a region that are undecided
abbrev free : Goal → ℕ
free p = minus (2 ^ 64 - 1) (bit_or p.need p.avoid)

fewer_free : (p r : Goal) → Inside (bit_or p.need p.avoid) (bit_or r.need r.avoid) → Inside (free r) (free p)
fewer_free p r sub k h =
    minus_has (2 ^ 64 - 1) (bit_or p.need p.avoid) k (minus_from _ _ k h) (λ x. minus_not _ _ k h (sub k x))

-- ---- by an action

module _ (t : Task) (few : t.count ≤ 64) (q : Goal) (n a b : Node) (k : ℕ) (apart : Apart n.chosen n.candidates) (hk : Has n.candidates k)
    (wa : WithAction t n k a) (bc : b.chosen ≡ n.chosen) (bd : b.candidates ≡ minus n.candidates (2 ^ k)) (br : b.region ≡ n.region) where
  in_chosen : (j : ℕ) → Has a.chosen j → Has n.chosen j ⊎ (j ≡ k)
  in_chosen j h = elim (or_either _ _ j (so _ _ j wa.chosen h)) [ inl x ↦ inl x | inr x ↦ inr (one_only j k x) ]

  chosen_now : Has a.chosen k
  chosen_now = so _ _ k (sym wa.chosen) (or_right _ _ k (bit_one k))

  chosen_more : (j : ℕ) → Has n.chosen j → Has a.chosen j
  chosen_more j h = so _ _ j (sym wa.chosen) (or_left _ _ j h)

  first_of : (s step : ℕ) → Pair t q s step → Lies n s step → Has step k → Lies a s step
  first_of s step pair l h = record {
    meets = record {
      holds = λ j hj. elim (or_either _ _ j (so _ _ j wa.need hj)) [
        | inl x ↦ l.meets.holds j x
        | inr x ↦ (reaches_calm t few q s step pair.reaches).ready k h j x
      ];
      lacks = λ j hj. l.meets.lacks j (so _ _ j wa.avoid hj);
    };
    least = λ j hj. elim (in_chosen j hj) [ inl x ↦ l.least j x | inr e ↦ subst (λ (z : ℕ). Has step z) (sym e) h ];
    most = λ j hj. elim (or_either _ _ j (l.most j hj)) [
      | inl x ↦ or_left _ _ j (chosen_more j x)
      | inr x ↦ elim (ℕ_discrete j k) [
        | yes e ↦ or_left _ _ j (subst (λ (z : ℕ). Has a.chosen z) (sym e) chosen_now)
        | no ne ↦ or_right _ _ j (so _ _ j (sym wa.candidates) (left_has n.candidates k j x ne))
      ]
    ];
  }

  second_of : (s step : ℕ) → Lies n s step → (Has step k → ⊥) → Lies b s step
  second_of s step l no-k = record {
    meets = subst (λ (y : Goal). Meets y s) (sym br) l.meets;
    least = λ j hj. l.least j (so _ _ j bc hj);
    most = λ j hj. elim (or_either _ _ j (l.most j hj)) [
      | inl x ↦ or_left _ _ j (so _ _ j (sym bc) x)
      | inr x ↦ or_right _ _ j (so _ _ j (sym bd) (left_has n.candidates k j x (λ e. no-k (subst (λ (z : ℕ). Has step z) e hj))))
    ];
  }

  covered : Inside (bit_or n.region.need n.region.avoid) (bit_or a.region.need a.region.avoid)
  covered j h = elim (or_either _ _ j h) [
    | inl y ↦ or_left _ _ j (so _ _ j (sym wa.need) (or_left _ _ j y))
    | inr y ↦ or_right _ _ j (so _ _ j (sym wa.avoid) y)
  ]

  named_a : Named t q n → Named t q a
  named_a f j (inr h) = elim (f j (inr (so _ _ j wa.avoid h))) [ inl g ↦ inl g | inr c ↦ inr (c.0, chosen_more c.0 c.1, c.2) ]
  named_a f j (inl h) = elim (or_either _ _ j (so _ _ j wa.need h)) [
    | inl x ↦ elim (f j (inl x)) [ inl g ↦ inl g | inr c ↦ inr (c.0, chosen_more c.0 c.1, c.2) ]
    | inr x ↦ inr (k, chosen_now, inl x)
  ]

  named_b : Named t q n → Named t q b
  named_b f j h = elim (f j (subst (λ (y : Goal). GoalNames y j) br h)) [
    | inl g ↦ inl g
    | inr c ↦ inr (c.0, so _ _ c.0 (sym bc) c.1, c.2)
  ]

  pub split_action : Splits t q n a b
  split_action = record {
    either = λ s step pair l. elim (has? step k) [ yes h ↦ inl (first_of s step pair l h) | no h ↦ inr (second_of s step l h) ];
    never_both = λ s step x y. elim (or_either _ _ k (y.most k (x.least k chosen_now))) [
      | inl h ↦ apart k (so _ _ k bc h) hk
      | inr h ↦ left_other n.candidates k k (so _ _ k bd h) refl
    ];
    first_in = λ s step x. record {
      meets = record {
        holds = λ j hj. x.meets.holds j (so _ _ j (sym wa.need) (or_left _ _ j hj));
        lacks = λ j hj. x.meets.lacks j (so _ _ j (sym wa.avoid) hj);
      };
      least = λ j hj. x.least j (chosen_more j hj);
      most = λ j hj. elim (or_either _ _ j (x.most j hj)) [
        | inl h ↦ elim (in_chosen j h) [ inl p ↦ or_left _ _ j p | inr p ↦ or_right _ _ j (subst (λ (z : ℕ). Has n.candidates z) (sym p) hk) ]
        | inr h ↦ or_right _ _ j (left_in n.candidates k j (so _ _ j wa.candidates h))
      ];
    };
    second_in = λ s step x. record {
      meets = subst (λ (y : Goal). Meets y s) br x.meets;
      least = λ j hj. x.least j (so _ _ j (sym bc) hj);
      most = λ j hj. elim (or_either _ _ j (x.most j hj)) [
        | inl h ↦ or_left _ _ j (so _ _ j bc h)
        | inr h ↦ or_right _ _ j (left_in n.candidates k j (so _ _ j bd h))
      ];
    };
    first_less = omega (
      arith,
      ones_mono (free a.region) (free n.region) (fewer_free n.region a.region covered),
      ap ones wa.candidates,
      ones_minus n.candidates k hk,
    );
    second_less = omega (arith, ap ones bd, ones_minus n.candidates k hk, ap (λ (y : Goal). ones (free y)) br);
    first_named = named_a;
    second_named = named_b;
  }

-- ---- by an atom

module _ (t : Task) (q : Goal) (chosen : ℕ) (p : Goal) (x : ℕ) (lt : x < 64) (nn : Has p.need x → ⊥) (na : Has p.avoid x → ⊥)
    (named : GoalNames q x ⊎ ((i : ℕ) × Has chosen i × ActionNames (t.at i) x)) where
  abbrev needing : Goal
  needing = record { need = bit_or p.need (2 ^ x); avoid = p.avoid }

  abbrev shunning : Goal
  shunning = record { need = p.need; avoid = bit_or p.avoid (2 ^ x) }

  undecided_x : Has (free p) x
  undecided_x = minus_has (2 ^ 64 - 1) (bit_or p.need p.avoid) x ((all_marks 64).all x lt) (λ h. elim (or_either _ _ x h) [ inl a ↦ nn a | inr a ↦ na a ])

  -- one atom less is free
  less : (r : Goal) → Inside (bit_or p.need p.avoid) (bit_or r.need r.avoid) → Has (bit_or r.need r.avoid) x → ones (free r) < ones (free p)
  less r sub hx =
      omega (
        arith,
        ones_minus (free p) x undecided_x,
        ones_mono (free r) (minus (free p) (2 ^ x)) (λ j hj.
            left_has (free p) x j (fewer_free p r sub j hj) (λ e. minus_not (2 ^ 64 - 1) (bit_or r.need r.avoid) j hj (subst (λ (z : ℕ). Has (bit_or r.need r.avoid) z) (sym e) hx))),
      )

  more_need : Inside (bit_or p.need p.avoid) (bit_or needing.need needing.avoid)
  more_need j h = elim (or_either p.need p.avoid j h) [
    | inl a ↦ or_left needing.need p.avoid j (or_left p.need (2 ^ x) j a)
    | inr a ↦ or_right needing.need p.avoid j a
  ]

  more_avoid : Inside (bit_or p.need p.avoid) (bit_or shunning.need shunning.avoid)
  more_avoid j h = elim (or_either p.need p.avoid j h) [
    | inl a ↦ or_left p.need shunning.avoid j a
    | inr a ↦ or_right p.need shunning.avoid j (or_left p.avoid (2 ^ x) j a)
  ]

  named_x : (j : ℕ) → j ≡ x → GoalNames q j ⊎ ((i : ℕ) × Has chosen i × ActionNames (t.at i) j)
  named_x j e = subst (λ (z : ℕ). GoalNames q z ⊎ ((i : ℕ) × Has chosen i × ActionNames (t.at i) z)) (sym e) named

  named_need : Named t q (closed chosen p) → Named t q (closed chosen needing)
  named_need f j (inr h) = f j (inr h)
  named_need f j (inl h) = elim (or_either p.need (2 ^ x) j h) [ inl a ↦ f j (inl a) | inr a ↦ named_x j (one_only j x a) ]

  named_avoid : Named t q (closed chosen p) → Named t q (closed chosen shunning)
  named_avoid f j (inl h) = f j (inl h)
  named_avoid f j (inr h) = elim (or_either p.avoid (2 ^ x) j h) [ inl a ↦ f j (inr a) | inr a ↦ named_x j (one_only j x a) ]

  pub split_atom : Splits t q (closed chosen p) (closed chosen needing) (closed chosen shunning)
  split_atom = record {
    either = λ s step pair l. elim (has? s x) [
      | yes h ↦ inl (record {
        meets = record {
          holds = λ j hj. elim (or_either p.need (2 ^ x) j hj) [ inl a ↦ l.meets.holds j a | inr a ↦ subst (λ (z : ℕ). Has s z) (sym (one_only j x a)) h ];
          lacks = l.meets.lacks;
        };
        least = l.least;
        most = l.most;
      })
      | no h ↦ inr (record {
        meets = record {
          holds = l.meets.holds;
          lacks = λ j hj c. elim (or_either p.avoid (2 ^ x) j hj) [ inl a ↦ l.meets.lacks j a c | inr a ↦ h (subst (λ (z : ℕ). Has s z) (one_only j x a) c) ];
        };
        least = l.least;
        most = l.most;
      })
    ];
    never_both = λ s step a b. b.meets.lacks x (or_right p.avoid (2 ^ x) x (bit_one x)) (a.meets.holds x (or_right p.need (2 ^ x) x (bit_one x)));
    first_in = λ s step a. record {
      meets = record { holds = λ j hj. a.meets.holds j (or_left p.need (2 ^ x) j hj); lacks = a.meets.lacks };
      least = a.least;
      most = a.most;
    };
    second_in = λ s step b. record {
      meets = record { holds = b.meets.holds; lacks = λ j hj. b.meets.lacks j (or_left p.avoid (2 ^ x) j hj) };
      least = b.least;
      most = b.most;
    };
    first_less = omega (arith, less needing more_need (or_left needing.need p.avoid x (or_right p.need (2 ^ x) x (bit_one x))));
    second_less = omega (arith, less shunning more_avoid (or_right p.need shunning.avoid x (or_right p.avoid (2 ^ x) x (bit_one x))));
    first_named = named_need;
    second_named = named_avoid;
  }

-- ---- a node with other candidates

module _ (t : Task) (q : Goal) (n : Node) (c : ℕ) where
  abbrev narrowed : Node
  narrowed = record { chosen = n.chosen; candidates = c; region = n.region }

  -- the same pairs lie in it
  pub expanded_as : ((s step : ℕ) → Pair t q s step → Lies n s step → Lies narrowed s step) → Inside c n.candidates
      → (r : Next) → Expanded t q narrowed r → Expanded t q n r
  expanded_as f sub Drop e = λ s step pair l. e s step pair (f s step pair l)
  expanded_as f sub (Due p) e = record {
    apart = e.apart;
    shrunk = e.shrunk;
    leads = e.leads;
    only = λ s step pair l. e.only s step pair (f s step pair l);
  }
  expanded_as f sub (Split a b) e =
      let wide : (s step : ℕ) → Lies narrowed s step → Lies n s step =
      λ s step l. record {
        meets = l.meets;
        least = l.least;
        most = λ k h. elim (or_either n.chosen c k (l.most k h)) [
          | inl x ↦ or_left n.chosen n.candidates k x
          | inr x ↦ or_right n.chosen n.candidates k (sub k x)
        ];
      } in
      record {
        either = λ s step pair l. e.either s step pair (f s step pair l);
        never_both = e.never_both;
        first_in = λ s step l. wide s step (e.first_in s step l);
        second_in = λ s step l. wide s step (e.second_in s step l);
        first_less = omega (arith, e.first_less, ones_mono c n.candidates sub);
        second_less = omega (arith, e.second_less, ones_mono c n.candidates sub);
        first_named = e.first_named;
        second_named = e.second_named;
      }

  -- a firm step has only actions of the task: other candidates count for nothing, and neither do the chosen
  pub known_lies : (known : ℕ) → ((k : ℕ) → k < t.count → Has known k) → c ≡ minus (bit_and n.candidates known) n.chosen
      → (s step : ℕ) → Pair t q s step → Lies n s step → Lies narrowed s step
  known_lies known all e s step pair l = record {
    meets = l.meets;
    least = l.least;
    most = λ k h. elim (has? n.chosen k) [
      | yes y ↦ or_left n.chosen c k y
      | no z ↦ or_right n.chosen c k (so _ _ k (sym e) (minus_has _ n.chosen k
          (and_both n.candidates known k (beyond k z (l.most k h)) (all k (pair.reaches.firm.allowed.known k h))) z))
    ];
  }
    where
      beyond : (k : ℕ) → (Has n.chosen k → ⊥) → Has (bit_or n.chosen n.candidates) k → Has n.candidates k
      beyond k z h = elim (or_either n.chosen n.candidates k h) [ inl y ↦ absurd (z y) | inr y ↦ y ]

  -- with no candidate, or no hand free, the chosen actions are the step
  pub closed_lies : t.count ≤ 64 → (c ≡ 0) ⊎ (t.hands ≤ ones n.chosen) → (s step : ℕ) → Pair t q s step → Lies narrowed s step
      → Lies (closed n.chosen n.region) s step
  closed_lies few (inl z) s step pair l = record {
    meets = l.meets;
    least = l.least;
    most = λ k h. elim (or_either n.chosen c k (l.most k h)) [ inl x ↦ or_left n.chosen 0 k x | inr x ↦ absurd (not_in_none c k z x) ];
  }
  closed_lies few (inr full) s step pair l =
      let e : step ≡ n.chosen =
      same_size n.chosen step l.least (step_lt t step few pair.reaches.firm.allowed) (omega (arith, full, pair.reaches.firm.allowed.few)) in
      record { meets = l.meets; least = l.least; most = λ k h. or_left n.chosen 0 k (so _ _ k e h) }

-- ---- the chosen step alone

pub closed_step : (chosen : ℕ) (p : Goal) (s step : ℕ) → Lies (closed chosen p) s step → step ≡ chosen
closed_step chosen p s step l =
    same_members step chosen (λ k h. elim (or_either chosen 0 k (l.most k h)) [ inl a ↦ a | inr b ↦ absurd (nothing k b) ]) l.least

-- judged No: nothing lies there
pub closed_none : (t : Task) (q : Goal) (chosen : ℕ) (p : Goal) → Judges t q chosen p No
    → (s step : ℕ) → Pair t q s step → Lies (closed chosen p) s step → ⊥
closed_none t q chosen p j s step pair l =
    let e = closed_step chosen p s step l in
    j s l.meets (subst (Reaches t q s) e pair.reaches) (subst (Lean t q s) e pair.lean)

-- need and avoid meet: nothing lies there
pub torn_none : (n : Node) → (Apart n.region.need n.region.avoid → ⊥) → (s step : ℕ) → Lies n s step → ⊥
torn_none n f s step l = f (λ k h a. l.meets.lacks k a (l.meets.holds k h))

-- too many are chosen, or what is no action: nothing lies there
pub no_step_none : (t : Task) (q : Goal) (n : Node) → t.count ≤ 64 → (Step t n.chosen → ⊥) → (s step : ℕ) → Pair t q s step → Lies n s step → ⊥
no_step_none t q n few f s step pair l =
    let a = pair.reaches.firm.allowed in
    f (record {
      known = λ k h. a.known k (l.least k h);
      few = omega (arith, a.few, ones_mono n.chosen step l.least);
    })

-- ---- chosen actions that hurt one another

pub hurt_hopeless : (p : Problem) (chosen : ℕ) (r : Goal) → r.need < 2 ^ 64 → r.avoid < 2 ^ 64
    → ((s : ℕ) → Between r.need (top_of r) s → ((i : ℕ) → Has chosen i → UnhurtBy (task_of p).at i (minus chosen (2 ^ i)) s s) → ⊥)
    → Hopeless (task_of p) chosen r
hurt_hopeless p chosen r ln la f s step end m sub firm =
    let t : Task = task_of p in
    let c = firm_calm t.at s step end (step_lt t step p.sized.2 firm.allowed) (firm_every _ _ _ _ firm.firm) in
    f (low s) (low_between r ln la s m) (λ i hi j hj.
    (fine_alike t.at (problem_narrow p) s (low s) (low_alike s) step i (calm_fine t.at s step c i (sub i hi))).1.0 j
    (left_has step i j (sub j (left_in chosen i j hj)) (left_other chosen i j hj)))

pub hopeless_none : (t : Task) (q : Goal) (n : Node) → Hopeless t n.chosen n.region → (s step : ℕ) → Pair t q s step → Lies n s step → ⊥
hopeless_none t q n h s step pair l = h s step pair.reaches.end l.meets l.least pair.reaches.firm
