-- A walk along the members of a set, the lowest of what is left first: what is done, as one more is done.
use Rattle.std.proofs.Common.{◌≡◌, ℕ, ◌+◌, ◌⊎◌, Some, sym, ap, ◌∙◌, subst, inl, inr}
use native.Mathlib.Decide.{ℕ_discrete}
use lib.Count.{ones}
use Rattle.sets.specs.Sets.{Has, Inside, Takes}
use Rattle.sets.proofs.Bits.{has?}
use Rattle.sets.proofs.Members.{not_in_none}
use Rattle.sets.proofs.Walking.{took_in, left_in, took_out, others_left, left_is, left_fewer}

-- j is a member, and no longer left
abbrev pub Done : ℕ → ℕ → ℕ → Type 0
Done set left j = Has set j × (Has left j → ⊥)

pub all_left : (set left : ℕ) → left ≡ set → Inside left set
all_left set left e k h = subst (λ (y : ℕ). Has y k) e h

pub none_done : (set left : ℕ) → left ≡ set → (j : ℕ) → Done set left j → ⊥
none_done set left e j d = d.1 (subst (λ (y : ℕ). Has y j) (sym e) d.0)

module _ (set left k left' : ℕ) (sub : Inside left set) (tk : Takes left (Some k) left') where
  pub still_left : Inside left' set
  still_left j h = sub j (left_in left k left' tk j h)

  pub done_more : (j : ℕ) → Done set left j → Done set left' j
  done_more j d = (d.0, λ h. d.1 (left_in left k left' tk j h))

  pub done_now : Done set left' k
  done_now = (sub k (took_in left k left' tk), took_out left k left' tk)

  pub done_either : (j : ℕ) → Done set left' j → Done set left j ⊎ (j ≡ k)
  done_either j d = elim (has? left j) [
    | no n ↦ inl (d.0, n)
    | yes y ↦ elim (ℕ_discrete j k) [ yes e ↦ inr e | no ne ↦ absurd (d.1 (others_left left k left' tk j y ne)) ]
  ]

pub all_done : (set left : ℕ) → left ≡ 0 → (j : ℕ) → Has set j → Done set left j
all_done set left e j h = (h, λ l. not_in_none left j e l)

-- one is left fewer
pub fewer_left : (left k left' : ℕ) → Takes left (Some k) left' → ones left' + 1 ≡ ones left
fewer_left left k left' tk = ap (λ (x : ℕ). ones x + 1) (left_is left k left' tk) ∙ left_fewer left k left' tk
