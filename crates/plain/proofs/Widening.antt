-- Steps made wider, action by action.
use Rattle.std.proofs.Common.{◌≡◌, ℕ, ◌+◌, ◌<◌, ◌≤◌, Bool, true, false, ◌⊎◌, List, length, sym, refl, ap, subst, inl, inr, ⊎_elim, arith}
use native.Mathlib.Decide.{ℕ_discrete}
use lib.Bits.{bit_or}
use Rattle.sets.specs.Sets.{bit, Has, Inside, Marks}
use Rattle.sets.proofs.Bits.{bit_of_or, bit_digit, same_members, has?}
use Rattle.problem.specs.Firm.{Task, FirmStep}
use Rattle.plain.specs.Trees.{entry, Known, Front}
use Rattle.plain.specs.Growth.{rows_of, Growing, Taken, Wider, TakenFrom, Reaches, Grows}
use Rattle.plain.specs.declared.reached.Reached.{Reached}
use Rattle.plain.specs.declared.tree.Tree.{Tree}
use Rattle.problem.proofs.Running.{parts_firm, one_end}
use Rattle.plain.proofs.Trees.{front_same, front_along, known_front}

module _ (t : Task) (limit : ℕ) (x : Reached) (few : t.count ≤ 64) (step action : ℕ) where
  -- past the last action there is no wider step
  pub none_wider : (rows : List Reached) → t.count ≤ action → TakenFrom t limit rows x step action
  none_wider rows past lt wide end w f = absurd (w.2 (same_members wide step
      (λ k h. ⊎_elim (λ a. a) (λ le. absurd (let z : ⊥ = omega (arith, f.allowed.known k h) in z)) (w.1 k h))
      w.0))

  module _ (one wider : ℕ) (is : wider ≡ bit_or step one) (mark : Marks one (λ k. (k ≡ action) × (k < 64))) (lt : action < t.count) where
    wider_bit : (k : ℕ) → bit wider k ≡ bit (bit_or step one) k
    wider_bit k = ap (λ (y : ℕ). bit y k) is

    wider_from : (k : ℕ) → Has wider k → Has step k ⊎ (k ≡ action)
    wider_from k h = elim (has? step k) [
      | yes a ↦ inl a
      | no a ↦ inr (mark.only k (omega (arith, wider_bit k, bit_of_or step one k, bit_digit step k, bit_digit one k))).0
    ]

    wider_old : Inside step wider
    wider_old k h = omega (arith, wider_bit k, bit_of_or step one k, bit_digit one k)

    wider_new : Has wider action
    wider_new = omega (arith, wider_bit action, bit_of_or step one action, bit_digit step action, mark.all action (refl, omega arith))

    module _ (wide : ℕ) (w : Wider step action wide) where
      -- a step without the action has only later ones besides
      later : (Has wide action → ⊥) → Wider step (action + 1) wide
      later lacks = (
        w.0,
        (λ k h. ⊎_elim inl (λ le. elim (ℕ_discrete k action) [
          | yes e ↦ absurd (lacks (subst (λ (y : ℕ). Has wide y) e h))
          | no ne ↦ inr (omega arith)
        ]) (w.1 k h)),
        w.2,
      )

      part : Has wide action → Inside wider wide
      part has k h = ⊎_elim (w.0 k) (λ e. subst (λ (y : ℕ). Has wide y) (sym e) has) (wider_from k h)

      -- one with it is the widened step, or wider still
      still : Has wide action → (wide ≡ wider → ⊥) → Wider wider (action + 1) wide
      still has other = (
        part has,
        (λ k h. ⊎_elim (λ a. inl (wider_old k a)) (λ le. elim (ℕ_discrete k action) [
          | yes e ↦ inl (subst (λ (y : ℕ). Has wider y) (sym e) wider_new)
          | no ne ↦ inr (omega arith)
        ]) (w.1 k h)),
        other,
      )

    pub more_taken : (near mid far : List Reached) → Front near mid → Front mid far → Taken t limit near x wider true
        → TakenFrom t limit mid x wider (action + 1) → TakenFrom t limit far x step (action + 1) → TakenFrom t limit far x step action
    more_taken near mid far f g taken inner outer room wide end w firm = elim (has? wide action) [
      | no lacks ↦ outer room wide end (later wide w lacks) firm
      | yes has ↦ elim (ℕ_discrete wide wider) [
        | yes e ↦ (
            let same : taken.0 ≡ end = one_end t x.state wider taken.0 end few taken.1 (subst (λ (y : ℕ). FirmStep t x.state y end) e firm) in
            known_front mid far end _ g (known_front near mid end _ f (subst (λ (y : ℕ). Known near y (x.depth + 1)) same taken.2)))
        | no other ↦ known_front mid far end _ g (inner room wide end (still wide w has other) firm)
      ]
    ]

    pub none_taken : (near far : List Reached) → Taken t limit near x wider false
        → TakenFrom t limit far x step (action + 1) → TakenFrom t limit far x step action
    none_taken near far no-firm outer room wide end w firm = elim (has? wide action) [
      | no lacks ↦ outer room wide end (later wide w lacks) firm
      | yes has ↦ (
          let p = parts_firm t x.state wide wider end few (part wide w has) firm in
          absurd (no-firm room p.0 p.1))
    ]

-- a tree whose entry i stands where it stood
moved : (t : Task) (limit : ℕ) (a b : Tree) (i step action : ℕ) (rows : List Reached) → Front (rows_of a) (rows_of b) → i < length (rows_of a)
    → TakenFrom t limit rows (entry (rows_of b) i) step action → TakenFrom t limit rows (entry (rows_of a) i) step action
moved t limit a b i step action rows front lt h = subst (λ (x : Reached). TakenFrom t limit rows x step action) (front i lt).1 h

-- past the last action nothing is left
pub grows_none : (t : Task) (limit most : ℕ) → t.count ≤ 64 → (a : Tree) (i step action : ℕ) → Growing t limit most a i → t.count ≤ action
    → Grows t limit most a i step action a
grows_none t limit most few a i step action g past =
    (g, front_same (rows_of a) (rows_of a) refl, none_wider t limit (entry (rows_of a) i) few step action (rows_of a) past)

module _ (t : Task) (limit most : ℕ) (few : t.count ≤ 64) (a : Tree) (i step action one wider : ℕ) (g : Growing t limit most a i)
    (is : wider ≡ bit_or step one) (mark : Marks one (λ k. (k ≡ action) × (k < 64))) (lt : action < t.count) where
  -- the widened step was taken, every step wider than that, and then every other one
  pub grows_with : (b c m d : Tree) (took : Bool) → took ≡ true → m ≡ c
      → Reaches t limit most a i wider took b → Grows t limit most b i wider (action + 1) c → Grows t limit most m i step (action + 1) d
      → Grows t limit most a i step action d
  grows_with b c m d took yes-taken e reach s grow =
      let r : Reaches t limit most a i wider true b = subst (λ (k : Bool). Reaches t limit most a i wider k b) yes-taken reach in
      let u : Grows t limit most c i step (action + 1) d = subst (λ (y : Tree). Grows t limit most y i step (action + 1) d) e grow in
      let ac : Front (rows_of a) (rows_of c) = front_along (rows_of a) (rows_of b) (rows_of c) r.1 s.1 in (
        u.0,
        front_along (rows_of a) (rows_of c) (rows_of d) ac u.1,
        more_taken t limit (entry (rows_of a) i) few step action one wider is mark lt (rows_of b) (rows_of c) (rows_of d) s.1 u.1 r.2
            (moved t limit a b i wider (action + 1) (rows_of c) r.1 g.known s.2)
            (moved t limit a c i step (action + 1) (rows_of d) ac g.known u.2),
      )

  -- it was not, and every other one was
  pub grows_without : (b m d : Tree) (took : Bool) → took ≡ false → m ≡ b
      → Reaches t limit most a i wider took b → Grows t limit most m i step (action + 1) d → Grows t limit most a i step action d
  grows_without b m d took not_taken e reach grow =
      let r : Reaches t limit most a i wider false b = subst (λ (k : Bool). Reaches t limit most a i wider k b) not_taken reach in
      let u : Grows t limit most b i step (action + 1) d = subst (λ (y : Tree). Grows t limit most y i step (action + 1) d) e grow in (
        u.0,
        front_along (rows_of a) (rows_of b) (rows_of d) r.1 u.1,
        none_taken t limit (entry (rows_of a) i) few step action one wider is mark lt (rows_of b) (rows_of d) r.2
            (moved t limit a b i step (action + 1) (rows_of d) r.1 g.known u.2),
      )
