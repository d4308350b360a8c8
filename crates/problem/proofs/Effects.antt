-- What the effects of an action do.
use Rattle.std.proofs.Common.{◌≡◌, ℕ, ◌+◌, ◌-◌, ◌≤◌, max, Bool, true, false, cond, T, ◌⊎◌, List, [], ◌∷◌, sym, refl, ap, subst, ap₂, inl, inr, arith, eqb→eq}
use lib.Bits.{bit_or}
use lib.Dec.{eqb_refl}
use Rattle.sets.proofs.Bits.{bit_digit, bit_of_or, bit_none, bit_minus, inside_and, and_inside, has?}
use Rattle.sets.specs.Sets.{bit, Has, Inside}
use Rattle.problem.specs.Actions.{Action, Among, fires, gather, adds, deletes, result_of, cuts, gives, FireAlike}
use Rattle.problem.specs.declared.rows.EffectRow.{EffectRow}

pub gather_alike : (mask : EffectRow → ℕ) (s t : ℕ) (es : List EffectRow) → FireAlike es s t → gather mask t es ≡ gather mask s es
gather_alike mask s t [] f = refl
gather_alike mask s t (e ∷ es) f =
    ap₂ (λ (b : Bool) (x : ℕ). cond b (bit_or (mask e) x) x) (sym f.0) (gather_alike mask s t es f.1)

-- what an action gives and what it cuts are apart
pub net_apart : (at : ℕ → Action) (s i k : ℕ) → bit (gives at s i) k + bit (cuts at s i) k ≤ 1
net_apart at s i k =
    omega (
      arith,
      bit_minus (adds s (at i).effects) (deletes s (at i).effects) k,
      bit_digit (adds s (at i).effects) k,
      bit_digit (deletes s (at i).effects) k,
    )

-- a state after a turn, atom by atom, from what the action gives and cuts in s
pub result_bit : (at : ℕ → Action) (i s t k : ℕ) → FireAlike (at i).effects s t
    → bit (result_of (at i) t) k ≡ max (bit t k) (bit (gives at s i) k) - bit (cuts at s i) k
result_bit at i s t k f =
    let es = (at i).effects in
    omega (
      arith,
      bit_minus (bit_or t (adds t es)) (deletes t es) k,
      bit_of_or t (adds t es) k,
      bit_minus (adds s es) (deletes s es) k,
      bit_digit t k,
      bit_digit (adds s es) k,
      bit_digit (deletes s es) k,
      ap (λ (x : ℕ). bit x k) (gather_alike (λ e. e.add) s t es f),
      ap (λ (x : ℕ). bit x k) (gather_alike (λ e. e.delete) s t es f),
    )

pub fires_inside : (s : ℕ) (e : EffectRow) → T (fires s e) → Inside e.condition s
fires_inside s e h = and_inside e.condition s (eqb→eq _ _ h)

pub inside_fires : (s : ℕ) (e : EffectRow) → Inside e.condition s → T (fires s e)
inside_fires s e f = rw (inside_and e.condition s f) (eqb_refl e.condition)

pub same_tests : (b c : Bool) → (T b → T c) → (T c → T b) → b ≡ c
same_tests true true f g = refl
same_tests true false f g = absurd (f tt)
same_tests false true f g = absurd (g tt)
same_tests false false f g = refl

pub dec_T : (b : Bool) → Dec (T b)
dec_T true = yes tt
dec_T false = no (λ z. z)

pub alike_all : (es : List EffectRow) (s t : ℕ) → ((e : EffectRow) → Among e es → fires s e ≡ fires t e) → FireAlike es s t
alike_all [] s t f = tt
alike_all (e ∷ es) s t f = (f e (inl refl), alike_all es s t (λ x i. f x (inr i)))

pub alike_at : (es : List EffectRow) (s t : ℕ) → FireAlike es s t → (e : EffectRow) → Among e es → fires s e ≡ fires t e
alike_at [] s t f e i = absurd i
alike_at (x ∷ es) s t f e (inl p) = subst (λ y. fires s y ≡ fires t y) (sym p) f.0
alike_at (x ∷ es) s t f e (inr i) = alike_at es s t f.1 e i

-- what the effects that fire add or delete, effect by effect
module _ (mask : EffectRow → ℕ) (s f : ℕ) where
  pub gather_from : (es : List EffectRow) → Has (gather mask s es) f → (e : EffectRow) × Among e es × T (fires s e) × Has (mask e) f
  gather_from [] h = absurd (let z : ⊥ = omega (arith, h, bit_none f) in z)
  gather_from (e ∷ es) h = go (fires s e) refl h (gather_from es)
    where
      go : (b : Bool) → fires s e ≡ b → Has (cond b (bit_or (mask e) (gather mask s es)) (gather mask s es)) f
          → (Has (gather mask s es) f → (x : EffectRow) × Among x es × T (fires s x) × Has (mask x) f)
          → (x : EffectRow) × Among x (e ∷ es) × T (fires s x) × Has (mask x) f
      go true p h ih = elim (has? (mask e) f) [
        | yes a ↦ (e, inl refl, subst T (sym p) tt, a)
        | no a ↦ (
            let r = ih (omega (arith, h, bit_of_or (mask e) (gather mask s es) f, bit_digit (mask e) f, bit_digit (gather mask s es) f)) in
            (r.0, inr r.1, r.2, r.3))
      ]
      go false p h ih = let r = ih h in (r.0, inr r.1, r.2, r.3)

  pub gather_has : (es : List EffectRow) (e : EffectRow) → Among e es → T (fires s e) → Has (mask e) f → Has (gather mask s es) f
  gather_has [] e i t h = absurd i
  gather_has (x ∷ es) e i t h = go (fires s x) refl i (λ j. gather_has es e j t h)
    where
      go : (b : Bool) → fires s x ≡ b → (e ≡ x) ⊎ Among e es → (Among e es → Has (gather mask s es) f) → Has (cond b (bit_or (mask x) (gather mask s es)) (gather mask s es)) f
      go true p (inl q) ih =
          let h' : Has (mask x) f = subst (λ (y : EffectRow). Has (mask y) f) q h in
          omega (arith, h', bit_of_or (mask x) (gather mask s es) f, bit_digit (gather mask s es) f)
      go true p (inr j) ih = omega (arith, ih j, bit_of_or (mask x) (gather mask s es) f, bit_digit (mask x) f)
      go false p (inl q) ih = absurd (subst T p (subst (λ (y : EffectRow). T (fires s y)) q t))
      go false p (inr j) ih = ih j

-- an effect with empty condition fires in every state
pub empty_fires : (s : ℕ) (e : EffectRow) → e.condition ≡ 0 → T (fires s e)
empty_fires s e p = inside_fires s e (λ k h. absurd (let z : ⊥ = omega (arith, subst (λ (x : ℕ). Has x k) p h, bit_none k) in z))
