-- Verdicts put together, and a verdict that asks.
use Rattle.std.proofs.Common.{◌≡◌, ℕ, ◌⊎◌, refl, sym, subst, inl, inr}
use Rattle.sets.specs.Sets.{Has}
use Rattle.regression.specs.Spans.{Between}
use Rattle.regression.specs.Verdicts.{Judged, both_of, OfAll, Asks}
use Rattle.regression.specs.declared.verdict.Verdict.{Verdict}
use Rattle.regression.specs.declared.verdict.Verdict.TheVariants.{Yes, No, Ask}

module _ (lo hi : ℕ) where
  pub judged_both : (S S' : ℕ → ℕ → Type 0) (N : ℕ → Type 0) (a b : Verdict) → Judged lo hi S N a → Judged lo hi S' N b
      → Judged lo hi (λ l h. S l h × S' l h) N (both_of a b)
  judged_both S S' N Yes Yes p q = (p, q)
  judged_both S S' N Yes No p q = λ s b r. q s b r.1
  judged_both S S' N Yes (Ask y) p q = (q.0, q.1, q.2, λ r. q.3 r.1)
  judged_both S S' N No b p q = λ s b r. p s b r.0
  judged_both S S' N (Ask x) Yes p q = (p.0, p.1, p.2, λ r. p.3 r.0)
  judged_both S S' N (Ask x) No p q = λ s b r. q s b r.1
  judged_both S S' N (Ask x) (Ask y) p q = (p.0, p.1, p.2, λ r. p.3 r.0)

  -- the same said otherwise, with a wider name for what is asked
  pub judged_as : (S S' : ℕ → ℕ → Type 0) (N N' : ℕ → Type 0) → (S lo hi → S' lo hi) → ((l h : ℕ) → S' l h → S l h) → ((x : ℕ) → N x → N' x)
      → (v : Verdict) → Judged lo hi S N v → Judged lo hi S' N' v
  judged_as S S' N N' f g n Yes j = f j
  judged_as S S' N N' f g n No j = λ s b r. j s b (g s s r)
  judged_as S S' N N' f g n (Ask x) j = (j.0, j.1, n x j.2, λ r. j.3 (g lo hi r))

  pub judged_named : (S : ℕ → ℕ → Type 0) (N N' : ℕ → Type 0) → ((x : ℕ) → N x → N' x) → (v : Verdict) → Judged lo hi S N v → Judged lo hi S N' v
  judged_named S N N' n v j = judged_as S S N N' (λ r. r) (λ l h r. r) n v j

  -- what may be wrong is asked about: it is wrong where nothing is left to ask for
  pub asked : (S : ℕ → ℕ → Type 0) (N : ℕ → Type 0) (ask : ℕ) → (ask ≡ 0 → (s : ℕ) → Between lo hi s → S s s → ⊥)
      → ((x : ℕ) → Has ask x → Has hi x × (Has lo x → ⊥) × N x) → (S lo hi → ⊥) → (v : Verdict) → Asks ask v → Judged lo hi S N v
  asked S N ask none fresh unsure Yes a = absurd a
  asked S N ask none fresh unsure No a = none a
  asked S N ask none fresh unsure (Ask x) a = let f = fresh x a in (f.0, f.1, f.2, unsure)

-- a verdict known by its case
pub judged_is : (lo hi : ℕ) (S : ℕ → ℕ → Type 0) (N : ℕ → Type 0) (v w : Verdict) → v ≡ w → Judged lo hi S N v → Judged lo hi S N w
judged_is lo hi S N v w e j = subst (λ (y : Verdict). Judged lo hi S N y) e j

-- ---- the verdict on all

abbrev IsYes : Verdict → Type 0
IsYes Yes = Unit {0}
IsYes No = ⊥
IsYes (Ask x) = ⊥

pub other : (v : Verdict) → (IsYes v → ⊥) → v ≡ Yes → ⊥
other v n e = n (subst IsYes (sym e) tt)

module _ {X : Type 0} (In : X → Type 0) (P : X → Verdict → Type 0) where
  of_one : (v : Verdict) → (IsYes v → ⊥) → (x : X) → In x → P x v → OfAll In P v
  of_one v n x m p = record { each = λ e. absurd (other v n e); one = λ _. (x, m, p) }

  of_each : ((x : X) → In x → P x Yes) → OfAll In P Yes
  of_each f = record { each = λ _. f; one = λ n. absurd (n refl) }

-- one more thing, k
module _ {X : Type 0} (In In' : X → Type 0) (k : X) (P : X → Verdict → Type 0) (more : (x : X) → In x → In' x) (now : In' k)
    (either : (x : X) → In' x → In x ⊎ (x ≡ k)) where
  had : (v : Verdict) → (IsYes v → ⊥) → OfAll In P v → OfAll In' P v
  had v n a = let r = a.one (other v n) in of_one In' P v n r.0 (more r.0 r.1) r.2

  pub all_more : (v last : Verdict) → OfAll In P v → P k last → OfAll In' P (both_of v last)
  all_more Yes Yes a o = of_each In' P (λ x m. elim (either x m) [ inl y ↦ a.each refl x y | inr e ↦ subst (λ (y : X). P y Yes) (sym e) o ])
  all_more Yes No a o = of_one In' P No (λ z. z) k now o
  all_more Yes (Ask y) a o = of_one In' P (Ask y) (λ z. z) k now o
  all_more No last a o = had No (λ z. z) a
  all_more (Ask x) Yes a o = had (Ask x) (λ z. z) a
  all_more (Ask x) No a o = of_one In' P No (λ z. z) k now o
  all_more (Ask x) (Ask y) a o = had (Ask x) (λ z. z) a

-- of the same things
pub all_as : {X : Type 0} {In In' : X → Type 0} {P : X → Verdict → Type 0} {v : Verdict} → ((x : X) → In x → In' x) → ((x : X) → In' x → In x)
    → OfAll In P v → OfAll In' P v
all_as f g a = record { each = λ e x m. a.each e x (g x m); one = λ n. let r = a.one n in (r.0, f r.0 r.1, r.2) }

-- no of some is no of all
pub all_no : {X : Type 0} {In In' : X → Type 0} {P : X → Verdict → Type 0} {v : Verdict} → ((x : X) → In x → In' x)
    → v ≡ No → OfAll In P v → OfAll In' P No
all_no {X} {In} {In'} {P} {v} f e a =
    let n : OfAll In P No = subst (OfAll In P) e a in
    let r = n.one (other No (λ z. z)) in
    of_one In' P No (λ z. z) r.0 (f r.0 r.1) r.2

-- each is judged, so all are
module _ {X : Type 0} {In : X → Type 0} {P : X → Verdict → Type 0} (lo hi : ℕ) (S : X → ℕ → ℕ → Type 0) (N : ℕ → Type 0) where
  judged_by : (v : Verdict) → OfAll In P v → ((x : X) (w : Verdict) → In x → P x w → Judged lo hi (S x) N w)
      → Judged lo hi (λ l h. (x : X) → In x → S x l h) N v
  judged_by Yes a f = λ x m. f x Yes m (a.each refl x m)
  judged_by No a f = let r = a.one (other No (λ z. z)) in λ s b g. f r.0 No r.1 r.2 s b (g r.0 r.1)
  judged_by (Ask y) a f =
      let r = a.one (other (Ask y) (λ z. z)) in
      let j = f r.0 (Ask y) r.1 r.2 in (j.0, j.1, j.2, λ g. j.3 (g r.0 r.1))

  pub all_judged : {v : Verdict} → OfAll In P v → ((x : X) (w : Verdict) → In x → P x w → Judged lo hi (S x) N w)
      → Judged lo hi (λ l h. (x : X) → In x → S x l h) N v
  all_judged {v} = judged_by v
