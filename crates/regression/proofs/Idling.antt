-- What an action is for, by masks.
use Rattle.std.proofs.Common.{◌≡◌, ℕ, eqb, Decides, sym, inl, inr}
use lib.Bits.{bit_and, bit_or}
use Rattle.std.proofs.lemmas.Bool.{eqb-true, eq-eqb}
use Rattle.sets.specs.Sets.{minus}
use Rattle.sets.proofs.Bits.{has?}
use Rattle.sets.proofs.Members.{not_in_none}
use Rattle.problem.specs.Actions.{Action, cuts}
use Rattle.problem.specs.Runs.{Goal}
use Rattle.regression.specs.Spans.{sure_gives, may_give, Union, Idle}
use Rattle.sets.proofs.Parts.{or_either, and_both, and_left, and_right}
use Rattle.regression.proofs.Masks.{or_none, minus_has, minus_from, minus_not, none_in, so}

module _ (at : ℕ → Action) (lo hi i others : ℕ) (q : Goal) (sg sc given deleted : ℕ)
    (ug : Union (sure_gives at lo hi) others sg) (uc : Union (cuts at lo) others sc)
    (eg : given ≡ minus (minus (bit_and (may_give at lo hi i) q.need) lo) sg)
    (ed : deleted ≡ minus (bit_and (bit_and (cuts at hi i) q.avoid) hi) sc) where
  idle_from : bit_or given deleted ≡ 0 → Idle at i others q lo hi
  idle_from e =
      let none = or_none given deleted e in (
        (λ k hn nt h. elim (has? sg k) [
          | yes y ↦ ug.from k y
          | no n ↦ absurd (not_in_none given k none.0 (so _ _ k (sym eg)
              (minus_has _ sg k (minus_has _ lo k (and_both (may_give at lo hi i) q.need k h hn) nt) n)))
        ]),
        (λ k ha ht h. elim (has? sc k) [
          | yes y ↦ uc.from k y
          | no n ↦ absurd (not_in_none deleted k none.1 (so _ _ k (sym ed)
              (minus_has _ sc k (and_both _ hi k (and_both (cuts at hi i) q.avoid k h ha) ht) n)))
        ]),
      )

  idle_to : Idle at i others q lo hi → bit_or given deleted ≡ 0
  idle_to idle = none_in (bit_or given deleted) (λ k h. elim (or_either given deleted k h) [
    | inl g ↦ (
        let m = so _ _ k eg g in
        let l = minus_from _ sg k m in
        let a = minus_from _ lo k l in
        let r = idle.0 k (and_right (may_give at lo hi i) q.need k a) (minus_not _ lo k l) (and_left (may_give at lo hi i) q.need k a) in
        minus_not _ sg k m (ug.into r.0 r.1 k r.2))
    | inr d ↦ (
        let m = so _ _ k ed d in
        let l = minus_from _ sc k m in
        let a = and_left _ hi k l in
        let r = idle.1 k (and_right (cuts at hi i) q.avoid k a) (and_right _ hi k l) (and_left (cuts at hi i) q.avoid k a) in
        minus_not _ sc k m (uc.into r.0 r.1 k r.2))
  ])

  pub idle_decides : Decides (eqb (bit_or given deleted) 0) (Idle at i others q lo hi)
  idle_decides = ((λ t. idle_from (eqb-true _ _ t)), (λ d. eq-eqb _ _ (idle_to d)))
