use Rattle.std.proofs.Common.{ℕ, ◌^◌, true, false, Decides, refl, subst, rules}
use Rattle.std.proofs.lemmas.Bool.{false≢true}
use Rattle.sets.specs.Sets.{Has, minus}
use Rattle.regression.specs.Spans.{Idle}
use Rattle.regression.specs.Told.{acts}
use Rattle.regression.proofs.Masks.{so}
use Rattle.sets.proofs.Running.{serves_members, any_member}
use Rattle.regression.proofs.doings.Doings.some_idle.Goals as goal

pub any-requires-clause-callable : goal.any-requires-clause-callable
any-requires-clause-callable c =
    serves_members (λ x q k. search rules) (λ x h. let m : Has c.args.self.now.step x = so _ _ x c.members_of.ensures h in search (rules, m))

pub returns : goal.returns
returns c =
    let d = c.args.self.now in
    let I : ℕ → Type 0 = λ i. Idle (acts d) i (minus d.step (2 ^ i)) c.args.aim d.lo d.hi in
    subst (λ (y : ℕ). Decides c.any.result ((k : ℕ) × Has y k × I k)) c.members_of.ensures
    (any_member _ (λ i. I i → ⊥) (λ x q k. (search rules, let p : Decides false (I x) = search rules in λ i. false≢true (p.1 i))) _ _ _ I c.any.ensures.ran
    (λ x q k. let p : Decides true (I x) = search rules in p.0 refl) (λ k n y. n y))
