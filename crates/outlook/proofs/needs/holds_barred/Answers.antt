use Rattle.std.proofs.Common.{ℕ, true, false, Decides, T, refl, subst, rules}
use Rattle.std.proofs.lemmas.Bool.{false≢true}
use Rattle.sets.specs.Sets.{Has}
use Rattle.sets.proofs.Running.{serves_members, any_member}
use Rattle.outlook.proofs.Scanning.{known_atoms}
use Rattle.outlook.proofs.needs.holds_barred.Goals as goal

pub any-requires-clause-callable : goal.any-requires-clause-callable
any-requires-clause-callable g c =
    let low = c.in_ok-check_question.ensures.0 in
    let known = (known_atoms _ _ c.args.set _ c.problem.ensures c.within.ensures).0 c.in_ok-check_question.ensures.1 in
    serves_members (λ x q k. search rules) (λ x h. let m : Has c.args.set x = subst (λ (y : ℕ). Has y x) c.members_of.ensures h in search (rules, m, low, known))

pub returns : goal.returns
returns g c =
    let Met : ℕ → Type 0 = λ a. (b : ℕ) × Has c.args.set b × T ((g.O.Outlook.view c.args.outlook.now).bars c.args.level a b) in
    let d : Decides c.any.result ((k : ℕ) × Has c.args.set k × Met k) =
    subst (λ (y : ℕ). Decides c.any.result ((k : ℕ) × Has y k × Met k)) c.members_of.ensures
    (any_member _ (λ i. Met i → ⊥) (λ x q k. (search rules, let p : Decides false (Met x) = search rules in λ i. false≢true (p.1 i))) _ _ _ Met c.any.ensures.ran
    (λ x q k. let p : Decides true (Met x) = search rules in p.0 refl) (λ k n y. n y)) in (
      c.in_ok-check_question.ensures.0,
      (known_atoms _ _ c.args.set _ c.problem.ensures c.within.ensures).0 c.in_ok-check_question.ensures.1,
      ((λ e. let r = d.0 e in (r.0, r.2.0, r.1, r.2.1, r.2.2)), λ b. d.1 (b.0, b.2, (b.1, b.3, b.4))),
    )
