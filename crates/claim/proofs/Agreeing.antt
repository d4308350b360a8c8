-- The outcome and the number of steps do not depend on the store.
use Rattle.std.proofs.Common.{◌≡◌, ℕ, ◌≤◌, List, ◌∷◌, take, Ok, refl, arith}
use Rattle.problem.specs.Firm.{Task}
use Rattle.problem.specs.Runs.{Run, Meets}
use Rattle.problem.specs.Problems.{Fits}
use Rattle.store.specs.Stores.{Meaning}
use Rattle.outlook.specs.Outlooks.{View, Shut}
use Rattle.claim.specs.Search.{Question}
use Rattle.claim.specs.Turns.{plans}
use Rattle.claim.specs.Claim.{Right, Counted, Planned, turn}
use Rattle.claim.specs.Agree.{Answered, StoresAgree}
use Rattle.claim.specs.declared.outcome.Outcome.{Outcome}
use Rattle.claim.specs.declared.outcome.Outcome.TheVariants.{Plan, Never, NotWithin, Spent}
use Rattle.claim.specs.declared.report.Report.{Report}
use Rattle.claim.proofs.Reaching.{runs_are_lists}
use Rattle.claim.proofs.Turning.{every_list}
use Rattle.claim.proofs.Falling.{plan_not_never, not_within_not_never, not_blind}

-- what is known of one answer: what its outcome says, and that it is "never" just where the outlook says so
record KnownOf (t : Task) (v : View) (a : Question) (out : Outcome) (r : Report) : Type 0 where
  entries : List ℕ
  m : Meaning
  right : Right t a out r entries
  counted : Counted v a m out r
  closed : Shut v a.goal → out ≡ Never
  shut : out ≡ Never → Shut v a.goal
  whole : out ≡ Spent → ⊥

module _ (t : Task) (v : View) (a : Question) where
  run_of : (r : Report) → KnownOf t v a Plan r → (end : ℕ) × Run t r.steps end × Meets a.goal end
  run_of r k =
      let s = k.right.1.reaches in
      (s.0, (runs_are_lists t r.steps s.0).1 (take r.steps k.entries) k.right.0 s.1, s.2)

  no_longer : (r r' : Report) → KnownOf t v a Plan r → KnownOf t v a Plan r' → r.steps ≤ r'.steps
  no_longer r r' k k' =
      let s = run_of r' k' in
      omega (arith, k.right.0, k.right.1.least r'.steps s.0 s.1 s.2)

  not_both : (r r' : Report) → KnownOf t v a Plan r → KnownOf t v a NotWithin r' → ⊥
  not_both r r' k k' = let s = run_of r k in k'.right r.steps s.0 k.counted.1 s.1 s.2

  agree : (out out' : Outcome) (r r' : Report) → KnownOf t v a out r → KnownOf t v a out' r' → (out ≡ out') × (r.steps ≡ r'.steps)
  agree Plan Plan r r' k k' = (refl, omega (arith, no_longer r r' k k', no_longer r' r k' k))
  agree Plan Never r r' k k' = absurd (plan_not_never (k.closed (k'.shut refl)))
  agree Plan NotWithin r r' k k' = absurd (not_both r r' k k')
  agree Never Plan r r' k k' = absurd (plan_not_never (k'.closed (k.shut refl)))
  agree Never Never r r' k k' = (refl, omega (arith, k.counted.steps, k'.counted.steps))
  agree Never NotWithin r r' k k' = absurd (not_within_not_never (k'.closed (k.shut refl)))
  agree NotWithin Plan r r' k k' = absurd (not_both r' r k' k)
  agree NotWithin Never r r' k k' = absurd (not_within_not_never (k.closed (k'.shut refl)))
  agree NotWithin NotWithin r r' k k' = (refl, omega (arith, k.counted.0, k'.counted.0))
  agree Spent out' r r' k k' = absurd (k.whole refl)
  agree Plan Spent r r' k k' = absurd (k'.whole refl)
  agree Never Spent r r' k k' = absurd (k'.whole refl)
  agree NotWithin Spent r r' k k' = absurd (k'.whole refl)

  known_of : Fits t → (r : Report) → Answered t v a r → (r.outcome ≡ Spent → ⊥) → KnownOf t v a r.outcome r
  known_of fits r x whole =
      let p : Planned t v a r x.4 x.1 x.2 =
      (every_list t fits (turn x.1 (plans v a (Ok r) x.3 x.4) x.2 ∷ x.0) x.2 x.5).each.0 in
      let b = not_blind t v a r x.3 x.4 x.1 x.2 x.5.2 in
      record { entries = x.4; m = x.1; right = p.right; counted = p.counted; closed = b.0; shut = b.1; whole = whole }

pub stores_agree : StoresAgree
stores_agree t fits v a r r' x x' whole whole' =
    agree t v a r.outcome r'.outcome r r' (known_of t v a fits r x whole) (known_of t v a fits r' x' whole')
