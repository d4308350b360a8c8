-- What plan answers, from how its search ended.
use Rattle.std.proofs.Common.{◌≡◌, ℕ, ◌+◌, ◌-◌, ◌≤◌, List, length, Ok, Err, refl, inl, arith}
use Rattle.sets.specs.Sets.{Within}
use Rattle.problem.specs.Firm.{Task}
use Rattle.problem.specs.declared.refusal.Refusal.{Refusal}
use Rattle.store.specs.Stores.{Meaning}
use Rattle.outlook.specs.Outlooks.{View, Shut}
use Rattle.claim.specs.Search.{Question}
use Rattle.claim.specs.Turns.{Declines, Passes, plan_checks, Searched, report, Answers, Plans}
use Rattle.claim.specs.declared.outcome.Outcome.{Outcome}
use Rattle.claim.specs.declared.outcome.Outcome.TheVariants.{Plan, Never, NotWithin, Spent}
use Rattle.claim.proofs.Searching.{kept_grows, passed_grows}
use Rattle.claim.proofs.Turning.{named}
use Rattle.planner.specs.Endings.{Ran}
use Rattle.planner.specs.declared.ending.Ending.{Ending}

-- the checks passed: need names atoms of the task
pub need_within : (t : Task) (m : Meaning) (a : Question) (room : ℕ) → Passes (plan_checks t m a room) → Within t.atoms a.goal.need
need_within t m a room x k h = named t.atoms a.goal x.0 k (inl h)

module _ {t : Task} {v : View} {a : Question} {m m' : Meaning} where
  -- the counts of the store only grow
  pub kept_more : (e : Ending) (old new : List ℕ) → Ran t v a e old new m m' → m.kept ≤ m'.kept
  kept_more e old new x = omega (arith, kept_grows x.ended.search)

  pub passed_more : (e : Ending) (old new : List ℕ) → Ran t v a e old new m m' → m.passed ≤ m'.passed
  passed_more e old new x = omega (arith, passed_grows x.ended.search)

  module _ (shut : Shut v a.goal → ⊥) (kept passed : ℕ) (kept_is : m'.kept ≡ m.kept + kept) (passed_is : m'.passed ≡ m.passed + passed) where
    searched : (e : Ending) (old new : List ℕ) → Ran t v a e old new m m'
        → Searched t v a (report e.outcome e.steps e.opened kept passed e.left) old new m m'
    searched e old new x = record {
      not_shut = shut;
      round = x.ended.round;
      st = x.ended.os;
      log = x.ended.log;
      plan = x.plan;
      search = x.ended.search;
      ends = x.ended.ends;
      steps = x.steps;
      written = x.written;
      opened = x.ended.counted;
      left = x.ended.remain;
      kept = kept_is;
      passed = passed_is;
    }

    answered : (out : Outcome) (steps opened left : ℕ) (old new : List ℕ)
        → Ran t v a (record { outcome = out; steps = steps; opened = opened; left = left }) old new m m'
        → Answers t v a out (report out steps opened kept passed left) old new m m'
    answered Plan steps opened left old new x = searched (record { outcome = Plan; steps = steps; opened = opened; left = left }) old new x
    answered Never steps opened left old new x = absurd x.ended.ends
    answered NotWithin steps opened left old new x = searched (record { outcome = NotWithin; steps = steps; opened = opened; left = left }) old new x
    answered Spent steps opened left old new x = searched (record { outcome = Spent; steps = steps; opened = opened; left = left }) old new x

module _ (t : Task) (v : View) (a : Question) (old : List ℕ) (m : Meaning) where
  -- a check fails
  pub declined : (e : Refusal) → Declines (plan_checks t m a (length old)) e → Plans t v a (Err e) old old m m
  declined e x = (x, refl, refl)

  -- the answer "never"
  pub shut_answered : Passes (plan_checks t m a (length old)) → Shut v a.goal → Plans t v a (Ok (report Never 0 0 0 0 0)) old old m m
  shut_answered checks shut = (
    checks,
    record {
      shut = shut;
      none = record { steps = refl; opened = refl; kept = refl; passed = refl; left = refl };
      written = refl;
      alike = refl;
    },
  )

  -- the other answers
  pub search_answered : (e : Ending) (new : List ℕ) (m' : Meaning) (kept passed : ℕ) → Passes (plan_checks t m a (length old))
      → (Shut v a.goal → ⊥) → kept ≡ m'.kept - m.kept → passed ≡ m'.passed - m.passed → Ran t v a e old new m m'
      → Plans t v a (Ok (report e.outcome e.steps e.opened kept passed e.left)) old new m m'
  search_answered e new m' kept passed checks shut kept_is passed_is x = (
    checks,
    answered shut kept passed (omega (arith, kept_is, kept_more e old new x)) (omega (arith, passed_is, passed_more e old new x))
        e.outcome e.steps e.opened e.left old new x,
  )
