use Rattle.std.proofs.Common.{◌≡◌, ℕ, ◌≤◌, ◌⊎◌, inl, inr, arith}
use lib.Count.{ones}
use Rattle.std.proofs.lemmas.Bool.{false≢true}
use Rattle.problem.specs.Problems.{task_of}
use Rattle.sets.proofs.Parts.{and_left}
use Rattle.regression.proofs.Masks.{nothing, minus_from, so}
use Rattle.regression.proofs.Splitting.{expanded_as, known_lies, closed_lies, torn_none, no_step_none}
use Rattle.regression.proofs.expand.expand.Goals as goal
use Rattle.regression.proofs.expand.expand.Goals.{then-not-apart-via-then-not-apart, then-not-apart-via-else-not-apart+then-not-is_step, else-open-ne0-via-then-open-ne0+else-chosen-problem, else-open-ne0-via-else-open-ne0}

pub returns-then-not-apart : goal.returns-then-not-apart
returns-then-not-apart c s step pair l = elim c.then-not-apart.branch [
  | then-not-apart-via-then-not-apart w ↦ torn_none c.args.node (λ f. false≢true (w.if-not-apart.ensures.1 f)) s step l
  | then-not-apart-via-else-not-apart+then-not-is_step w ↦
      no_step_none (task_of c.args.problem.now) c.args.aim c.args.node c.args.problem.now.sized.2
      (λ f. false≢true (w.if-not-is_step.ensures.1 f)) s step pair l
]

pub returns-then-chosen-problem : goal.returns-then-chosen-problem
returns-then-chosen-problem c =
    let t = task_of c.args.problem.now in
    let q = c.args.aim in
    let few : t.count ≤ 64 = c.args.problem.now.sized.2 in
    expanded_as t q c.args.node c.without-open.result
    (known_lies t q c.args.node c.without-open.result c.all_below.result (λ k h. c.all_below.ensures.all k (omega arith)) c.without-open.ensures.is)
    (λ k h. and_left _ _ k (minus_from _ _ k (so _ _ k c.without-open.ensures.is h)))
    c.choose.result c.choose.ensures

pub returns-else-open-ne0 : goal.returns-else-open-ne0
returns-else-open-ne0 c =
    let t = task_of c.args.problem.now in
    let q = c.args.aim in
    let n = c.args.node in
    let open' : ℕ = c.without-open.result in
    let few : t.count ≤ 64 = c.args.problem.now.sized.2 in
    let shut : (open' ≡ 0) ⊎ (t.hands ≤ ones n.chosen) = elim c.else-open-ne0.branch [
      | else-open-ne0-via-then-open-ne0+else-chosen-problem w ↦ inr w.if-chosen-problem.false
      | else-open-ne0-via-else-open-ne0 w ↦ inl w.if-open-ne0.false
    ] in
    expanded_as t q n 0
    (λ s step pair l. closed_lies t q n open' few shut s step pair
    (known_lies t q n open' c.all_below.result (λ k h. c.all_below.ensures.all k (omega arith)) c.without-open.ensures.is s step pair l))
    (λ k h. absurd (nothing k h))
    c.settle.result c.settle.ensures
