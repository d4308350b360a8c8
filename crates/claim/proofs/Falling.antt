-- What falls by the promise of plan alone.
use Rattle.std.proofs.Common.{◌≡◌, ℕ, suc, ◌≤◌, ◌⊎◌, List, [], ◌∷◌, length, sym, refl, ap, ◌∙◌, subst, inl, inr, ⊎_elim, arith}
use Rattle.problem.specs.Firm.{Task}
use Rattle.problem.specs.Runs.{Leads, Meets}
use Rattle.store.specs.Positions.{Target, at, Covers}
use Rattle.store.specs.Stores.{Meaning}
use Rattle.store.specs.declared.answer.Answer.TheVariants.{Known, Kept, PassedOver}
use Rattle.outlook.specs.Outlooks.{View}
use Rattle.claim.specs.Search.{Question, Dropped, Open, Next, Event, opened, told, WasTold, opened_in, Search, begins, drops, opens, tells, passed_in, KeptCovers}
use Rattle.claim.specs.Turns.{Ends, Searched, Closed, Answers}
use Rattle.claim.specs.Claim.{WasOpened}
use Rattle.claim.specs.Falls.{AllRuledOut, NotIdle, NotEarly, NotInvented, NotBusy, NotRepeated, NotCopied, NotBlind}
use Rattle.claim.specs.declared.outcome.Outcome.{Outcome}
use Rattle.claim.specs.declared.outcome.Outcome.TheVariants.{Plan, Never, NotWithin, Spent}
use Rattle.claim.specs.declared.report.Report.{Report}
use Rattle.claim.proofs.Opening.{Chain}
use Rattle.claim.proofs.Searching.{chain, never_known, sums, kept_grows, passed_grows, covers_all, begun, failed, entered}
use Rattle.claim.proofs.Answering.{found, plan_written, passed_is, sum_of, in_budget}

-- "never" is no other outcome
pub plan_not_never : Plan ≡ Never → ⊥
plan_not_never e = let z : ◌≡◌ {A = ℕ} 0 1 = cc in omega arith

pub not_within_not_never : NotWithin ≡ Never → ⊥
not_within_not_never e = let z : ◌≡◌ {A = ℕ} 0 1 = cc in omega arith

spent_not_never : Spent ≡ Never → ⊥
spent_not_never e = let z : ◌≡◌ {A = ℕ} 0 1 = cc in omega arith

some_not_none : {A : Type 0} (x : A) (xs : List A) → x ∷ xs ≡ [] → ⊥
some_not_none x xs e = let z : ◌≡◌ {A = ℕ} 0 1 = cc in omega arith

opened_some : (q : Target) (log : List Event) → WasOpened q log → 1 ≤ opened_in log
opened_some q [] w = absurd w
opened_some q (opened step r ∷ log) w = omega arith
opened_some q (told r b ∷ log) w = opened_some q log w

chain_low : (n : ℕ) (st : List Open) → Chain n st → 1 ≤ length st → 1 ≤ n
chain_low n [] c h = absurd (let z : ⊥ = omega arith in z)
chain_low n (f ∷ fs) c h = omega (arith, c.0, c.1)

module _ {p : Task} {v : View} {a : Question} {m₀ : Meaning} where
  -- where every level was ruled out, no goal is due
  none_due : AllRuledOut v a m₀ → {n : ℕ} {log : List Event} {m : Meaning} → Search p v a m₀ n [] log m
      → (step : ℕ) (q : Target) → Next p v a m n [] step q → ⊥
  none_due out {n} {m} s step q y =
      y.3 (subst (λ (z : Target). Dropped v m z) (sym y.2)
      (⊎_elim (λ c. inr (covers_all s (at (suc n) a.goal) (inl c))) (λ b. inl b) (out (suc n) (omega arith) y.0)))

  -- and so nothing happens
  nothing : AllRuledOut v a m₀ → {n : ℕ} {st : List Open} {log : List Event} {m : Meaning} → Search p v a m₀ n st log m
      → (st ≡ []) × (opened_in log ≡ 0)
  nothing out begins = (refl, refl)
  nothing out (drops s lt fails d) = (refl, (nothing out s).1)
  nothing out (opens {st = []} step q s lt x) = absurd (none_due out s step q x)
  nothing out (opens {st = f ∷ fs} step q s lt x) = absurd (some_not_none _ _ (nothing out s).0)
  nothing out (tells f b m' s ex t) = absurd (some_not_none _ _ (nothing out s).0)

  -- the first state is no answer where one more position is due
  not_at_hand : (n : ℕ) (st : List Open) {log : List Event} {m : Meaning} → Search p v a m₀ n st log m → (step : ℕ) (q : Target)
      → Next p v a m n st step q → Meets a.goal p.first → ⊥
  not_at_hand n [] s step q x = x.1
  not_at_hand n (f ∷ fs) s step q x = begun s (chain_low n (f ∷ fs) (chain s).0 (omega arith))

  -- nor is every level ruled out
  some_left : (n : ℕ) (st : List Open) {log : List Event} {m : Meaning} → Search p v a m₀ n st log m → (step : ℕ) (q : Target)
      → Next p v a m n st step q → AllRuledOut v a m₀ → ⊥
  some_left n [] s step q x out = none_due out s step q x
  some_left n (f ∷ fs) s step q x out = some_not_none _ _ (nothing out s).0

  -- if none was passed over, all that were told were kept
  all_kept : {n : ℕ} {st : List Open} {log : List Event} {m : Meaning} → Search p v a m₀ n st log m → passed_in log ≡ 0
      → (q : Target) → WasTold q log → KeptCovers log q
  all_kept begins z q w = absurd w
  all_kept (drops s lt fails d) z q w = all_kept s z q w
  all_kept (opens step r s lt x) z q w = all_kept s z q w
  all_kept (tells f Known m' s ex t) z q w = absurd (never_known f s t)
  all_kept (tells f Kept m' s ex t) z q (inl e) =
      inl (subst (λ (x : Target). Covers f.position x) (sym e) (record { level = omega arith; need = λ _ h. h; avoid = λ _ h. h }))
  all_kept (tells f Kept m' s ex t) z q (inr w) = inr (all_kept s z q w)
  all_kept (tells f PassedOver m' s ex t) z q w = absurd (let y : ⊥ = omega arith in y)

  -- a search that opens nothing has a reason
  reason : (out : Outcome) (n : ℕ) (st : List Open) {log : List Event} {m : Meaning} (plan : List ℕ) → Search p v a m₀ n st log m
      → Ends p v a out n st log m plan
      → opened_in log ≡ 0 → Meets a.goal p.first ⊎ AllRuledOut v a m₀ ⊎ (a.budget ≡ 0)
  reason Plan n [] plan s e z = inl e.0
  reason Plan n (f ∷ fs) plan s e z = absurd (let y : ⊥ = omega (arith, sums s) in y)
  reason Never n st plan s e z = absurd e
  reason NotWithin n st {log} plan s e z =
      inr (inl (λ k low high.
      elim (entered s k low (omega (arith, e.2))) [
        | inl r ↦ r
        | inr w ↦ absurd (let y : ⊥ = omega (arith, opened_some (at k a.goal) log w) in y)
      ]))
  reason Spent n st plan s e z = inr (inr (omega (arith, e.1)))

module _ {p : Task} {v : View} {a : Question} {r : Report} {old new : List ℕ} {m m' : Meaning} where
  -- an answer is "never", by the closing level, or that of a search
  by_search : (out : Outcome) → Answers p v a out r old new m m'
      → ((out ≡ Never) × Closed v a r old new m m') ⊎ ((out ≡ Never → ⊥) × Searched p v a r old new m m')
  by_search Plan h = inr (plan_not_never, h)
  by_search Never h = inl (refl, h)
  by_search NotWithin h = inr (not_within_not_never, h)
  by_search Spent h = inr (spent_not_never, h)

  -- another answer than "never" is that of a search, which ends so
  other : (out : Outcome) → (out ≡ Never → ⊥) → r.outcome ≡ out → Answers p v a r.outcome r old new m m'
      → (h : Searched p v a r old new m m') × Ends p v a out h.round h.st h.log m' h.plan
  other out ne e x = elim (by_search r.outcome x) [
    | inl c ↦ absurd (ne (sym e ∙ c.0))
    | inr h ↦ (h.1, subst (λ (y : Outcome). Ends p v a y h.1.round h.1.st h.1.log m' h.1.plan) e h.1.ends)
  ]

module _ (p : Task) (v : View) (a : Question) (r : Report) (old new : List ℕ) (m m' : Meaning) where
  busy : Answers p v a r.outcome r old new m m' → AllRuledOut v a m → (r.opened ≡ 0) × (m'.kept ≡ m.kept) × (m'.passed ≡ m.passed)
  busy x out = elim (by_search r.outcome x) [
    | inl c ↦ (c.1.none.opened, ap (λ (y : Meaning). y.kept) c.1.alike, ap (λ (y : Meaning). y.passed) c.1.alike)
    | inr w ↦ (
        let h : Searched p v a r old new m m' = w.1 in
        let z = (nothing out h.search).1 in
        let s = sums h.search in
        (omega (arith, h.opened), omega (arith, kept_grows h.search), omega (arith, passed_grows h.search)))
  ]

  -- after a "not within" that passed nothing over, every level is ruled out
  all_out : r.outcome ≡ NotWithin → r.passed_over ≡ 0 → Answers p v a r.outcome r old new m m' → AllRuledOut v a m'
  all_out e z x n low high =
      let w = other NotWithin not_within_not_never e x in
      let h : Searched p v a r old new m m' = w.0 in
      let s : Search p v a m a.limit [] h.log m' = rw (w.1.1, w.1.2) at h.search in
      elim (failed s n low high) [
        | inl (inl c) ↦ inl (covers_all s (at n a.goal) (inl c))
        | inl (inr b) ↦ inr b
        | inr t ↦ inl (covers_all s (at n a.goal) (inr (all_kept s (sym (passed_is r old new h) ∙ z) (at n a.goal) t)))
      ]

pub not_idle : NotIdle
not_idle p v a r old new m m' x z = elim (by_search r.outcome x.1) [
  | inl c ↦ inl c.1.shut
  | inr w ↦ inr (let h : _ = w.1 in reason r.outcome h.round h.st h.plan h.search h.ends (sym h.opened ∙ z))
]

pub not_early : NotEarly
not_early p v a r old new m m' x e =
    let w = other Spent spent_not_never e x.1 in
    let h : Searched p v a r old new m m' = w.0 in
    let n = w.1.2 in (
      h.opened ∙ w.1.1,
      not_at_hand h.round h.st h.search n.0 n.1 n.2,
      some_left h.round h.st h.search n.0 n.1 n.2,
    )

pub not_invented : NotInvented
not_invented p v a r old new m m' x = elim (by_search r.outcome x.1) [
  | inl c ↦ (
      let n = c.1.none in
      let k = ap (λ (y : Meaning). y.kept) c.1.alike in
      let l = ap (λ (y : Meaning). y.passed) c.1.alike in
      (omega (arith, n.opened, n.kept, n.passed, n.left), omega (arith, n.opened), omega (arith, n.kept), omega (arith, n.passed)))
  | inr w ↦ (sum_of r old new w.1, in_budget r old new w.1, w.1.kept, w.1.passed)
]

pub not_busy : NotBusy
not_busy p v a r old new m m' x = busy p v a r old new m m' x.1

pub not_repeated : NotRepeated
not_repeated p v a r r' old new old' new' m m' m'' x x' e z = (busy p v a r' old' new' m' m'' x'.1 (all_out p v a r old new m m' e z x.1)).0

pub not_copied : NotCopied
not_copied p v a r old new m m' x e =
    let w = other Plan plan_not_never e x.1 in
    let h : Searched p v a r old new m m' = w.0 in
    let l = (found h.st h.plan h.search w.1).2 in
    (l.0, subst (λ (y : List ℕ). Leads p p.first y l.0) (sym (plan_written r old new h)) l.1, l.2)

pub not_blind : NotBlind
not_blind p v a r old new m m' x = elim (by_search r.outcome x.1) [
  | inl c ↦ ((λ _. c.0), (λ _. c.1.shut))
  | inr w ↦ ((λ s. absurd (w.1.not_shut s)), (λ e. absurd (w.0 e)))
]
