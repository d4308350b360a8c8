-- Laws of firm steps and firm runs.
use Rattle.std.proofs.Common.{◌≡◌, ℕ, zero, suc, ◌+◌, ◌-◌, ◌^◌, ◌<◌, ◌≤◌, List, [], ◌∷◌, ◌++◌, length, sym, refl, subst, inl, inr, add-zero, add-suc, arith}
use lib.Bits.{bit_or}
use lib.Count.{ones-le}
use Rattle.std.proofs.lemmas.List.{length_push}
use Rattle.sets.specs.Sets.{Has, Within}
use Rattle.sets.proofs.Bits.{bit_of_or, bit_digit, bit_minus}
use Rattle.sets.proofs.Members.{within_below, inside_lt, ones_mono, not_in_none}
use Rattle.problem.specs.Actions.{Action, adds, deletes}
use Rattle.problem.specs.Firm.{Task, Firm, FirmStep}
use Rattle.problem.specs.Calm.{Calm, Ends}
use Rattle.problem.specs.Runs.{Run, start, more, Leads}
use Rattle.problem.specs.Problems.{Fits}
use Rattle.problem.specs.Theorems.{FirmBySets, PartsFirm, OneEnd, EmptyFirm, RunsPadded, RunsWithin, RunsListed}
use Rattle.problem.proofs.Effects.{gather_from}
use Rattle.problem.proofs.Listed.{every_firm, firm_every}
use Rattle.problem.proofs.CalmRuns.{calm_every, ends_one}
use Rattle.problem.proofs.FirmCalm.{firm_calm, firm_ends, part_firm}

pub firm_by_sets : FirmBySets
firm_by_sets at s step end lt = (
  (λ f. let e = firm_every at s step end f in (firm_calm at s step end lt e, firm_ends at s step end lt e)),
  λ c. every_firm at s step end (calm_every at s step c.0 end c.1),
)

-- a step of a task with at most 64 actions is a mask of 64 bits
pub step_fits : (t : Task) (step : ℕ) → t.count ≤ 64 → ((k : ℕ) → Has step k → k < t.count) → step < 2 ^ 64
step_fits t step few known = within_below 64 step (λ k h. omega (arith, known k h))

pub step_lt : (t : Task) (s step end : ℕ) → t.count ≤ 64 → FirmStep t s step end → step < 2 ^ 64
step_lt t s step end few f = step_fits t step few f.allowed.known

-- a firm step by sets
pub step_calm : (t : Task) (s step end : ℕ) → t.count ≤ 64 → FirmStep t s step end → Calm t.at s step × Ends t.at s step end
step_calm t s step end few f = (firm_by_sets t.at s step end (step_lt t s step end few f)).0 f.firm

pub parts_firm : PartsFirm
parts_firm t s step part end few sub f =
    let lt : step < 2 ^ 64 = step_lt t s step end few f in
    let p = part_firm t.at s step part end lt (inside_lt part step sub lt) sub (firm_every t.at s step end f.firm) in (
      p.0,
      record {
        allowed = record { known = λ k h. f.allowed.known k (sub k h); few = omega (arith, f.allowed.few, ones_mono part step sub) };
        firm = every_firm t.at s part p.0 p.1;
      },
    )

pub one_end : OneEnd
one_end t s step end end' few f g =
    let c = step_calm t s step end few f in
    ends_one t.at s step c.0 end end' c.1 (step_calm t s step end' few g).1

-- only the empty list is an order of the empty step
empty_order : (at : ℕ → Action) (s : ℕ) → Firm at s 0 s
empty_order at s [] o = refl
empty_order at s (k ∷ ks) o = absurd (not_in_none 0 k refl (o.only k (inl refl)))

pub empty_firm : EmptyFirm
empty_firm t s = record {
  allowed = record { known = λ k h. absurd (not_in_none 0 k refl h); few = omega (arith, ones-le 0 0 (omega arith)) };
  firm = empty_order t.at s;
}

padded : (t : Task) (d k s : ℕ) → Run t k s → Run t (k + d) s
padded t zero k s r = subst (λ (n : ℕ). Run t n s) (sym (add-zero k)) r
padded t (suc d) k s r = subst (λ (n : ℕ). Run t n s) (sym (add-suc k d)) (more 0 s (padded t d k s r) (empty_firm t s))

pub runs_padded : RunsPadded
runs_padded t k n s le r = let e : k + (n - k) ≡ n = omega arith in subst (λ (x : ℕ). Run t x s) e (padded t (n - k) k s r)

-- a firm step from a state of the task's atoms ends in one
pub step_within : (t : Task) → Fits t → (s step end : ℕ) → Within t.atoms s → FirmStep t s step end → Within t.atoms end
step_within t fits s step end inside f k h =
    let ends : Ends t.at s step end = (step_calm t s step end fits.few_actions f).1 in
    elim (ends.source k h) [
      | inl a ↦ inside k a
      | inr g ↦ (
          let j : ℕ = g.0 in
          let es = (t.at j).effects in
          let added : Has (adds s es) k = omega (arith, g.2, bit_minus (adds s es) (deletes s es) k, bit_digit (adds s es) k) in
          let r = gather_from (λ e. e.add) s k es added in
          let e = r.0 in
          fits.effects j (f.allowed.known j g.1) e r.1 k
          (omega (
            arith,
            r.3,
            bit_of_or (bit_or e.condition e.add) e.delete k,
            bit_of_or e.condition e.add k,
            bit_digit e.condition k,
            bit_digit e.delete k,
          )))
    ]

pub runs_within : RunsWithin
runs_within t fits _ _ start = fits.first
runs_within t fits _ _ (more {before = b} step end r f) = step_within t fits b step end (runs_within t fits _ b r) f

-- one step more at the end of a list
pub leads_push : (t : Task) (steps : List ℕ) (s mid step end : ℕ) → Leads t s steps mid → FirmStep t mid step end → Leads t s (steps ++ step ∷ []) end
leads_push t [] s mid step end l f = (end, subst (λ (x : ℕ). FirmStep t x step end) (sym l) f, refl)
leads_push t (x ∷ xs) s mid step end l f = (l.0, l.1, leads_push t xs l.0 mid step end l.2 f)

run_lists : (t : Task) (n s : ℕ) → Run t n s → (steps : List ℕ) × (length steps ≡ n) × Leads t t.first steps s
run_lists t _ _ start = ([], refl, refl)
run_lists t _ _ (more {n = n} {before = b} step end r f) =
    let l = run_lists t n b r in
    (l.0 ++ step ∷ [], omega (arith, length_push l.0 step, l.1), leads_push t l.0 t.first b step end l.2 f)

-- a run goes on along a list
pub run_along : (t : Task) (steps : List ℕ) (k s end : ℕ) → Run t k s → Leads t s steps end → Run t (k + length steps) end
run_along t [] k s end r l = subst (λ (n : ℕ). Run t n end) (sym (add-zero k)) (subst (λ (x : ℕ). Run t k x) l r)
run_along t (step ∷ steps) k s end r l =
    let e : suc k + length steps ≡ k + length (step ∷ steps) = omega arith in
    subst (λ (n : ℕ). Run t n end) e (run_along t steps (suc k) l.0 end (more step l.0 r l.1) l.2)

pub runs_listed : RunsListed
runs_listed t n s = (
  run_lists t n s,
  λ l. let e : 0 + length l.0 ≡ n = omega (arith, l.1) in
      subst (λ (x : ℕ). Run t x s) e (run_along t l.0 0 t.first s start l.2),
)
