-- What a step does depends only on the atoms that a mask of 64 bits can hold.
use Rattle.std.proofs.Common.{◌≡◌, ℕ, ◌-◌, ◌^◌, ◌<◌, T, sym, ap, ◌∙◌, subst, inl, inr, arith}
use lib.Bits.{bit_and, bit_or, and_le_r}
use Rattle.sets.specs.Sets.{Has, Inside, Apart, minus}
use Rattle.sets.proofs.Bits.{bit_digit, bit_of_and, bit_of_or, bit_minus}
use Rattle.sets.proofs.Members.{all_marks, below_within}
use Rattle.problem.specs.Actions.{Among, fires, adds, deletes, cuts, gives, FireAlike}
use Rattle.problem.specs.Firm.{Task, FirmStep}
use Rattle.problem.specs.Calm.{Calm, Ends}
use Rattle.problem.specs.Runs.{Goal, Meets}
use Rattle.problem.specs.Problems.{Fits}
use Rattle.problem.specs.declared.rows.EffectRow.{EffectRow}
use Rattle.problem.proofs.Effects.{gather_alike, gather_from, fires_inside, inside_fires, same_tests, alike_all}
use Rattle.problem.proofs.CalmRuns.{calm_ends, ends_one}
use Rattle.problem.proofs.Running.{firm_by_sets, step_calm, step_lt}

-- the members below 64
unfoldable pub low : ℕ → ℕ
low s = bit_and s (2 ^ 64 - 1)

pub low_lt : (s : ℕ) → low s < 2 ^ 64
unfolding low
low_lt s = omega (arith, and_le_r s (2 ^ 64 - 1))

pub low_in : (s k : ℕ) → Has (low s) k → Has s k
unfolding low
low_in s k h = omega (arith, h, bit_of_and s (2 ^ 64 - 1) k, bit_digit s k, bit_digit (2 ^ 64 - 1) k)

pub low_has : (s k : ℕ) → k < 64 → Has s k → Has (low s) k
unfolding low
low_has s k lt h = omega (arith, h, bit_of_and s (2 ^ 64 - 1) k, (all_marks 64).all k lt)

-- a set below 2 ^ 64 does not tell a state from its members below 64
module _ (a : ℕ) (lt : a < 2 ^ 64) where
  pub inside_low : (s : ℕ) → Inside a s → Inside a (low s)
  inside_low s f k h = low_has s k (below_within 64 a lt k h) (f k h)

  pub apart_low : (s : ℕ) → Apart a (low s) → Apart a s
  apart_low s f k h m = f k h (low_has s k (below_within 64 a lt k h) m)

pub meets_low : (g : Goal) (s : ℕ) → g.need < 2 ^ 64 → Meets g s → Meets g (low s)
meets_low g s lt m = record { holds = inside_low g.need lt s m.holds; lacks = λ k h l. m.lacks k h (low_in s k l) }

pub low_meets : (g : Goal) (s : ℕ) → g.avoid < 2 ^ 64 → Meets g (low s) → Meets g s
low_meets g s lt m = record { holds = λ k h. low_in s k (m.holds k h); lacks = apart_low g.avoid lt s m.lacks }

module _ (t : Task) (fits : Fits t) (s step : ℕ) (known : (k : ℕ) → Has step k → k < t.count) where
  needed : (i k : ℕ) → Has step i → Has (t.at i).precondition k → k < 64
  needed i k hi h = omega (arith, fits.preconditions i (known i hi) k h, fits.few_atoms)

  conditioned : (i : ℕ) (e : EffectRow) (k : ℕ) → Has step i → Among e (t.at i).effects → Has e.condition k → k < 64
  conditioned i e k hi among h =
      omega (
        arith,
        fits.few_atoms,
        fits.effects i (known i hi) e among k
            (omega (arith, h, bit_of_or (bit_or e.condition e.add) e.delete k, bit_of_or e.condition e.add k, bit_digit e.add k, bit_digit e.delete k)),
      )

  fires_low : (i : ℕ) → Has step i → (e : EffectRow) → Among e (t.at i).effects → fires s e ≡ fires (low s) e
  fires_low i hi e among = same_tests (fires s e) (fires (low s) e)
      (λ f. inside_fires (low s) e (λ k h. low_has s k (conditioned i e k hi among h) (fires_inside s e f k h)))
      (λ f. inside_fires s e (λ k h. low_in s k (fires_inside (low s) e f k h)))

  alike : (i : ℕ) → Has step i → FireAlike (t.at i).effects s (low s)
  alike i hi = alike_all (t.at i).effects s (low s) (fires_low i hi)

  cuts_low : (i : ℕ) → Has step i → cuts t.at (low s) i ≡ cuts t.at s i
  cuts_low i hi = gather_alike (λ e. e.delete) s (low s) (t.at i).effects (alike i hi)

  gives_low : (i : ℕ) → Has step i → gives t.at (low s) i ≡ gives t.at s i
  gives_low i hi =
      ap (λ (x : ℕ). minus x (deletes (low s) (t.at i).effects)) (gather_alike (λ e. e.add) s (low s) (t.at i).effects (alike i hi))
      ∙ ap (λ (x : ℕ). minus (adds s (t.at i).effects) x) (cuts_low i hi)

  cut_to : (i k : ℕ) → Has step i → Has (cuts t.at (low s) i) k → Has (cuts t.at s i) k
  cut_to i k hi h = subst (λ (x : ℕ). Has x k) (cuts_low i hi) h

  cut_from : (i k : ℕ) → Has step i → Has (cuts t.at s i) k → Has (cuts t.at (low s) i) k
  cut_from i k hi h = subst (λ (x : ℕ). Has x k) (sym (cuts_low i hi)) h

  give_to : (i k : ℕ) → Has step i → Has (gives t.at (low s) i) k → Has (gives t.at s i) k
  give_to i k hi h = subst (λ (x : ℕ). Has x k) (gives_low i hi) h

  give_from : (i k : ℕ) → Has step i → Has (gives t.at s i) k → Has (gives t.at (low s) i) k
  give_from i k hi h = subst (λ (x : ℕ). Has x k) (sym (gives_low i hi)) h

  fire_to : (i : ℕ) → Has step i → (e : EffectRow) → Among e (t.at i).effects → T (fires (low s) e) → T (fires s e)
  fire_to i hi e among f = subst T (sym (fires_low i hi e among)) f

  fire_from : (i : ℕ) → Has step i → (e : EffectRow) → Among e (t.at i).effects → T (fires s e) → T (fires (low s) e)
  fire_from i hi e among f = subst T (fires_low i hi e among) f

  pub calm_low : Calm t.at s step → Calm t.at (low s) step
  calm_low c = record {
    ready = λ i hi k h. low_has s k (needed i k hi h) (c.ready i hi k h);
    clash = λ i j hi hj ne k g d. c.clash i j hi hj ne k (give_to i k hi g) (cut_to j k hj d);
    needs = λ i j hi hj ne k h d. c.needs i j hi hj ne k h (cut_to j k hj d);
    holds = λ i j hi hj ne e among f k h d. c.holds i j hi hj ne e among (fire_to i hi e among f) k h (cut_to j k hj d);
    rests = λ i hi e among rest hyp. c.rests i hi e among (λ f. rest (fire_from i hi e among f)) (λ k h. elim (hyp k h) [
      | inl a ↦ inl (low_in s k a)
      | inr g ↦ inr (g.0, g.1, g.2, (λ m hm d. g.3 m hm (cut_from g.0 m g.1 d)), give_to g.0 k g.1 g.4)
    ]);
  }

  pub low_calm : Calm t.at (low s) step → Calm t.at s step
  low_calm c = record {
    ready = λ i hi k h. low_in s k (c.ready i hi k h);
    clash = λ i j hi hj ne k g d. c.clash i j hi hj ne k (give_from i k hi g) (cut_from j k hj d);
    needs = λ i j hi hj ne k h d. c.needs i j hi hj ne k h (cut_from j k hj d);
    holds = λ i j hi hj ne e among f k h d. c.holds i j hi hj ne e among (fire_from i hi e among f) k h (cut_from j k hj d);
    rests = λ i hi e among rest hyp. c.rests i hi e among (λ f. rest (fire_to i hi e among f)) (λ k h. elim (hyp k h) [
      | inl a ↦ inl (low_has s k (conditioned i e k hi among h) a)
      | inr g ↦ inr (g.0, g.1, g.2, (λ m hm d. g.3 m hm (cut_to g.0 m g.1 d)), give_from g.0 k g.1 g.4)
    ]);
  }

  -- what an action gives is an atom of the task
  given_below : (i k : ℕ) → Has step i → Has (gives t.at s i) k → k < 64
  given_below i k hi h =
      let es = (t.at i).effects in
      let added : Has (adds s es) k = omega (arith, h, bit_minus (adds s es) (deletes s es) k, bit_digit (adds s es) k) in
      let r = gather_from (λ e. e.add) s k es added in
      let e : EffectRow = r.0 in
      omega (
        arith,
        fits.few_atoms,
        fits.effects i (known i hi) e r.1 k
            (omega (arith, r.3, bit_of_or (bit_or e.condition e.add) e.delete k, bit_of_or e.condition e.add k, bit_digit e.condition k, bit_digit e.delete k)),
      )

  pub ends_low : (end : ℕ) → Ends t.at s step end → Ends t.at (low s) step (low end)
  ends_low end d = record {
    source = λ k h. elim (d.source k (low_in end k h)) [
      | inl a ↦ inl (low_has s k (below_within 64 (low end) (low_lt end) k h) a)
      | inr g ↦ inr (g.0, g.1, give_from g.0 k g.1 g.2)
    ];
    gone = λ j hj k c h. d.gone j hj k (cut_to j k hj c) (low_in end k h);
    stays = λ k h f. low_has end k (below_within 64 (low s) (low_lt s) k h) (d.stays k (low_in s k h) (λ j hj c. f j hj (cut_from j k hj c)));
    given = λ j hj k h. low_has end k (given_below j k hj (give_to j k hj h)) (d.given j hj k (give_to j k hj h));
  }

-- a step that is firm in a state is firm in its part below 64, and ends alike there
pub firm_low : (t : Task) → Fits t → (s step end : ℕ) → FirmStep t s step end → FirmStep t (low s) step (low end)
firm_low t fits s step end f =
    let c = step_calm t s step end fits.few_actions f in
    let known = f.allowed.known in
    record {
      allowed = f.allowed;
      firm = (firm_by_sets t.at (low s) step (low end) (step_lt t s step end fits.few_actions f)).1
          (calm_low t fits s step known c.0, ends_low t fits s step known end c.1);
    }

-- and the other way round
pub low_firm : (t : Task) → Fits t → (s step end : ℕ) → FirmStep t (low s) step end → (end' : ℕ) × FirmStep t s step end' × (low end' ≡ end)
low_firm t fits s step end f =
    let c = step_calm t (low s) step end fits.few_actions f in
    let known = f.allowed.known in
    let lt : step < 2 ^ 64 = step_lt t (low s) step end fits.few_actions f in
    let calm : Calm t.at s step = low_calm t fits s step known c.0 in
    let e = calm_ends t.at s step calm lt in (
      e.0,
      record { allowed = f.allowed; firm = (firm_by_sets t.at s step e.0 lt).1 (calm, e.1) },
      ends_one t.at (low s) step c.0 (low e.0) end (ends_low t fits s step known e.0 e.1) c.1,
    )
