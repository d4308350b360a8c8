-- What is sure between two masks stays sure as the masks draw together.
use Rattle.std.proofs.Common.{ℕ, inl, inr}
use Rattle.sets.specs.Sets.{Inside}
use Rattle.problem.specs.Actions.{Action}
use Rattle.problem.specs.Runs.{Goal}
use Rattle.regression.specs.Spans.{Reached, Unhurt, Helped, Rest, Fine, Sure, Idle, SomeIdle}
use Rattle.regression.proofs.Firing.{cuts_up, cuts_down, gives_up, gives_down, reads_down}

module _ (at : ℕ → Action) (lo hi lo' hi' : ℕ) (up : Inside lo lo') (down : Inside hi' hi) where
  reached_narrow : (step : ℕ) (q : Goal) → Reached at step q lo hi → Reached at step q lo' hi'
  reached_narrow step q r = (
    (
      (λ j hj k h c. r.0.0 j hj k h (cuts_down at lo hi lo' hi' up down j k c)),
      (λ k h. elim (r.0.1 k h) [ inl a ↦ inl (up k a) | inr g ↦ inr (g.0, g.1, gives_up at lo hi lo' hi' up down g.0 k g.2) ]),
    ),
    (
      (λ j hj k h g. r.1.0 j hj k h (gives_down at lo hi lo' hi' up down j k g)),
      (λ k h a. let g = r.1.1 k h (down k a) in (g.0, g.1, cuts_up at lo hi lo' hi' up down g.0 k g.2)),
    ),
  )

  unhurt_narrow : (i j : ℕ) → Unhurt at i j lo hi → Unhurt at i j lo' hi'
  unhurt_narrow i j u = (
    (λ k g c. u.0 k (gives_down at lo hi lo' hi' up down i k g) (cuts_down at lo hi lo' hi' up down j k c)),
    (λ k g c. u.1 k (reads_down at lo hi lo' hi' up down i k g) (cuts_down at lo hi lo' hi' up down j k c)),
  )

  helped_widen : (others c k : ℕ) → Helped at others c lo' hi' k → Helped at others c lo hi k
  helped_widen others c k h =
      (h.0, h.1, (λ x hx hc. h.2 x hx (cuts_up at lo hi lo' hi' up down h.0 x hc)), gives_down at lo hi lo' hi' up down h.0 k h.3)

  rest_narrow : (others c : ℕ) → Rest at others c lo hi → Rest at others c lo' hi'
  rest_narrow others c r all k hc n g =
      r (λ x hx. elim (all x hx) [ inl a ↦ inl (down x a) | inr y ↦ inr (helped_widen others c x y) ])
      k hc (λ a. n (up k a)) (helped_widen others c k g)

  fine_narrow : (step i : ℕ) → Fine at step i lo hi → Fine at step i lo' hi'
  fine_narrow step i f = (
    (λ k h. up k (f.0 k h)),
    ((λ j hj. unhurt_narrow i j (f.1.0 j hj)), (λ e m. rest_narrow _ e.condition (f.1.1 e m))),
  )

  pub sure_narrow : (step : ℕ) (q : Goal) → Sure at step q lo hi → Sure at step q lo' hi'
  sure_narrow step q s = ((λ i hi-in. fine_narrow step i (s.0 i hi-in)), reached_narrow step q s.1)

  idle_narrow : (i others : ℕ) (q : Goal) → Idle at i others q lo hi → Idle at i others q lo' hi'
  idle_narrow i others q d = (
    (λ k h n g. let r = d.0 k h (λ a. n (up k a)) (gives_down at lo hi lo' hi' up down i k g) in
        (r.0, r.1, gives_up at lo hi lo' hi' up down r.0 k r.2)),
    (λ k h a c. let r = d.1 k h (down k a) (cuts_down at lo hi lo' hi' up down i k c) in
        (r.0, r.1, cuts_up at lo hi lo' hi' up down r.0 k r.2)),
  )

  pub some_idle_narrow : (step : ℕ) (q : Goal) → SomeIdle at step q lo hi → SomeIdle at step q lo' hi'
  some_idle_narrow step q d = (d.0, d.1, idle_narrow d.0 _ q d.2)
