-- After a firm run of n steps the state is together in level n.
use Rattle.std.proofs.Common.{◌≡◌, ℕ, ◌^◌, ◌<◌, T, ◌≢◌, sym, refl, ap, subst, inl, inr, arith}
use lib.Bits.{bit_or}
use Rattle.sets.specs.Sets.{Has}
use Rattle.sets.proofs.Bits.{bit_digit, bit_of_or, bit_minus, has?}
use Rattle.sets.proofs.Members.{within_below}
use Rattle.problem.specs.Actions.{Action, Among, fires, adds, deletes, cuts, gives}
use Rattle.problem.specs.Firm.{Task}
use Rattle.problem.specs.Calm.{Calm, Ends}
use Rattle.problem.specs.Runs.{start, more}
use Rattle.problem.specs.Problems.{Fits}
use Rattle.problem.specs.declared.rows.EffectRow.{EffectRow}
use Rattle.problem.proofs.Effects.{fires_inside, gather_from, gather_has, empty_fires}
use Rattle.problem.proofs.Listed.{firm_every}
use Rattle.problem.proofs.FirmCalm.{firm_calm, firm_ends}
use Rattle.graph.specs.Levels.{Level, Node, action, noop, SurelyAdds, SurelyDeletes, Needs, Together, Supports, Hurts, Clash, next, level}
use Rattle.graph.specs.Theorems.{LevelsSound}

-- what an action surely deletes it cuts in every state, and what it surely adds it gives in every state
sure_cut : (at : ℕ → Action) (s i f : ℕ) → SurelyDeletes (at i).effects f → Has (cuts at s i) f
sure_cut at s i f h =
    let e = h.deletes.0 in
    gather_has (λ e. e.delete) s f (at i).effects e h.deletes.1 (empty_fires s e h.deletes.2) h.deletes.3

sure_give : (at : ℕ → Action) (s i f : ℕ) → SurelyAdds (at i).effects f → Has (gives at s i) f
sure_give at s i f h =
    let e = h.adds.0 in
    let a : Has (adds s (at i).effects) f = gather_has (λ e. e.add) s f (at i).effects e h.adds.1 (empty_fires s e h.adds.2) h.adds.3 in
    let n : Has (deletes s (at i).effects) f → ⊥ = λ c. let r = gather_from (λ e. e.delete) s f (at i).effects c in h.spares r.0 r.1 r.3 in
    omega (arith, a, bit_minus (adds s (at i).effects) (deletes s (at i).effects) f, bit_digit (deletes s (at i).effects) f)

-- what an action gives, an effect that fires adds
give_added : (at : ℕ → Action) (s i f : ℕ) → Has (gives at s i) f → Has (adds s (at i).effects) f
give_added at s i f h =
    omega (arith, h, bit_minus (adds s (at i).effects) (deletes s (at i).effects) f, bit_digit (adds s (at i).effects) f)

-- one step
module _ (t : Task) (l : Level) (s step end : ℕ) (in-l : Together l s) (known : (k : ℕ) → Has step k → k < t.count)
    (calm : Calm t.at s step) (ends : Ends t.at s step end) where
  -- the node takes part in the step: an action of it, or the no-op of an atom that is there before and after
  Part : Node → Type 0
  Part (action k) = Has step k
  Part (noop f) = Has s f × Has end f

  part_needs : (x : Node) → Part x → (f : ℕ) → Needs t x f → Has s f
  unfolding Part
  part_needs (action k) p f h = calm.ready k p f h
  part_needs (noop g) p f h = subst (λ (y : ℕ). Has s y) (sym h) p.0

  unhurt : (x y : Node) → Part x → Part y → x ≢ y → Hurts t x y → ⊥
  unfolding Part
  unhurt (noop g) y p q ne h = h.1
  unhurt (action i) (noop g) p q ne h =
      let f : ℕ = h.0 in
      let cut : Has (cuts t.at s i) f = sure_cut t.at s i f h.1 in
      let e : f ≡ g = elim h.2 [ inl a ↦ a | inr a ↦ a ] in
      ends.gone i p f cut (subst (λ (y : ℕ). Has end y) (sym e) q.1)
  unhurt (action i) (action j) p q ne h =
      let f : ℕ = h.0 in
      let cut : Has (cuts t.at s i) f = sure_cut t.at s i f h.1 in
      let other : j ≢ i = λ e. ne (ap action (sym e)) in
      elim h.2 [
        | inl a ↦ calm.needs j i q p other f a cut
        | inr a ↦ calm.clash j i q p other f (sure_give t.at s j f a) cut
      ]

  no_clash : (x y : Node) → Part x → Part y → Clash t l x y → ⊥
  no_clash x y p q c = elim c.1 [
    | inl h ↦ unhurt x y p q c.0 h
    | inr r ↦ elim r [
      | inl h ↦ unhurt y x q p (λ e. c.0 (sym e)) h
      | inr h ↦ in-l.free h.0 h.1 (part_needs x p h.0 h.2) (part_needs y q h.1 h.3) h.4
    ]
  ]

  -- an action of the step supports what an effect adds that fires
  adder : (j f : ℕ) → Has step j → (e : EffectRow) × Among e (t.at j).effects × T (fires s e) × Has e.add f → Supports t l (action j) f
  adder j f h r =
      let e : EffectRow = r.0 in
      let both : (k : ℕ) → Has (bit_or (t.at j).precondition e.condition) k → Has s k =
      λ k b. elim (has? (t.at j).precondition k) [
        | yes y ↦ calm.ready j h k y
        | no z ↦ fires_inside s e r.2 k (omega (
          arith,
          b,
          bit_of_or (t.at j).precondition e.condition k,
          bit_digit (t.at j).precondition k,
          bit_digit e.condition k,
        ))
      ] in (
        known j h,
        (
          e,
          r.1,
          r.3,
          record {
            facts = λ k b. in-l.facts k (both k b);
            free = λ k m b c. in-l.free k m (both k b) (both m c);
          },
        ),
      )

  -- each atom of the end has a supporter that takes part
  supporter : (f : ℕ) → Has end f → (x : Node) × Part x × Supports t l x f
  unfolding Part
  supporter f h = elim (has? s f) [
    | yes a ↦ (noop f, (a, h), (refl, in-l.facts f a))
    | no n ↦ elim (ends.source f h) [
      | inl a ↦ absurd (n a)
      | inr g ↦ (
        action g.0,
        g.1,
        adder g.0 f g.1 (gather_from (λ e. e.add) s f (t.at g.0).effects (give_added t.at s g.0 f g.2)),
      )
    ]
  ]

  step_sound : Together (next t l) end
  step_sound = record {
    facts = λ f h. let x = supporter f h in (x.0, x.2);
    free = λ f g hf hg ex.
        let x = supporter f hf in
        let y = supporter g hg in
        no_clash x.0 y.0 x.1 y.1 (ex.clash x.0 y.0 x.2 y.2);
  }

-- a set of actions of a task fits 64 bits
step_fits : (t : Task) (step : ℕ) → Fits t → ((k : ℕ) → Has step k → k < t.count) → step < 2 ^ 64
step_fits t step fits known = within_below 64 step (λ k h. omega (arith, known k h, fits.few_actions))

pub levels_sound : LevelsSound
levels_sound t fits n s start = record { facts = λ f h. h; free = λ f g _ _ z. z }
levels_sound t fits n s (more {n = k} {before = before} step end run firm) =
    let lt : step < 2 ^ 64 = step_fits t step fits firm.allowed.known in
    let every = firm_every t.at before step end firm.firm in
    step_sound t (level t k) before step end (levels_sound t fits k before run) firm.allowed.known
    (firm_calm t.at before step end lt every) (firm_ends t.at before step end lt every)
