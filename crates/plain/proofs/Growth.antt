-- One step taken out of an entry.
use Rattle.std.proofs.Common.{◌≡◌, ℕ, ◌+◌, ◌<◌, ◌≤◌, true, false, List, [], ◌∷◌, ◌++◌, length, get_or, vec_len, refl, ap, subst, ⊎_elim, arith}
use Rattle.std.proofs.lemmas.List.{length_push}
use Rattle.sets.specs.Sets.{Within}
use Rattle.problem.specs.Firm.{Task, FirmStep}
use Rattle.problem.specs.Problems.{Fits}
use Rattle.problem.specs.Runs.{start, more}
use Rattle.plain.specs.Trees.{entry, Grown, Seen, Front}
use Rattle.plain.specs.Growth.{rows_of, Growing, Remembered, Unremembered, Stops, Taken, Reaches}
use Rattle.plain.specs.declared.reached.Reached.{Reached}
use Rattle.plain.specs.declared.tree.Stop.{Stop}
use Rattle.plain.specs.declared.tree.Stop.TheVariants.{Full, NoMemory}
use Rattle.plain.specs.declared.tree.Tree.{Tree}
use Rattle.problem.proofs.Running.{runs_within}
use Rattle.plain.proofs.Trees.{entry_read, entry_new, front_same, front_push, known_seen, known_push, grown_none, grown_push, entry_run}
use Rattle.plain.proofs.Crowds.{crowded}

-- there is no room for the first state
pub stops_root : (t : Task) (limit most : ℕ) (a : Tree) (e : Reached) → rows_of a ≡ []
    → (stop : Stop) → Unremembered most a e stop → Stops t limit most stop
stops_root t limit most a e none Full u =
    crowded t limit most [] 0 t.first (grown_none t limit) (omega (arith, u.1, a.reached.ok.0, ap length none))
    (λ h. absurd (let z : ⊥ = omega (arith, h.1.0) in z)) (omega arith) start
stops_root t limit most a e none NoMemory u = tt

-- the same tree
pub growing_same : (t : Task) (limit most : ℕ) (a b : Tree) (i : ℕ) → rows_of b ≡ rows_of a → vec_len b.reached ≡ vec_len a.reached
    → Growing t limit most a i → Growing t limit most b i
growing_same t limit most a b i same len g = record {
  sound = record { grown = rw same g.sound.grown; within = rw len g.sound.within };
  known = rw same g.known;
  ahead = rw same g.ahead;
}

module _ (t : Task) (limit most : ℕ) (a : Tree) (i : ℕ) (x : Reached) (g : Growing t limit most a i) (read : x ≡ get_or (rows_of a) i x) where
  same_entry : x ≡ entry (rows_of a) i
  same_entry = entry_read (rows_of a) i x g.known read

  -- a step that is not firm is not taken
  pub not_firm : (step : ℕ) → Fits t → (Within t.atoms x.state → (end : ℕ) → FirmStep t x.state step end → ⊥)
      → Taken t limit (rows_of a) (entry (rows_of a) i) step false
  not_firm step fits h lt end f =
      subst (λ (y : Reached). Within t.atoms y.state → (end : ℕ) → FirmStep t y.state step end → ⊥) same_entry h
      (runs_within t fits _ _ (entry_run t limit (rows_of a) g.sound.grown i g.known)) end f

  module _ (step end : ℕ) (firm : FirmStep t x.state step end) (lt : x.depth < limit) where
    -- what is remembered of the step
    abbrev next : Reached
    next = record { state = end; from = i; step = step; depth = x.depth + 1 }

    out : FirmStep t (entry (rows_of a) i).state step end
    out = subst (λ (y : Reached). FirmStep t y.state step end) same_entry firm

    deeper : x.depth + 1 ≡ (entry (rows_of a) i).depth + 1
    deeper = ap (λ (y : Reached). y.depth + 1) same_entry

    ahead : (j : ℕ) → j < length (rows_of a) → (entry (rows_of a) j).depth ≤ x.depth + 1
    ahead j l = omega (arith, g.ahead j l, deeper)

    grown_next : (Seen (rows_of a) end → ⊥) → Grown t limit (rows_of a ++ next ∷ [])
    grown_next fresh =
        grown_push (rows_of a) next t limit g.sound.grown (record { earlier = g.known; deeper = deeper; firm = out }) (omega arith) ahead fresh

    pub stops_out : (stop : Stop) → Unremembered most a next stop → Stops t limit most stop
    stops_out Full u =
        let run = entry_run t limit (rows_of a) g.sound.grown i g.known in
        crowded t limit most (rows_of a) _ end g.sound.grown (omega (arith, a.reached.ok.0, u.1, g.sound.within)) u.0
        (omega (arith, deeper)) (more step end run out)
    stops_out NoMemory u = tt

    module _ (b : Tree) where
      old : Seen (rows_of a) end → rows_of b ≡ rows_of a → Reaches t limit most a i step true b
      old seen same = (
        growing_same t limit most a b i same (omega (arith, a.reached.ok.0, b.reached.ok.0, ap length same)) g,
        front_same (rows_of a) (rows_of b) same,
        (end, out, rw same (known_seen (rows_of a) end _ g.ahead seen)),
      )

      new : (Seen (rows_of a) end → ⊥) → rows_of b ≡ rows_of a ++ next ∷ [] → vec_len b.reached ≤ most → Reaches t limit most a i step true b
      new fresh push within =
          let front : Front (rows_of a) (rows_of b) = rw push (front_push (rows_of a) next) in
          let grown = grown_next fresh in
          let longer = length_push (rows_of a) next in (
            record {
              sound = record { grown = rw push grown; within = within };
              known = (front i g.known).0;
              ahead = λ j l.
                  omega (
                    arith,
                    grown.rising j (length (rows_of a)) (omega (arith, ap length push)) (omega arith),
                    ap (λ (y : Reached). y.depth) (entry_new (rows_of a) next (length (rows_of a)) refl),
                    deeper,
                    ap (λ (y : Reached). y.depth) (front i g.known).1,
                    ap (λ (ys : List Reached). (entry ys j).depth) push,
                  );
            },
            front,
            (end, out, rw push (rw (← deeper) (known_push (rows_of a) next))),
          )

      pub taken_out : Remembered most a next b → Reaches t limit most a i step true b
      taken_out = ⊎_elim (λ r. old r.0 r.1) (λ r. new r.0 r.1 r.2)
