-- A set is looked through for a barred pair, one row an atom.
use Rattle.std.proofs.Common.{◌≡◌, ℕ, ◌-◌, ◌^◌, ◌<◌, ◌≤◌, Bool, true, false, not, Result, Ok, Err, T, Decides, MatchResult, refl, sym, ◌∙◌, subst, inl, inr, arith}
use Rattle.std.proofs.lemmas.Bool.{false≢true}
use lib.Bits.{bit_and}
use lib.Count.{count_trailing_zeros}
use Rattle.sets.specs.Sets.{Has, Inside, Apart, Within, Marks}
use Rattle.sets.proofs.Members.{low_has}
use Rattle.sets.proofs.Parts.{and_left}
use Rattle.problem.specs.Firm.{Task}
use Rattle.problem.specs.declared.refusal.Refusal.{Refusal}
use Rattle.graph.specs.Questions.{Answered}
use Rattle.graph.proofs.RowSets.{lowest_or_rest, meets}
use Rattle.outlook.specs.Outlooks.{View, Barred}

-- a test against the atoms of the problem is one against those of its task
pub known_atoms : (t u : Task) (set : ℕ) (r : Bool) → t ≡ u → Decides r (Within t.atoms set) → Decides r (Within u.atoms set)
known_atoms t u set r e d = subst (λ (x : Task). Decides r (Within x.atoms set)) e d

-- the row of a known atom, at a level that there is, is not declined, and meets the set just where a member is barred with the atom
module _ (v : View) (m n set x : ℕ) (low : n ≤ 32) (known : Within m set) (member : Has set x) (small : set < 2 ^ 64) where
  abbrev pub Row : ℕ → Type 0
  Row row = Marks row (λ k. (k < m) × T (v.bars n x k))

  abbrev pub Met : Type 0
  Met = (k : ℕ) × Has set k × T (v.bars n x k)

  met_row : (row : ℕ) → Row row → (away met : Bool) → Decides away (Apart row set) → met ≡ not away → Decides met Met
  met_row row marks true met d e = (
    (λ h. absurd (false≢true (sym e ∙ h))),
    λ b. absurd (d.0 refl b.0 (marks.all b.0 (known b.0 b.1, b.2)) b.1),
  )
  met_row row marks false met d e = (
    (λ _. let c = meets row set small (λ a. false≢true (d.1 a)) in (c.0, c.2, (marks.only c.0 c.1).1)),
    λ _. e,
  )

  pub row_decides : (r : Result ℕ Refusal) (met : Bool) (Post : ℕ → Type 0) → Answered n (x < m) Row r → MatchResult r Post (λ _. met ≡ false)
      → ((row : ℕ) → Post row → (away : Bool) × Decides away (Apart row set) × (met ≡ not away)) → Decides met Met
  row_decides (Ok row) met Post answered tested split = let s = split row tested in met_row row answered.2 s.0 met s.1 s.2
  row_decides (Err e) met Post declined none split = elim declined [
    | inl d ↦ absurd (let z : ⊥ = omega (arith, d.1, low) in z)
    | inr d ↦ absurd (d.2 (known x member))
  ]

-- each pair of the set that is barred has its first atom in what is left
abbrev pub Left : View → ℕ → ℕ → ℕ → Type 0
Left v n set left = (a b : ℕ) → Has set a → Has set b → T (v.bars n a b) → Has left a

module _ (v : View) (m n set left row : ℕ) (p : 0 < left) (lt : left < 2 ^ 64) (small : set < 2 ^ 64) (sub : Inside left set)
    (marks : Marks row (λ k. (k < m) × T (v.bars n (count_trailing_zeros 64 left) k))) where
  pub scan_found : (Apart row set → ⊥) → Barred v n set
  scan_found met =
      let c = meets row set small met in
      (count_trailing_zeros 64 left, c.0, sub (count_trailing_zeros 64 left) (low_has left p lt), c.2, (marks.only c.0 c.1).1)

  pub scan_more : Within m set → Apart row set → Left v n set left → Inside (bit_and left (left - 1)) set × Left v n set (bit_and left (left - 1))
  scan_more within apart so_far = (
    (λ k h. sub k (and_left left (left - 1) k h)),
    λ a b ha hb bar. elim (lowest_or_rest left a p lt (so_far a b ha hb bar)) [
      | inl e ↦ absurd (apart b (marks.all b (within b hb, subst (λ (x : ℕ). T (v.bars n x b)) e bar)) hb)
      | inr h ↦ h
    ],
  )
