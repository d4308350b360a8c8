-- From the reading of a text to what a call of read answers.
use Rattle.std.proofs.Common.{◌≡◌, ℕ, List, Ok, Err, Result, sym, refl, ap, subst, arith}
use Rattle.sets.specs.Lists.{taken}
use Rattle.sets.specs.declared.filled.Filled.{Filled}
use Rattle.problem.specs.declared.rows.ActionRow.{ActionRow}
use Rattle.problem.specs.declared.rows.EffectRow.{EffectRow}
use Rattle.text.specs.Texts.{Contents, contents, Valid, Begins}
use Rattle.text.specs.Readings.{nothing, Outcome, whole, faulty, Reads}
use Rattle.text.specs.Filling.{Refilled}
use Rattle.text.specs.Calls.{Roomy, gotten, Took, told, Gives}
use Rattle.text.specs.declared.fault.ProblemFault.{ProblemFault}
use Rattle.text.specs.declared.checker.Taken.{Taken}
use Rattle.text.proofs.Outcomes.{reads_once}
use Rattle.text.proofs.Exactly.{exact, reads_begun}

module _ (text : List ℕ) (a a' : Filled ActionRow) (e e' : Filled EffectRow) where
  pub took : (t : Taken) (rows : List ActionRow) (changes : List EffectRow) → Roomy a e → Reads text 0 nothing (whole (contents t.atoms t.hands t.first rows changes) t.bytes)
      → Refilled a a' rows → Refilled e e' changes → Took text a a' e e' t
  took t rows changes o r f g =
      let q : Reads text 0 nothing (whole (gotten t a' e') t.bytes) =
      subst (λ (x : List ActionRow). Reads text 0 nothing (whole (contents t.atoms t.hands t.first x (taken e')) t.bytes)) (sym f.holds)
      (subst (λ (x : List EffectRow). Reads text 0 nothing (whole (contents t.atoms t.hands t.first rows x) t.bytes)) (sym g.holds) r) in
      let p = exact text (whole (gotten t a' e') t.bytes) q in
      record {
        roomy = o;
        reads = q;
        valid = p.0;
        begins = p.1;
        rows = subst (Refilled a a') (sym f.holds) f;
        changes = subst (Refilled e e') (sym g.holds) g;
      }

module _ (text : List ℕ) (a' : Filled ActionRow) (e' : Filled EffectRow) where
  -- an answer that tells the text's outcome gives each problem that the text begins with
  pub gives : (r : Result Taken ProblemFault) → Reads text 0 nothing (told r a' e') → (c : Contents) (n : ℕ) → Valid c → Begins text n c → Gives c n r a' e'
  gives (Ok t) q c n v b =
      let w : whole c n ≡ whole (gotten t a' e') t.bytes = reads_once text 0 nothing (whole c n) (whole (gotten t a' e') t.bytes) (reads_begun text c v n b) q in
      let x : gotten t a' e' ≡ c = cc in
      let y : t.bytes ≡ n = cc in
      let m : t.atoms ≡ c.atoms = ap (λ (z : Contents). z.atoms) x in
      let h : t.hands ≡ c.hands = ap (λ (z : Contents). z.hands) x in
      let s : t.first ≡ c.first = ap (λ (z : Contents). z.first) x in
      (ap (λ (z : Taken). Ok z) (rw (← m, ← h, ← s, ← y) refl), ap (λ (z : Contents). z.rows) x, ap (λ (z : Contents). z.effects) x)
  gives (Err f) q c n v b =
      let w : whole c n ≡ faulty f = reads_once text 0 nothing (whole c n) (faulty f) (reads_begun text c v n b) q in
      let z : ◌≡◌ {A = ℕ} 0 1 = cc in absurd (omega arith)

  pub one : (r : Result Taken ProblemFault) → Reads text 0 nothing (told r a' e') → (o : Outcome) → Reads text 0 nothing o → o ≡ told r a' e'
  one r q o p = reads_once text 0 nothing o (told r a' e') p q
