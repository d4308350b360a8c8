-- What the record layer answers, as a reading sees it.
use Rattle.std.proofs.Common.{◌≡◌, ℕ, ◌+◌, ◌<◌, List, length, get_or, Err, sym, refl, subst, inl, inr, arith}
use denote.Enum.Declared.{tag_of}
use Rattle.text.specs.contracts.record.Kind.{the_type}
use Rattle.text.specs.Records.{Known, code_of, KindAt, RecordAt}
use Rattle.text.specs.Readings.{InPlace, Draft, Reads, faulty, strange, torn}
use Rattle.text.specs.declared.fault.RecordFault.{RecordFault}
use Rattle.text.specs.declared.fault.RecordFault.TheVariants.{Cut, Unknown}
use Rattle.text.specs.declared.fault.ProblemFault.TheVariants.{Record as InRecord}
use Rattle.text.specs.declared.record.Kind.{Kind}
use Rattle.text.specs.declared.record.Kind.TheVariants as kinds

pub code_known : (k : Kind) → Known (code_of k)
code_known kinds.Size = (omega arith, omega arith)
code_known kinds.First = (omega arith, omega arith)
code_known kinds.Action = (omega arith, omega arith)
code_known kinds.Effect = (omega arith, omega arith)
code_known kinds.End = (omega arith, omega arith)
code_known kinds.Question = (omega arith, omega arith)

-- the byte that `as u8` makes of a kind
pub tag_code : (k : Kind) → tag_of the_type k + 1 ≡ code_of k
tag_code kinds.Size = refl
tag_code kinds.First = refl
tag_code kinds.Action = refl
tag_code kinds.Effect = refl
tag_code kinds.End = refl
tag_code kinds.Question = refl

module _ (text : List ℕ) (at : ℕ) (d : Draft) where
  fault_at : (o : ℕ) (f : ℕ → RecordFault) → o ≡ at → Reads text at d (faulty (InRecord (f at))) → Reads text at d (faulty (InRecord (f o)))
  fault_at o f e r = subst (λ (x : ℕ). Reads text at d (faulty (InRecord (f x)))) (sym e) r

  pub kind_fault : (e : RecordFault) → at < length text → KindAt text at (Err e) → Reads text at d (faulty (InRecord e))
  kind_fault (Cut o) h k = absurd (omega arith)
  kind_fault (Unknown o) h k = fault_at o Unknown k.0 (strange k.1)

  pub body_fault : (e : RecordFault) → at < length text → Known (get_or text at 0) → InPlace d.place (get_or text at 0) → RecordAt text at (Err e) → Reads text at d (faulty (InRecord e))
  body_fault (Cut o) h k p (e, inl past) = absurd (omega arith)
  body_fault (Cut o) h k p (e, inr t) = fault_at o Cut e (torn p t)
  body_fault (Unknown o) h k p r = absurd (r.1.1 k)
