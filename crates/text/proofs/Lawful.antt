-- The laws of texts and their readings.
use Rattle.std.proofs.Common.{◌≡◌, ℕ, ◌≤◌, List, ◌++◌, length, take, sym, refl, ap, ◌∙◌, subst, zero-add, arith}
use Rattle.std.proofs.lemmas.List.{take_at, length-append, length-take-le}
use Rattle.text.specs.Bytes.{put}
use Rattle.text.specs.Texts.{Contents, Valid, problem_text, Begins}
use Rattle.text.specs.Readings.{nothing, whole, Reads}
use Rattle.text.specs.Laws.{OneOutcome, ReadExactly, ReadBack, OneProblem, OneMore}
use Rattle.text.proofs.Puts.{length_put, take_put}
use Rattle.text.proofs.Drafts.{drafted_sound, more_text}
use Rattle.text.proofs.Outcomes.{reads_once, reads_some}
use Rattle.text.proofs.Exactly.{exact, reads_begun}

pub one_outcome : OneOutcome
one_outcome text u =
    let o = reads_some text u 0 nothing in
    (o.0, o.1, λ p r. reads_once text 0 nothing p o.0 r o.1)

pub read_exactly : ReadExactly
read_exactly text c n = (exact text (whole c n), λ v b. reads_begun text c v n b)

pub read_back : ReadBack
read_back c rest v =
    reads_begun (problem_text c ++ rest) c v (length (problem_text c)) (omega (arith, length-append (problem_text c) rest), take_at (problem_text c) rest (length (problem_text c)) refl)

pub one_problem : OneProblem
one_problem text c d n k v w a b =
    let e : whole c n ≡ whole d k = reads_once text 0 nothing (whole c n) (whole d k) (reads_begun text c v n a) (reads_begun text d w k b) in
    let x : c ≡ d = cc in
    let y : n ≡ k = cc in
    (x, y)

pub one_more : OneMore
one_more d i g k a = more_text d i k (drafted_sound d g) a

-- bytes that the text of a problem was written to
pub put_begins : (out : List ℕ) (c : Contents) → length (problem_text c) ≤ length out → Begins (put out 0 (problem_text c)) (length (problem_text c)) c
put_begins out c h = (
  omega (arith, length_put out 0 (problem_text c) (omega arith)),
  ap (λ (n : ℕ). take n (put out 0 (problem_text c))) (sym (zero-add (length (problem_text c)))) ∙ take_put out 0 (problem_text c) (omega arith),
)

-- what was written, as a reader sees it
pub written_reads : (out out' : List ℕ) (c : Contents) (n : ℕ) → Valid c → n ≡ length (problem_text c) → n ≤ length out → out' ≡ put out 0 (problem_text c) → Reads out' 0 nothing (whole c n)
written_reads out out' c n v e h p =
    let b = put_begins out c (omega arith) in
    reads_begun out' c v n (subst (λ (x : List ℕ). Begins x n c) (sym p) (subst (λ (k : ℕ). Begins (put out 0 (problem_text c)) k c) (sym e) b))

-- and byte for byte the text that the problem was read from
pub written_again : (out out' text : List ℕ) (c : Contents) (n k : ℕ) → n ≡ length (problem_text c) → n ≤ length out → out' ≡ put out 0 (problem_text c) → Begins text k c → (n ≡ k) × (take n out' ≡ take k text)
written_again out out' text c n k e h p b =
    let w = put_begins out c (omega arith) in (
      e ∙ sym (ap length b.1) ∙ length-take-le k text b.0,
      ap (take n) p ∙ ap (λ (x : ℕ). take x (put out 0 (problem_text c))) e ∙ w.1 ∙ sym b.1,
    )
