use Rattle.std.proofs.Common.{ℕ, ◌≤◌, [], length, sym, refl, ap, ◌∙◌, subst, arith}
use Rattle.sets.specs.Sets.{Within}
use Rattle.text.specs.Texts.{size_is, first_is, end_is, contents_of, Valid}
use Rattle.text.specs.Writings.{Mark, blank_mark, sized_mark, started_mark}
use Rattle.text.proofs.Numbers.{length_bytes_of}
use Rattle.text.proofs.Lengths.{problem_long, actions_all_long}
use Rattle.text.proofs.Drafts.{end_after}
use Rattle.text.proofs.Written.{next_len, not_refused, goes_through}
use Rattle.text.proofs.Appended.{whole_put}
use Rattle.text.proofs.Lawful.{written_reads, written_again}
use Rattle.text.proofs.whole.write_problem.Goals as goal

pub unwrap-sized-requires : goal.unwrap-sized-requires
unwrap-sized-requires c =
    let p = c.args.problem.now in
    let l = problem_long (contents_of p) p.placed in
    goes_through c.size.result _ _ c.size.ensures.answer (λ b r. not_refused (blank_mark c.new.result) (size_is p.atoms p.hands) (length c.args.out.now) _ refl (p.sized.0, p.sized.1) tt
    (omega (arith, (c.new.ensures []).inside, c.text_length.ensures)) r.1.why)

pub unwrap-started-requires : goal.unwrap-started-requires
unwrap-started-requires c =
    let p = c.args.problem.now in
    let w = rw c.unwrap-sized.ensures at c.size.ensures.answer in
    let l = problem_long (contents_of p) p.placed in
    goes_through c.first.result _ _ c.first.ensures.answer (λ b r. not_refused (sized_mark c.unwrap-sized.result) (first_is p.first) (length c.size.new.out) _ refl tt
    (subst (λ (m : ℕ). Within m p.first) (sym (ap (λ (k : Mark). k.atoms) w.next)) p.named_first)
    (omega (arith, (c.new.ensures []).inside, c.text_length.ensures, next_len w, length_bytes_of 8 p.first)) r.1.why)

pub write_actions-acted-requires-clause-room : goal.write_actions-acted-requires-clause-room
write_actions-acted-requires-clause-room c =
    let p = c.args.problem.now in
    let w = rw c.unwrap-sized.ensures at c.size.ensures.answer in
    let v = rw c.unwrap-started.ensures at c.first.ensures.answer in
    let l = problem_long (contents_of p) p.placed in
    omega (arith, (c.new.ensures []).inside, c.text_length.ensures, next_len w, next_len v, length_bytes_of 8 p.first, actions_all_long p.actions.now p.effects.now p.placed)

pub unwrap-ended-requires : goal.unwrap-ended-requires
unwrap-ended-requires c =
    let p = c.args.problem.now in
    let w = rw c.unwrap-sized.ensures at c.size.ensures.answer in
    let v = rw c.unwrap-started.ensures at c.first.ensures.answer in
    let a = c.write_actions-acted.ensures in
    let l = problem_long (contents_of p) p.placed in
    goes_through c.end.result _ _ c.end.ensures.answer (λ b r. not_refused (started_mark c.write_actions-acted.result) end_is (length c.write_actions-acted.new.out) _
    (end_after c.write_actions-acted.result.actions) tt tt
    (omega (
      arith,
      (c.new.ensures []).inside,
      c.text_length.ensures,
      next_len w,
      next_len v,
      length_bytes_of 8 p.first,
      a.len,
      actions_all_long p.actions.now p.effects.now p.placed,
    )) r.1.why)

pub returns : goal.returns
returns c =
    let p = c.args.problem.now in
    let w = rw c.unwrap-sized.ensures at c.size.ensures.answer in
    let v = rw c.unwrap-started.ensures at c.first.ensures.answer in
    let a = c.write_actions-acted.ensures in
    let e = rw c.unwrap-ended.ensures at c.end.ensures.answer in
    let f = whole_put (contents_of p) c.new.result.len c.args.out.now _ _ _ _ _ _ _ (omega (arith, (c.new.ensures []).inside)) (omega (arith, c.text_length.ensures))
    w.bytes (next_len w)
    v.bytes (next_len v)
    a.bytes a.len e.bytes in
    let n = next_len e in
    let l : c.unwrap-ended.result.len ≤ length c.args.out.now = omega (arith, n, f.0, c.text_length.ensures) in
    let v : Valid (contents_of p) = (p.placed, p.sized, (p.named_first, p.named_preconditions, p.named_effects)) in
    record {
      answer = (n ∙ f.0, l, f.1);
      back = written_reads c.args.out.now c.end.new.out (contents_of p) _ v (n ∙ f.0) l f.1;
      again = λ text k b. written_again c.args.out.now c.end.new.out text (contents_of p) _ k (n ∙ f.0) l f.1 b;
    }
