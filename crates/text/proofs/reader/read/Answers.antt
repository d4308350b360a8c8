use Rattle.std.proofs.Common.{Ok, Err, refl, inr, arith}
use Rattle.std.proofs.lemmas.Result.{err_from_is_err_and}
use Rattle.text.proofs.Drafts.{valid_first}
use Rattle.text.proofs.Exactly.{exact}
use Rattle.text.proofs.Answering.{took, gives, one}
use Rattle.text.proofs.reader.read.Goals as goal

pub returns-in_err-taken : goal.returns-in_err-taken
returns-in_err-taken c =
    let p = err_from_is_err_and c.from_residual.result c.from_residual.ensures.1 in
    let r = c.in_err-taken.ensures in
    rw (p.1, p.2) (record {
      answer = record { rows = refl; changes = refl; fault = inr ((omega arith, omega arith), r) };
      one = λ o x q. one c.args.text.now c.args.actions.now c.args.effects.now (Err c.in_err-taken.field-0.0) r x q;
      exact = λ o x n v b. gives c.args.text.now c.args.actions.now c.args.effects.now (Err c.in_err-taken.field-0.0) r x n v b;
    })

pub returns : goal.returns
returns c =
    let r = c.in_ok-taken.ensures in
    let t = c.in_ok-taken.taken in
    let v = (exact c.args.text.now _ r.3).0 in
    let f = c.fill.ensures t.atoms t.hands t.first t.bytes r.0 r.1 (omega arith) (omega arith) (valid_first t.atoms t.hands t.first (v.1.0, v.1.1) v.2.0) r.2 in
    let k = took c.args.text.now _ _ _ _ t r.0 r.1 (omega arith, omega arith) r.3 f.0 f.1 in
    record {
      answer = k;
      one = λ o x q. one c.args.text.now c.fill.new.actions c.fill.new.effects (Ok t) k.reads x q;
      exact = λ o x n v b. gives c.args.text.now c.fill.new.actions c.fill.new.effects (Ok t) k.reads x n v b;
    }
