use Rattle.std.proofs.Common.{◌∙◌, ap, sym, length}
use Rattle.std.proofs.lemmas.List.{length-take-le}
use Rattle.texttests.proofs.Lengths.{model_long}
use Rattle.texttests.proofs.model.write_model.Goals as goal

pub returns : goal.returns
returns c =
    let h = c.new-blank.ensures c.args.out.now in
    let h1 = c.in_ok-sized.ensures.written _ h in
    let h2 = c.in_ok-started.ensures.written _ h1 in
    let h3 = c.in_ok-check.ensures.written _ h2 in
    let h4 = c.in_ok-check-2.ensures.written _ h3 in
    let h5 = c.in_ok-post.ensures.written _ h4 in
    let h6 = c.in_ok-post-2.ensures.written _ h5 in
    let h7 = c.in_ok-sweep.ensures.written _ h6 in
    let h8 = c.in_ok-sweep-2.ensures.written _ h7 in
    let h9 = c.in_ok-sweep-3.ensures.written _ h8 in
    let w = c.in_ok-ended.ensures.written _ h9 in
    (sym (length-take-le _ _ w.inside) ∙ (ap length w.bytes ∙ model_long), (w.inside, w.bytes))
