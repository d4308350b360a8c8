use Rattle.text.proofs.Decoding.{bytes_under}
use Rattle.text.proofs.Asking.{asking}
use Rattle.text.proofs.questions.next_question.Goals as goal

pub returns : goal.returns
returns c =
    let r = c.in_ok-found.ensures in
    asking c.args.text.now c.args.at c.in_ok-found.found c.in-Question-record.body _ _ _ (bytes_under _ c.type_inv.text) r.0 r.1 c.in-Question-record.is
    c.set_at.ensures c.set_at-2.ensures c.word_at.ensures
