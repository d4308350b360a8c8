use Rattle.std.proofs.Common.{rules, ◌+◌}
use Rattle.text.specs.Texts.{end_is}
use Rattle.text.specs.Writings.{started_mark, ended_mark, Wrote}
use Rattle.text.proofs.Written.{holds_whole}
use Rattle.text.proofs.writer.StartedText.end.Goals as goal

pub returns : goal.returns
returns c =
    let a = c.in_ok-text.ensures in
    let w : Wrote (started_mark c.args.self) (ended_mark c.args.self (record { len = c.args.self.len + 1 })) end_is c.args.out.now c.put_bytes.new.out = search rules in
    record { answer = rw a.0 w; written = λ d h. rw a.0 (holds_whole _ _ d c.args.out.now _ h w) }
