use Rattle.std.proofs.Common.{sym}
use Rattle.text.specs.Texts.{contents_of}
use Rattle.text.proofs.Lengths.{problem_long}
use Rattle.text.proofs.whole.text_length.Goals as goal

pub returns : goal.returns
returns c = sym (problem_long (contents_of c.args.problem.now) c.args.problem.now.placed)
