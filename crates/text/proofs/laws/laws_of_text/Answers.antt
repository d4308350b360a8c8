use Rattle.text.proofs.Lawful.{one_outcome, read_exactly, read_back, one_problem, one_more}
use Rattle.text.proofs.laws.laws_of_text.Goals as goal

pub returns : goal.returns
returns c = record { one = one_outcome; exact = read_exactly; back = read_back; single = one_problem; grows = one_more }
