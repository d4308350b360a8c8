use Rattle.problem.proofs.Exampling.{sweep_ends, check_and_sweep, post_and_sweep, crossed_not_firm, undone_ends_without}
use Rattle.problem.proofs.examples.examples_stand.Goals as goal

pub returns : goal.returns
returns c = record {
  sweep = sweep_ends;
  check = check_and_sweep;
  post = post_and_sweep;
  crossed = crossed_not_firm;
  undone = undone_ends_without;
}
