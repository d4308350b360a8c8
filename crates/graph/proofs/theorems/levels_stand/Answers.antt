use Rattle.graph.proofs.Soundness.{levels_sound}
use Rattle.graph.proofs.Neighbours.{exclusive_both, loosen, stay, barred_unreached, closed_unreached}
use Rattle.graph.proofs.theorems.levels_stand.Goals as goal

pub returns : goal.returns
returns c = record {
  sound = levels_sound;
  both = exclusive_both;
  loosen = loosen;
  stay = stay;
  barred = barred_unreached;
  closed = closed_unreached;
}
