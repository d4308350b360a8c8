use Rattle.claim.proofs.Falling.{not_idle, not_early, not_invented, not_busy, not_repeated, not_copied, not_blind}
use Rattle.claim.proofs.these_fall.Goals as goal

pub returns : goal.returns
returns c = record {
  idle = not_idle;
  early = not_early;
  invented = not_invented;
  busy = not_busy;
  repeated = not_repeated;
  copied = not_copied;
  blind = not_blind;
}
