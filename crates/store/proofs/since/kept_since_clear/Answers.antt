use Rattle.std.proofs.Common.{arith}
use Rattle.store.proofs.Histories.{kept_since, few_since}
use Rattle.store.proofs.since.kept_since_clear.Goals as goal

pub returns : goal.returns
returns g c = record {
  count = omega (arith, c.kept.ensures);
  different = kept_since _ _ (omega (arith, c.kept.ensures));
  few = few_since _ _ (omega (arith, c.kept.ensures));
}
