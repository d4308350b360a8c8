use Rattle.std.proofs.Common.{arith}
use Rattle.std.proofs.lemmas.Bool.{eqb-true, eq-eqb, le-leb}
use Rattle.sets.proofs.Members.{has_lt, all_below, below_all}
use Rattle.sets.proofs.masks.within.Goals as goal

pub returns-then-m-ge64 : goal.returns-then-m-ge64
returns-then-m-ge64 c = (λ _ k h. omega (arith, has_lt c.args.set k (omega arith) h), λ _. le-leb _ _ c.if-m-ge64.true)

pub returns-else-m-ge64 : goal.returns-else-m-ge64
returns-else-m-ge64 c = (λ e. all_below c.args.set c.args.m (eqb-true _ _ e), λ f. eq-eqb _ _ (below_all c.args.set c.args.m f))
