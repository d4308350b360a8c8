use Rattle.std.proofs.lemmas.Bool.{eqb-true, eq-eqb}
use Rattle.sets.proofs.Bits.{and_apart, apart_and}
use Rattle.sets.proofs.masks.apart.Goals as goal

pub returns : goal.returns
returns c = (λ e. and_apart c.args.a c.args.b (eqb-true _ _ e), λ f. eq-eqb _ _ (apart_and c.args.a c.args.b f))
