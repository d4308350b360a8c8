use Rattle.std.proofs.lemmas.Bool.{eqb-true, eq-eqb}
use Rattle.sets.proofs.Bits.{and_inside, inside_and}
use Rattle.sets.proofs.masks.inside.Goals as goal

pub returns : goal.returns
returns c = (λ e. and_inside c.args.a c.args.b (eqb-true _ _ e), λ f. eq-eqb _ _ (inside_and c.args.a c.args.b f))
