use Rattle.problem.proofs.Steps.{tests_alike, alike_tests, eqb_same, same_eqb}
use Rattle.problem.proofs.actions.fires_alike.Goals as goal

pub returns : goal.returns
returns c = (
  λ z. tests_alike c.args.s c.args.t c.args.e.now _ _ c.fits.ensures c.fits-2.ensures (eqb_same _ _ z),
  λ f. same_eqb _ _ (alike_tests c.args.s c.args.t c.args.e.now _ _ c.fits.ensures c.fits-2.ensures f),
)
