-- The closing level of an outlook.
use Rattle.std.proofs.Common.{◌≡◌, ℕ, Some, subst}
use Rattle.problem.specs.Runs.{Goal}
use Rattle.outlook.specs.Outlooks.{View, Barred, Shut}

-- a goal that is shut is barred at the closing level, since there is only one
pub at_closing : (v : View) (g : Goal) (c : ℕ) → v.closing ≡ Some c → Shut v g → Barred v c g.need
at_closing v g c e x = let same : x.0 ≡ c = cc (e, x.1) in subst (λ (k : ℕ). Barred v k g.need) same x.2
