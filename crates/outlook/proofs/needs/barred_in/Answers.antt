use Rattle.std.proofs.Common.{arith, rules}
use Rattle.outlook.proofs.Scanning.{row_decides}
use Rattle.outlook.proofs.needs.barred_in.Goals as goal

pub returns : goal.returns
returns g c =
    row_decides (g.O.Outlook.view c.args.outlook.now) _ c.args.level c.args.set c.args.atom c.requires.low c.requires.known c.requires.member (omega arith)
    _ _ _ c.barred_with.ensures c.is_ok_and.ensures (λ row p. search rules)
