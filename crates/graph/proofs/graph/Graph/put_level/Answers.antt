use Rattle.std.proofs.Common.{◌+◌, ◌*◌, ◌<◌, ◌≤◌, arith, rules}
use native.Mathlib.Decide.{dec_le}
use Rattle.std.proofs.lemmas.List.{places}
use Rattle.graph.proofs.graph.Graph.put_level.Goals as goal

pub returns-clause-other_rows : goal.returns-clause-other_rows
returns-clause-other_rows c k a ne lt = elim (dec_le c.args.n k) [
  | yes above ↦ (let past : 64 * c.args.n + 64 ≤ 64 * k + a = omega arith in search (rules, places, past))
  | no below ↦ (let before : 64 * k + a < 64 * c.args.n = omega arith in search (rules, places, before))
]
