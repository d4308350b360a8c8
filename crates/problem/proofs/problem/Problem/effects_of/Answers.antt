use Rattle.std.proofs.Common.{◌+◌, ◌≤◌, length, sym, arith, rules}
use Rattle.problem.proofs.Placing.{begins_up, begins_le, no_effects_past}
use Rattle.problem.proofs.problem.Problem.effects_of.Goals as goal

pub returns-then-k-self : goal.returns-then-k-self
returns-then-k-self c = sym (no_effects_past _ _ c.args.k (omega arith))

pub offset_bounds-self-first : goal.offset_bounds-self-first
offset_bounds-self-first c =
    let le : c.begin-first.result ≤ length c.args.self.now.effects.now =
    omega (arith, c.begin-first.ensures, begins_le _ _ c.args.self.now.placed c.args.k) in
    search rules

pub slice_bounds-result-end-2 : goal.slice_bounds-result-end-2
slice_bounds-result-end-2 c =
    let up : c.begin-first.result ≤ c.begin-past.result =
    omega (arith, c.begin-first.ensures, c.begin-past.ensures, begins_up _ _ c.args.self.now.placed c.args.k) in
    let le : c.begin-past.result ≤ length c.args.self.now.effects.now =
    omega (arith, c.begin-past.ensures, begins_le _ _ c.args.self.now.placed (c.args.k + 1)) in
    search rules
