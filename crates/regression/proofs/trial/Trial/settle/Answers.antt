use Rattle.std.proofs.Common.{◌≡◌, ℕ, ◌*◌, ◌%◌, ◌^◌, sym, subst, arith}
use lib.Bits.{bit_or}
use Rattle.sets.proofs.Members.{one_fits, inside_lt}
use Rattle.problem.specs.Problems.{task_of}
use Rattle.regression.specs.Nodes.{Splits, closed}
use Rattle.regression.proofs.Reaching.{surely_reaches}
use Rattle.regression.proofs.Splitting.{split_atom, matters_names, closed_step, closed_none}
use Rattle.regression.proofs.trial.Trial.settle.Goals as goal

pub returns-in-Yes : goal.returns-in-Yes
returns-in-Yes c = record {
  apart = c.args.self.apart;
  shrunk = c.shrink.ensures;
  leads = surely_reaches c.args.self.problem.now c.args.self.aim (omega arith) (omega arith) c.args.self.step c.args.self.allowed c.shrink.result
      (omega (arith, c.shrink.ensures.need)) (inside_lt _ c.args.self.region.avoid c.shrink.ensures.avoid (omega arith)) c.shrink.ensures.still;
  only = λ s step pair l. closed_step c.args.self.step c.args.self.region s step l;
}

pub returns-in-No : goal.returns-in-No
returns-in-No c = closed_none (task_of c.args.self.problem.now) c.args.self.aim c.args.self.step c.args.self.region c.in-No.ensures

pub returns-in-Ask : goal.returns-in-Ask
returns-in-Ask c =
    let t = task_of c.args.self.problem.now in
    let q = c.args.self.aim in
    let p = c.args.self.region in
    let x : ℕ = c.in-Ask.x in
    let a = c.in-Ask.ensures in
    let e : 1 * 2 ^ c.in-Ask.x % 2 ^ 64 ≡ 2 ^ c.in-Ask.x = omega (arith, one_fits c.in-Ask.x a.0) in
    rw (c.alone.ensures, c.alone-in-Ask.ensures)
    (subst (λ (y : ℕ). Splits t q (closed c.args.self.step p)
    (closed c.args.self.step (record { need = bit_or p.need y; avoid = p.avoid }))
    (closed c.args.self.step (record { need = p.need; avoid = bit_or p.avoid y })))
    (sym e)
    (split_atom t q c.args.self.step p x a.0 a.1 a.2 (matters_names t.at c.args.self.step q x a.3)))
