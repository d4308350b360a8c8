use Rattle.std.proofs.Common.{ℕ, rules}
use Rattle.sets.specs.Sets.{Has}
use Rattle.problem.proofs.Listed.{left_in}
use Rattle.regression.specs.Told.{acts}
use Rattle.regression.proofs.Masks.{so}
use Rattle.regression.proofs.Concerning.{unhurt_judged}
use Rattle.regression.proofs.doings.Doings.unhurt_by_others.Goals as goal

pub all_of-requires : goal.all_of-requires
all_of-requires c =
    let inside : (j : ℕ) → Has c.without_one.result j → Has c.args.self.now.step j = λ j h. left_in _ c.args.i j (so _ _ j c.without_one.ensures h) in
    search (rules, inside)

pub returns : goal.returns
returns c =
    let d = c.args.self.now in
    unhurt_judged (acts d) d.step c.args.i c.requires d.lo d.hi _ c.without_one.ensures c.all_of.ensures (λ j v m p. search rules)
