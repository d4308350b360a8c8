use Rattle.std.proofs.Common.{sym, subst, arith, below_more}
use Rattle.std.proofs.lemmas.Bool.{false≢true}
use Rattle.sets.proofs.entry.next_fit.Goals as goal

pub loop-i-preserved : goal.loop-i-preserved
loop-i-preserved g c =
    let x = c.index-rows-i.result in
    below_more _ _ c.loop-i.invariant
    (λ _ h. false≢true (c.if-fits.ensures.1 (subst (λ e. g.E.Entry.fitting e c.args.against.now) (sym c.index-rows-i.is) (h.1 x))))

pub returns : goal.returns
returns g c = λ k a b. c.loop-i.invariant k (omega (arith, b.0)) a b
