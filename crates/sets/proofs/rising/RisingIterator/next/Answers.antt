use Rattle.std.proofs.Common.{rules, arith}
use Rattle.sets.proofs.Members.{not_in_none}
use Rattle.sets.proofs.rising.RisingIterator.next.Goals as goal

pub returns-clause-goes : goal.returns-clause-goes
returns-clause-goes c = record {
  on = λ f. (search rules, search rules, omega (arith, c.rest-self.ensures.fewer (λ z. not_in_none _ _ z c.in_ok-member.ensures.member)));
  keeps = search rules;
  rests = search rules;
}
