use Rattle.claim.proofs.Exampling.{not_within_two, spent_at_two, plan_of_one, never_then_declined, five}
use Rattle.claim.proofs.some_lists_of_turns_stand.Goals as goal

pub returns : goal.returns
returns c = record { fails = not_within_two; spent = spent_at_two; plan = plan_of_one; never = never_then_declined; five = five }
