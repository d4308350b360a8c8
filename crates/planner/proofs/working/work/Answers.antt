use Rattle.std.proofs.Common.{◌≡◌, ◌<◌, sym, refl, ap, ◌∙◌, arith, rules}
use Rattle.std.proofs.lemmas.List.{length-take-le}
use Rattle.store.specs.Positions.{Target, target_of}
use Rattle.claim.specs.declared.outcome.Outcome.TheVariants.{Spent}
use Rattle.planner.specs.Works.{held_of, position}
use Rattle.planner.proofs.Holding.{held_length, lowest_is}
use Rattle.planner.proofs.Lowest.{under_budget, in_list, low_enough, is_named, can_tell}
use Rattle.planner.proofs.Written.{front_written}
use Rattle.planner.proofs.Rounds.{below_opened, below_spent, below_told, offers_low, ran_none, ran_plan}
use Rattle.planner.proofs.working.work.Goals as goal

pub look-requires-clause-named : goal.look-requires-clause-named
look-requires-clause-named g c = is_named c.requires.sought.1 c.requires.some (g.O.Outlook.fits c.args.outlook.now)

pub write_plan-requires-clause-room : goal.write_plan-requires-clause-room
write_plan-requires-clause-room g c =
    let d = c.args.path.now.depth in
    let long = length-take-le d c.look.new.path.frames (omega (arith, c.requires.shape.deep, c.look.ensures.shape.frames)) in
    omega (arith, long, in_list c.requires.sought.1)

pub returns-in-Found-clause-progress : goal.returns-in-Found-clause-progress
returns-in-Found-clause-progress g c =
    let p' = c.look.new.path in
    let d = c.args.path.now.depth in
    let written = front_written d p'.frames c.in-Found.step c.args.list.now c.write_plan.new.list (omega (arith, c.requires.shape.deep, c.look.ensures.shape.frames))
    c.write_plan.ensures in
    λ m₀ n x. rw c.with_plan.ensures (ran_plan p' d c.args.opened c.in-Found.step c.args.list.now c.args.list.now c.write_plan.new.list
    c.requires.some c.look.ensures.depth refl
    (c.in-Found.ensures.nexts c.args.question m₀ n c.args.opened x) (rw c.look.ensures.depth written))

pub returns-then-opened-question-clause-progress : goal.returns-then-opened-question-clause-progress
returns-then-opened-question-clause-progress g c =
    let p' = c.look.new.path in
    let d = c.args.path.now.depth in
    let long = held_length p'.depth p'.frames p'.nodes p'.len ∙ c.look.ensures.depth in
    let full : c.args.opened ≡ c.args.question.budget = omega (arith, under_budget c.requires.sought.1, c.if-opened-question.true) in
    λ m₀ n x.
    let y = c.in-Opens.ensures.nexts c.args.question m₀ n c.args.opened x in
    let e = below_spent n (held_of p') c.in-Opens.step (target_of c.in-Opens.position) full y in
    rw c.without_plan.ensures (ran_none Spent c.args.opened d c.args.list.now c.args.list.now refl (rw long at e))

pub open-requires-clause-shallow : goal.open-requires-clause-shallow
open-requires-clause-shallow g c =
    let o = c.args.outlook.now in
    let p' = c.look.new.path in
    let under = c.requires.sought.1 in
    let y = c.in-Opens.ensures.nexts c.args.question under.start c.requires.sought.0 c.args.opened under.sought in
    let low = offers_low (g.O.Outlook.task o) (g.O.Outlook.view o) c.args.question under.start (g.S.Store.meaning c.args.store.now) c.requires.sought.0
    c.args.opened (held_of p') c.in-Opens.step (target_of c.in-Opens.position) y in
    let same = ap (λ (r : Target). r.level) (lowest_is p' c.args.path.now c.look.ensures.depth c.look.ensures.frames c.requires.some) in
    omega (arith, c.look.ensures.depth, low, same, low_enough under c.requires.some)

pub overflow_add-result : goal.overflow_add-result
overflow_add-result g c =
    let lt : c.args.opened < c.args.question.budget = omega (arith, under_budget c.requires.sought.1, c.if-opened-question.false) in
    search rules

pub returns-else-opened-question-clause-progress : goal.returns-else-opened-question-clause-progress
returns-else-opened-question-clause-progress g c =
    let p' = c.look.new.path in
    let lt : c.args.opened < c.args.question.budget = omega (arith, under_budget c.requires.sought.1, c.if-opened-question.false) in
    λ m₀ n x.
    let y = c.in-Opens.ensures.nexts c.args.question m₀ n c.args.opened x in
    below_opened p' c.open.new.self c.in-Opens.step (target_of c.in-Opens.position) lt y c.open.ensures.entered

pub returns-else-opened-question-clause-less : goal.returns-else-opened-question-clause-less
returns-else-opened-question-clause-less g c =
    let lt : c.args.opened < c.args.question.budget = omega (arith, under_budget c.requires.sought.1, c.if-opened-question.false) in
    omega (arith, lt, c.open.ensures.entered.depth, c.look.ensures.depth)

pub unwrap-requires : goal.unwrap-requires
unwrap-requires g c =
    let room = can_tell c.requires.sought.1 c.requires.some (g.O.Outlook.fits c.args.outlook.now) in
    search rules

pub returns-in-Done-clause-progress : goal.returns-in-Done-clause-progress
returns-in-Done-clause-progress g c =
    let p' = c.look.new.path in
    let m = g.S.Store.meaning c.args.store.now in
    let m' = g.S.Store.meaning c.tell.new.self in
    let there = lowest_is p' c.args.path.now c.look.ensures.depth c.look.ensures.frames c.requires.some in
    let telling = rw c.unwrap.ensures at c.tell.ensures in
    λ m₀ n x.
    let y = c.in-Done.ensures.nexts c.args.question m₀ n c.args.opened x in
    below_told p' c.close.new.self c.unwrap.result m' c.lowest-lowest.result.position (ap position c.lowest-lowest.ensures ∙ sym there) y.1 telling.1 c.close.ensures.rest y.0

pub returns-in-Done-clause-shape : goal.returns-in-Done-clause-shape
returns-in-Done-clause-shape g c = c.close.ensures.shape (g.O.Outlook.task c.args.outlook.now) c.look.ensures.shape
