use Rattle.std.proofs.Common.{◌≡◌, ℕ, ◌+◌, ◌-◌, List, length, set, refl, ◌∙◌, subst, arith, length-set}
use lib.Seq.{take-set-le}
use Rattle.problem.specs.Problems.{task_of}
use Rattle.regression.specs.Stacks.{part_of, Carried}
use Rattle.regression.specs.declared.node.Node.{Node}
use Rattle.regression.proofs.Stacking.{carried_none, part_fits, turn_drop, turn_drop_less, turn_split, turn_split_less, turn_room, turn_brings}
use Rattle.regression.proofs.next.next_due.Goals as goal

pub returns-then-count-saturating_sub : goal.returns-then-count-saturating_sub
returns-then-count-saturating_sub g c = record {
  finds = (
    carried_none (task_of c.args.problem.now) c.args.aim _ _,
    λ o room. omega (
      arith,
      room,
      part_fits (task_of c.args.problem.now) c.args.aim c.args.nodes.now c.args.part.start c.args.part.count o,
      c.if-count-saturating_sub.true,
      c.saturating_sub.ensures,
    ),
  );
  below = refl;
}

pub loop-left-smaller-in-Drop : goal.loop-left-smaller-in-Drop
loop-left-smaller-in-Drop g c =
    turn_drop_less (task_of c.args.problem.now) c.args.aim (g.D.Dismissal.dismissed c.args.dismissal.now) _
    c.loop-left.nodes c.args.part.start c.loop-left.left c.loop-left-test.true c.loop-left.invariant.3

pub loop-left-preserved-in-Drop : goal.loop-left-preserved-in-Drop
loop-left-preserved-in-Drop g c = (
  omega (arith, c.loop-left.invariant.0),
  c.loop-left.invariant.1,
  c.loop-left.invariant.2,
  turn_drop (task_of c.args.problem.now) c.args.aim (g.D.Dismissal.dismissed c.args.dismissal.now) _
      c.loop-left.nodes c.args.part.start c.loop-left.left c.loop-left-test.true c.loop-left.invariant.3 c.in-Drop.ensures,
)

pub returns-in-Due : goal.returns-in-Due
returns-in-Due g c = record {
  finds = turn_brings (task_of c.args.problem.now) c.args.aim (g.D.Dismissal.dismissed c.args.dismissal.now) _
      c.loop-left.nodes c.args.part.start c.loop-left.left c.loop-left-test.true c.loop-left.invariant.3
      c.in-Due.region c.in-Due.ensures.0 c.in-Due.ensures.1 (omega arith) (omega arith) (omega arith) (omega arith);
  below = c.loop-left.invariant.2;
}

pub returns-then-top-nodes : goal.returns-then-top-nodes
returns-then-top-nodes g c = record {
  finds = (
    c.loop-left.invariant.3,
    λ o room. turn_room (task_of c.args.problem.now) c.args.aim (g.D.Dismissal.dismissed c.args.dismissal.now) _
        c.loop-left.nodes c.args.part.start c.loop-left.left c.loop-left-test.true c.loop-left.invariant.3
        _ _ c.in-Split.ensures c.if-top-nodes.true o room,
  );
  below = c.loop-left.invariant.2;
}

pub loop-left-smaller : goal.loop-left-smaller
loop-left-smaller g c =
    turn_split_less (task_of c.args.problem.now) c.args.aim (g.D.Dismissal.dismissed c.args.dismissal.now) _
    c.loop-left.nodes c.args.part.start c.loop-left.left c.loop-left-test.true c.loop-left.invariant.3
    _ _ c.in-Split.ensures c.if-top-nodes.false

pub loop-left-preserved : goal.loop-left-preserved
loop-left-preserved g c =
    let start : ℕ = c.args.part.start in
    let top : ℕ = start + (c.loop-left.left - 1) in
    let one : List Node = set c.loop-left.nodes top c.in-Split.second in
    let same : length (set one (top + 1) c.in-Split.first) ≡ length c.loop-left.nodes =
    length-set one (top + 1) c.in-Split.first ∙ length-set c.loop-left.nodes top c.in-Split.second in (
      omega (arith, same, c.if-top-nodes.false, c.loop-left.invariant.0),
      same ∙ c.loop-left.invariant.1,
      take-set-le start one (top + 1) c.in-Split.first (omega arith) ∙ take-set-le start c.loop-left.nodes top c.in-Split.second (omega arith)
          ∙ c.loop-left.invariant.2,
      turn_split (task_of c.args.problem.now) c.args.aim (g.D.Dismissal.dismissed c.args.dismissal.now) _
          c.loop-left.nodes start c.loop-left.left c.loop-left-test.true c.loop-left.invariant.3
          _ _ c.in-Split.ensures c.if-top-nodes.false,
    )

pub returns : goal.returns
returns g c =
    let none : c.loop-left.left ≡ 0 = omega (arith, c.loop-left-test.false) in
    record {
      finds = subst (λ (n : ℕ). Carried (task_of c.args.problem.now) c.args.aim (g.D.Dismissal.dismissed c.args.dismissal.now) (λ _. ⊥)
          (part_of c.args.nodes.now c.args.part.start c.args.part.count) (part_of c.loop-left.nodes c.args.part.start n)) none c.loop-left.invariant.3;
      below = c.loop-left.invariant.2;
    }
