use Rattle.std.proofs.Common.{ℕ, ◌<◌, List, sym, ◌≡◌, ◌∙◌, subst, arith, rules}
use Rattle.std.proofs.lemmas.Bool.{false≢true}
use Rattle.sets.proofs.Members.{shift_one, within_below}
use Rattle.problem.specs.Problems.{task_of}
use Rattle.problem.specs.declared.rows.EffectRow.{EffectRow}
use Rattle.regression.specs.Roots.{Helps}
use Rattle.regression.proofs.Rooting.{found_none, found_more, found_same}
use Rattle.regression.proofs.Stacking.{root_orderly}
use Rattle.regression.proofs.Leanness.{root_parts}
use Rattle.regression.proofs.opening.root.Goals as goal
use Rattle.regression.proofs.opening.root.Goals.{then-helps, else-helps}

pub loop-i-init : goal.loop-i-init
loop-i-init c = found_none (λ k. Helps c.args.aim ((task_of c.args.problem.now).at k).effects)

pub loop-i-preserved : goal.loop-i-preserved
loop-i-preserved c =
    let q = c.args.aim in
    let H : ℕ → Type 0 = λ k. Helps q ((task_of c.args.problem.now).at k).effects in
    let i : ℕ = c.loop-i.i in
    let few : i < 64 = omega (arith, c.loop-i-test.true, c.args.problem.now.sized.2) in
    elim c.if-helps.branch [
      | then-helps w ↦ rw w.candidates-is
          (found_more H i c.loop-i.candidates _ (shift_one i few)
          (subst (λ (y : List EffectRow). Helps q y) c.effects_of.ensures (c.helps.ensures.0 w.if-helps.true)) c.loop-i.invariant)
      | else-helps w ↦ rw w.candidates-is
          (found_same H i c.loop-i.candidates
          (λ h. false≢true (sym w.if-helps.false ∙ c.helps.ensures.1 (subst (λ (y : List EffectRow). Helps q y) (sym c.effects_of.ensures) h))) c.loop-i.invariant)
    ]

pub returns : goal.returns
returns c =
    let t = task_of c.args.problem.now in
    let q = c.args.aim in
    let all : (i : ℕ) → i < t.count → Helps q (t.at i).effects → _ = λ i l h. c.loop-i.invariant.all i (omega (arith, l, c.loop-i-test.false), h) in
    let chosen : c.default.result.chosen ≡ 0 = search rules in
    let need : c.default.result.region.need ≡ 0 = search rules in
    let avoid : c.default.result.region.avoid ≡ 0 = search rules in
    record {
      chosen = chosen;
      need = need;
      avoid = avoid;
      candidates = record {
        only = λ i h. let r = c.loop-i.invariant.only i h in (omega (arith, r.0, c.loop-i.auto.i-end), r.1);
        all = λ i h. all i h.0 h.1;
      };
      orderly = root_orderly t q _
          (within_below 64 c.loop-i.candidates (λ i h. omega (arith, (c.loop-i.invariant.only i h).0, c.loop-i.auto.i-end, c.args.problem.now.sized.2))) need avoid;
      parts = λ s step g. root_parts t c.args.problem.now.sized.2 q (omega arith) (omega arith) s _ chosen need avoid all step g;
    }
