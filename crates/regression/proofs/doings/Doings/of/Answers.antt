use Rattle.std.proofs.Common.{rules, ◌≡◌, None, Bool, nat_eq, MatchOption, arith}
use Rattle.std.specs.Bool.{then_some}
use Rattle.regression.specs.Told.{acts}
use Rattle.regression.proofs.Rows.{picked, by_filter, found_some, found_tells}
use Rattle.regression.proofs.doings.Doings.of.Goals as goal

pub unwrap-requires : goal.unwrap-requires
unwrap-requires c =
    let d = c.args.self.now in
    found_some (acts d) d.step d.lo d.hi d.rows c.args.i (omega arith) d.tells c.requires c.find_map.result
    (picked _ c.args.i (λ x r q k.
    let m : MatchOption x.now (r ≡ None) (λ d. (b : Bool) × (b ≡ nat_eq d.action c.args.i) × (r ≡ then_some b d)) = search rules in
    (search rules, by_filter c.args.i x.now r m)) _ c.iter.result d.rows c.iter.ensures.rest c.iter.ensures.runs c.find_map.result c.find_map.ensures.runs)

pub returns : goal.returns
returns c =
    let d = c.args.self.now in
    found_tells (acts d) d.step d.lo d.hi d.rows c.args.i (omega arith) d.tells c.find_map.result c.unwrap.result c.unwrap.ensures
    (picked _ c.args.i (λ x r q k.
    let m : MatchOption x.now (r ≡ None) (λ d. (b : Bool) × (b ≡ nat_eq d.action c.args.i) × (r ≡ then_some b d)) = search rules in
    (search rules, by_filter c.args.i x.now r m)) _ c.iter.result d.rows c.iter.ensures.rest c.iter.ensures.runs c.find_map.result c.find_map.ensures.runs)
