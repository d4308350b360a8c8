-- Which refusal each call gives, by the first check that fails.
use Rattle.std.specs.Prelude.{◌≡◌, ◌⊎◌}
use Rattle.problem.specs.declared.refusal.Refusal.{Refusal}
use Rattle.problem.specs.declared.refusal.Refusal.TheVariants.{SharedAtom, BadLevel}
use Rattle.sets.specs.Sets.{Apart}
use Rattle.store.specs.Positions.{Target, Ranked}

-- why there is no such position: the level first, then the sets
abbrev pub PositionDeclines : Target → Refusal → Type 0
PositionDeclines q e =
    ((e ≡ BadLevel) × (Ranked q → ⊥))
    ⊎ ((e ≡ SharedAtom) × Ranked q × (Apart q.goal.need q.goal.avoid → ⊥))
