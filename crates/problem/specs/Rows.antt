-- Rows of actions and effects, and when they are those of a problem.
use Rattle.std.specs.Prelude.{◌≡◌, ℕ, ◌+◌, ◌<◌, ◌≤◌, cond, List, length, bit_or, nat_lt, slice_index_or}
use Rattle.sets.specs.Sets.{Within}
use Rattle.problem.specs.declared.rows.ActionRow.{ActionRow}
use Rattle.problem.specs.declared.rows.EffectRow.{EffectRow}

-- the row k, or one that says nothing where there is none
abbrev pub row_at : List ActionRow → ℕ → ActionRow
row_at rows k = slice_index_or rows k (record { precondition = 0; first_effect = 0 })

abbrev pub effect_at : List EffectRow → ℕ → EffectRow
effect_at effects j = slice_index_or effects j (record { condition = 0; add = 0; delete = 0 })

-- where the effects of action k begin, among n effects; past the last action, at the end
abbrev pub begins : List ActionRow → ℕ → ℕ → ℕ
begins rows n k = cond (nat_lt k (length rows)) (row_at rows k).first_effect n

-- the effects of the actions stand one action after the other, from the first effect to the last
abbrev pub Placed : List ActionRow → ℕ → Type 0
Placed rows n = (begins rows n 0 ≡ 0) × ((k : ℕ) → k < length rows → begins rows n k ≤ begins rows n (k + 1))

-- there are 1 to 64 atoms, 1 to 4 hands, and at most 64 actions with at most 8 effects each
abbrev pub Sized : ℕ → ℕ → List ActionRow → ℕ → Type 0
Sized m h rows n =
    ((1 ≤ m) × (m ≤ 64)) × ((1 ≤ h) × (h ≤ 4)) × (length rows ≤ 64)
    × ((k : ℕ) → k < length rows → begins rows n (k + 1) ≤ begins rows n k + 8)

-- the atoms that an effect names
abbrev pub names_of : EffectRow → ℕ
names_of e = bit_or (bit_or e.condition e.add) e.delete

-- the preconditions, and the effects, name only atoms below m
abbrev pub PreconditionsNamed : ℕ → List ActionRow → Type 0
PreconditionsNamed m rows = (k : ℕ) → k < length rows → Within m (row_at rows k).precondition

abbrev pub EffectsNamed : ℕ → List EffectRow → Type 0
EffectsNamed m effects = (j : ℕ) → j < length effects → Within m (names_of (effect_at effects j))

-- and so does the first state
abbrev pub Named : ℕ → ℕ → List ActionRow → List EffectRow → Type 0
Named m first rows effects = Within m first × PreconditionsNamed m rows × EffectsNamed m effects
