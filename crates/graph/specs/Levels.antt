-- The rules of the planning graph: which atoms can hold after n steps, and which two of them cannot hold together.
use Rattle.std.specs.Prelude.{◌≡◌, ℕ, zero, suc, ◌<◌, ◌≢◌, ◌⊎◌, List, Some, None, Option, bit_or}
use Rattle.sets.specs.Sets.{Has}
use Rattle.problem.specs.Actions.{Among}
use Rattle.problem.specs.Firm.{Task}
use Rattle.problem.specs.declared.rows.EffectRow.{EffectRow}

-- a level: its facts, and which two of them are exclusive
pub record Level : Type 1 where
  pub fact : ℕ → Type 0
  pub exclusive : ℕ → ℕ → Type 0

-- what supports facts: an action, or the no-op that keeps a fact as it is
pub data Node : Type 0 where
  action : ℕ → Node
  noop : ℕ → Node

-- a sure add: an atom in the add set of an effect with empty condition, and in no delete set of the action
pub record SurelyAdds (effects : List EffectRow) (f : ℕ) : Type 0 where
  pub adds : (e : EffectRow) × Among e effects × (e.condition ≡ 0) × Has e.add f
  pub spares : (e : EffectRow) → Among e effects → Has e.delete f → ⊥

-- a sure delete: an atom in the delete set of an effect with empty condition, and in no add set of the action
pub record SurelyDeletes (effects : List EffectRow) (f : ℕ) : Type 0 where
  pub deletes : (e : EffectRow) × Among e effects × (e.condition ≡ 0) × Has e.delete f
  pub spares : (e : EffectRow) → Among e effects → Has e.add f → ⊥

-- a node's preconditions; the no-op of g has g
abbrev pub Needs : Task → Node → ℕ → Type 0
Needs t (action k) f = Has (t.at k).precondition f
Needs t (noop g) f = f ≡ g

-- a node's sure adds; the no-op of g has g
abbrev pub SureAdd : Task → Node → ℕ → Type 0
SureAdd t (action k) f = SurelyAdds (t.at k).effects f
SureAdd t (noop g) f = f ≡ g

-- a node's sure deletes; a no-op has none
abbrev pub SureDelete : Task → Node → ℕ → Type 0
SureDelete t (action k) f = SurelyDeletes (t.at k).effects f
SureDelete t (noop g) f = ⊥

-- the atoms of the set are facts of the level, no two of them exclusive
pub record Together (l : Level) (set : ℕ) : Type 0 where
  pub facts : (f : ℕ) → Has set f → l.fact f
  pub free : (f g : ℕ) → Has set f → Has set g → l.exclusive f g → ⊥

-- an action supports f if some effect adds f, and its precondition and that effect's condition are together in the level;
-- the no-op of a fact supports that fact
abbrev pub Supports : Task → Level → Node → ℕ → Type 0
Supports t l (action k) f =
    (k < t.count)
    × ((e : EffectRow) × Among e (t.at k).effects × Has e.add f × Together l (bit_or (t.at k).precondition e.condition))
Supports t l (noop g) f = (f ≡ g) × l.fact g

-- x surely deletes a precondition or a sure add of y
abbrev pub Hurts : Task → Node → Node → Type 0
Hurts t x y = (f : ℕ) × SureDelete t x f × (Needs t y f ⊎ SureAdd t y f)

-- a precondition of x is exclusive with one of y
abbrev pub Rivals : Task → Level → Node → Node → Type 0
Rivals t l x y = (f g : ℕ) × Needs t x f × Needs t y g × l.exclusive f g

-- two different nodes clash if one hurts the other, or if they are rivals
abbrev pub Clash : Task → Level → Node → Node → Type 0
Clash t l x y = (x ≢ y) × (Hurts t x y ⊎ (Hurts t y x ⊎ Rivals t l x y))

-- some node supports the atom
abbrev pub Supported : Task → Level → ℕ → Type 0
Supported t l f = (x : Node) × Supports t l x f

-- two supported atoms are exclusive if no node supports both, and each supporter of one clashes with each of the other
pub record Excludes (t : Task) (l : Level) (f g : ℕ) : Type 0 where
  pub one : Supported t l f
  pub other : Supported t l g
  pub apart : (x : Node) → Supports t l x f → Supports t l x g → ⊥
  pub clash : (x y : Node) → Supports t l x f → Supports t l y g → Clash t l x y

-- the level after l
abbrev pub next : Task → Level → Level
next t l = record { fact = Supported t l; exclusive = Excludes t l }

-- level 0 has the atoms of the first state and no exclusions, and each level comes from the one before
abbrev pub level : Task → ℕ → Level
level t zero = record { fact = λ f. Has t.first f; exclusive = λ f g. ⊥ }
level t (suc n) = next t (level t n)

-- two levels with the same facts and the same exclusions
pub record Same (l m : Level) : Type 0 where
  pub facts : (f : ℕ) → l.fact f → m.fact f
  pub facts' : (f : ℕ) → m.fact f → l.fact f
  pub exclusive : (f g : ℕ) → l.exclusive f g → m.exclusive f g
  pub exclusive' : (f g : ℕ) → m.exclusive f g → l.exclusive f g

-- the level allows f and g together
pub record Open (l : Level) (f g : ℕ) : Type 0 where
  pub one : l.fact f
  pub other : l.fact g
  pub free : l.exclusive f g → ⊥

-- the level bars f and g together: either is no fact there, or the two are exclusive
abbrev pub Bars : Level → ℕ → ℕ → Type 0
Bars l f g = (l.fact f → ⊥) ⊎ ((l.fact g → ⊥) ⊎ l.exclusive f g)

-- n is the closing level: the least up to 31 whose facts and exclusions equal those of n + 1
pub record ClosesAt (at : ℕ → Level) (n : ℕ) : Type 0 where
  pub below : n < 32
  pub same : Same (at n) (at (suc n))
  pub least : (k : ℕ) → k < n → Same (at k) (at (suc k)) → ⊥

-- the closing level, if there is one
abbrev pub Closing : (ℕ → Level) → Option ℕ → Type 0
Closing at (Some n) = ClosesAt at n
Closing at None = (n : ℕ) → n < 32 → Same (at n) (at (suc n)) → ⊥
