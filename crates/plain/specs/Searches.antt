-- What a search is asked, and what it answers.
use Rattle.std.specs.Prelude.{◌≡◌, ℕ, ◌+◌, ◌<◌, ◌≤◌, ◌⊎◌, List, length, vec_items}
use Rattle.sets.specs.Sets.{Apart, Within}
use Rattle.problem.specs.Firm.{Task, In, Distinct}
use Rattle.problem.specs.Runs.{Run, Leads, Goal, Meets, Unreached}
use Rattle.problem.specs.declared.refusal.Refusal.{Refusal}
use Rattle.problem.specs.declared.refusal.Refusal.TheVariants.{UnknownAtom, SharedAtom, BadLevel}
use Rattle.plain.specs.declared.found.Found.{Found}
use Rattle.plain.specs.declared.found.Found.TheVariants.{Plan, NotWithin, Full}
use Rattle.plain.specs.declared.found.Fault.{Fault}
use Rattle.plain.specs.declared.found.Fault.TheVariants.{Declined, NoMemory}

-- the goal names only atoms of the task
abbrev pub Named : Task → Goal → Type 0
Named t g = Within t.atoms g.need × Within t.atoms g.avoid

-- a goal and a limit that can be asked for
abbrev pub Asked : Task → Goal → ℕ → Type 0
Asked t g limit = Named t g × Apart g.need g.avoid × (limit ≤ 32)

-- why they cannot: atoms first, then an atom both needed and avoided, then the limit
abbrev pub SearchDeclines : Task → Goal → ℕ → Refusal → Type 0
SearchDeclines t g limit e =
    ((e ≡ UnknownAtom) × (Named t g → ⊥))
    ⊎ (((e ≡ SharedAtom) × Named t g × (Apart g.need g.avoid → ⊥))
    ⊎ ((e ≡ BadLevel) × Named t g × Apart g.need g.avoid × (limit ≤ 32 → ⊥)))

-- a shortest firm run that reaches the goal, and within the limit
pub record Solves (t : Task) (g : Goal) (limit : ℕ) (steps : List ℕ) : Type 0 where
  pub end : ℕ
  pub leads : Leads t t.first steps end
  pub meets : Meets g end
  pub within : length steps ≤ limit
  pub shortest : (k s : ℕ) → k < length steps → Run t k s → Meets g s → ⊥

-- there are more states than so many that firm runs within the limit end in
pub record Crowded (t : Task) (limit most : ℕ) : Type 0 where
  pub states : List ℕ
  pub more : length states ≡ most + 1
  pub different : Distinct states
  pub reached : (s : ℕ) → In s states → (k : ℕ) × (k ≤ limit) × Run t k s

abbrev pub Answers : Task → Goal → ℕ → ℕ → Found → Type 0
Answers t g limit most (Plan steps) = Solves t g limit (vec_items steps)
Answers t g limit most NotWithin = Unreached t limit g
Answers t g limit most Full = Crowded t limit most

-- a search fails where it declines, or where memory is wanting for a goal that can be asked for
abbrev pub Fails : Task → Goal → ℕ → Fault → Type 0
Fails t g limit (Declined e) = SearchDeclines t g limit e
Fails t g limit NoMemory = Asked t g limit
