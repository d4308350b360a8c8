-- What the actions of a step do in all the states between two masks, and in some of them. Where both masks are one state, "surely"
-- and "maybe" are what is done in that state.
use Rattle.std.specs.Prelude.{◌≡◌, ℕ, ◌^◌, cond, ◌⊎◌, List, ◌==◌, bit_and, bit_or}
use Rattle.sets.specs.Sets.{Has, Inside, Apart, minus}
use Rattle.problem.specs.Actions.{Action, Among, gather, adds, deletes, cuts}
use Rattle.problem.specs.Runs.{Goal}
use Rattle.problem.specs.declared.rows.EffectRow.{EffectRow}

-- the state s lies between lo and hi
abbrev pub Between : ℕ → ℕ → ℕ → Type 0
Between lo hi s = Inside lo s × Inside s hi

-- the conditions of the effects that fire in s
abbrev pub conditions : ℕ → List EffectRow → ℕ
conditions s es = gather (λ e. e.condition) s es

-- r is the union of one set of each effect that fires in s, those of which P holds
abbrev pub GatheredBy : (EffectRow → ℕ → Type 0) → ℕ → List EffectRow → ℕ → Type 0
GatheredBy P s es r = (part : EffectRow → ℕ) → ((e : EffectRow) (x : ℕ) → P e x → x ≡ part e) → r ≡ gather part s es

-- what the action i must find in s: its precondition, and the conditions of what it fires
abbrev pub reads : (ℕ → Action) → ℕ → ℕ → ℕ
reads at s i = bit_or (at i).precondition (conditions s (at i).effects)

-- what the action i gives in every state between lo and hi, and what it gives in any of them
abbrev pub sure_gives : (ℕ → Action) → ℕ → ℕ → ℕ → ℕ
sure_gives at lo hi i = minus (adds lo (at i).effects) (deletes hi (at i).effects)

abbrev pub may_give : (ℕ → Action) → ℕ → ℕ → ℕ → ℕ
may_give at lo hi i = minus (adds hi (at i).effects) (deletes lo (at i).effects)

-- r is the union of the sets that f has for the members of step
pub record Union (f : ℕ → ℕ) (step r : ℕ) : Type 0 where
  pub from : (k : ℕ) → Has r k → (j : ℕ) × Has step j × Has (f j) k
  pub into : (j : ℕ) → Has step j → Inside (f j) r

-- r is the union of sets of which P holds, one for each member of step
pub record UnionBy (P : ℕ → ℕ → Type 0) (step r : ℕ) : Type 0 where
  pub from : (k : ℕ) → Has r k → (j : ℕ) × Has step j × ((s : ℕ) × P j s × Has s k)
  pub into : (j : ℕ) → Has step j → (s : ℕ) × P j s × Inside s r

-- the part above lo of an effect's condition, if the effect adds an atom of add, deletes one of delete or has one of read in its condition
abbrev pub wanted : ℕ → ℕ → ℕ → ℕ → EffectRow → ℕ
wanted lo add delete read e =
    cond (bit_or (bit_or (bit_and e.add add) (bit_and e.delete delete)) (bit_and e.condition read) == 0) 0 (minus e.condition lo)

-- what is open in the conditions of the effects of j that add an atom of add or delete one of delete
abbrev pub opens : (ℕ → Action) → ℕ → ℕ → ℕ → ℕ → ℕ → ℕ
opens at lo hi add delete j = gather (wanted lo add delete 0) hi (at j).effects

-- what j may give to a condition of which it does not surely delete an atom
abbrev pub may_help : (ℕ → Action) → ℕ → ℕ → ℕ → ℕ → ℕ
may_help at lo hi c j = cond (bit_and (cuts at lo j) c == 0) (may_give at lo hi j) 0

-- no action of the step may delete an atom of q
abbrev pub Kept : (ℕ → Action) → ℕ → ℕ → ℕ → ℕ → Type 0
Kept at step q lo hi = (j : ℕ) → Has step j → Apart q (cuts at hi j)

-- each atom of q is surely there, or an action of the step surely gives it
abbrev pub Got : (ℕ → Action) → ℕ → ℕ → ℕ → ℕ → Type 0
Got at step q lo hi = (k : ℕ) → Has q k → Has lo k ⊎ ((j : ℕ) × Has step j × Has (sure_gives at lo hi j) k)

-- no action of the step may give an atom of q
abbrev pub Ungiven : (ℕ → Action) → ℕ → ℕ → ℕ → ℕ → Type 0
Ungiven at step q lo hi = (j : ℕ) → Has step j → Apart q (may_give at lo hi j)

-- an action of the step surely deletes each atom of q that may be there
abbrev pub Cleared : (ℕ → Action) → ℕ → ℕ → ℕ → ℕ → Type 0
Cleared at step q lo hi = (k : ℕ) → Has q k → Has hi k → (j : ℕ) × Has step j × Has (cuts at lo j) k

-- what the goal needs is there or given, and not deleted; what it avoids is absent or deleted, and not given
abbrev pub Reached : (ℕ → Action) → ℕ → Goal → ℕ → ℕ → Type 0
Reached at step q lo hi =
    (Kept at step q.need lo hi × Got at step q.need lo hi) × (Ungiven at step q.avoid lo hi × Cleared at step q.avoid lo hi)

-- j may delete nothing that i may give, and nothing that i may have to find
abbrev pub Unhurt : (ℕ → Action) → ℕ → ℕ → ℕ → ℕ → Type 0
Unhurt at i j lo hi = Apart (may_give at lo hi i) (cuts at hi j) × Apart (reads at hi i) (cuts at hi j)

-- one of the others may give k, and does not surely delete an atom of the condition c
abbrev pub Helped : (ℕ → Action) → ℕ → ℕ → ℕ → ℕ → ℕ → Type 0
Helped at others c lo hi k = (j : ℕ) × Has others j × Apart c (cuts at lo j) × Has (may_give at lo hi j) k

-- if what of the condition c is surely absent may all be given, then nothing of c that may be absent is given: so c does not come to
-- hold by the others where it does not hold
abbrev pub Rest : (ℕ → Action) → ℕ → ℕ → ℕ → ℕ → Type 0
Rest at others c lo hi =
    ((k : ℕ) → Has c k → Has hi k ⊎ Helped at others c lo hi k) → (k : ℕ) → Has c k → (Has lo k → ⊥) → Helped at others c lo hi k → ⊥

abbrev pub RestAll : (ℕ → Action) → List EffectRow → ℕ → ℕ → ℕ → Type 0
RestAll at es others lo hi = (e : EffectRow) → Among e es → Rest at others e.condition lo hi

-- the others leave alone what i gives and must find
abbrev pub UnhurtBy : (ℕ → Action) → ℕ → ℕ → ℕ → ℕ → Type 0
UnhurtBy at i others lo hi = (j : ℕ) → Has others j → Unhurt at i j lo hi

-- the action i of the step surely may run, and the others neither hurt it nor make it fire more
abbrev pub Fine : (ℕ → Action) → ℕ → ℕ → ℕ → ℕ → Type 0
Fine at step i lo hi =
    Inside (at i).precondition lo × (UnhurtBy at i (minus step (2 ^ i)) lo hi × RestAll at (at i).effects (minus step (2 ^ i)) lo hi)

-- each action of the step is fine, and together they reach the goal: in every state between lo and hi
abbrev pub Sure : (ℕ → Action) → ℕ → Goal → ℕ → ℕ → Type 0
Sure at step q lo hi = ((i : ℕ) → Has step i → Fine at step i lo hi) × Reached at step q lo hi

-- whatever i may do for the goal, one of the others surely does
abbrev pub Idle : (ℕ → Action) → ℕ → ℕ → Goal → ℕ → ℕ → Type 0
Idle at i others q lo hi =
    ((k : ℕ) → Has q.need k → (Has lo k → ⊥) → Has (may_give at lo hi i) k → (j : ℕ) × Has others j × Has (sure_gives at lo hi j) k)
    × ((k : ℕ) → Has q.avoid k → Has hi k → Has (cuts at hi i) k → (j : ℕ) × Has others j × Has (cuts at lo j) k)

-- an action of the step is idle
abbrev pub SomeIdle : (ℕ → Action) → ℕ → Goal → ℕ → ℕ → Type 0
SomeIdle at step q lo hi = (i : ℕ) × Has step i × Idle at i (minus step (2 ^ i)) q lo hi
