-- The open positions of a search: how they stand one below the other.
use Rattle.std.proofs.Common.{◌≡◌, ℕ, suc, ◌+◌, ◌<◌, ◌≤◌, List, [], ◌∷◌, length, refl, ap, subst, inr, arith}
use Rattle.problem.specs.Firm.{Task}
use Rattle.problem.specs.Runs.{Goal, Meets, Leads}
use Rattle.store.specs.Positions.{Target, at}
use Rattle.store.specs.Stores.{Meaning, Covered}
use Rattle.outlook.specs.Outlooks.{View}
use Rattle.claim.specs.Search.{Question, Due, Open, Next, opening, round_of}
use Rattle.claim.specs.Turns.{path}

-- the open positions stand one level under another, down from the round's
abbrev pub Chain : ℕ → List Open → Type 0
Chain n [] = Unit {0}
Chain n (f ∷ fs) = (f.position.level + length fs ≡ n) × (1 ≤ f.position.level) × Chain n fs

-- the store covers none of them
abbrev pub Uncovered : Meaning → List Open → Type 0
Uncovered m [] = Unit {0}
Uncovered m (f ∷ fs) = (Covered m f.position → ⊥) × Uncovered m fs

-- the highest is the goal at the round's level
abbrev pub Rooted : ℕ → Goal → List Open → Type 0
Rooted n g [] = Unit {0}
Rooted n g (f ∷ []) = f.position ≡ at n g
Rooted n g (f ∷ (h ∷ fs)) = Rooted n g (h ∷ fs)

pub uncovered_after : (n l : ℕ) (m m' : Meaning) (st : List Open) → Chain n st → l + length st ≤ n
    → ((r : Target) → l < r.level → Covered m' r → Covered m r) → Uncovered m st → Uncovered m' st
uncovered_after n l m m' [] ch le f u = tt
uncovered_after n l m m' (h ∷ st) ch le f u =
    (λ c. u.0 (f h.position (omega (arith, ch.0)) c), uncovered_after n l m m' st ch.2 (omega arith) f u.1)

pub chain_opening : (p : Task) (v : View) (a : Question) (m : Meaning) (n : ℕ) (st : List Open) (step : ℕ) (q : Target)
    → Next p v a m n st step q → Chain n st → n ≤ a.limit → Chain (round_of n st) (opening st step q) × (round_of n st ≤ a.limit)
chain_opening p v a m n [] step q x ch le =
    let e = ap (λ (r : Target). r.level) x.2 in
    ((omega arith, omega arith, tt), x.0)
chain_opening p v a m n (f ∷ fs) step q x ch le =
    let d = x.0 in
    ((omega (arith, d.lower, ch.0), d.level, (ch.0, ch.1, ch.2)), le)

pub uncovered_opening : (p : Task) (v : View) (a : Question) (m : Meaning) (n : ℕ) (st : List Open) (step : ℕ) (q : Target)
    → Next p v a m n st step q → Uncovered m st → Uncovered m (opening st step q)
uncovered_opening p v a m n [] step q x u = (λ c. x.3 (inr c), tt)
uncovered_opening p v a m n (f ∷ fs) step q x u = (λ c. x.2 (inr c), u)

-- the step of each open position makes it due below the next
abbrev pub Linked : Task → List Open → Type 0
Linked p [] = Unit {0}
Linked p (f ∷ []) = Unit {0}
Linked p (f ∷ (h ∷ fs)) = Due p h.position f.step f.position × Linked p (h ∷ fs)

pub linked_opening : (p : Task) (v : View) (a : Question) (m : Meaning) (n : ℕ) (st : List Open) (step : ℕ) (q : Target)
    → Next p v a m n st step q → Linked p st → Linked p (opening st step q)
linked_opening p v a m n [] step q x l = tt
linked_opening p v a m n (f ∷ []) step q x l = (x.0, tt)
linked_opening p v a m n (f ∷ (h ∷ fs)) step q x l = (x.0, l)

pub linked_less : (p : Task) (f : Open) (st : List Open) → Linked p (f ∷ st) → Linked p st
linked_less p f [] l = tt
linked_less p f (h ∷ st) l = l.1

-- from a state that meets the lowest open position the path leads to the goal
pub along : (p : Task) (n : ℕ) (g : Goal) (f : Open) (fs : List Open) → Linked p (f ∷ fs) → Rooted n g (f ∷ fs) → (s : ℕ)
    → Meets f.position.goal s
    → (end : ℕ) × Leads p s (path (f ∷ fs)) end × Meets g end
along p n g f [] l r s m = (s, refl, subst (λ (x : Target). Meets x.goal s) r m)
along p n g f (h ∷ fs) l r s m =
    let d = l.0.leads s m in
    let e = along p n g h fs l.1 r d.0 d.2 in
    (e.0, (d.0, d.1, e.1), e.2)

pub path_length : (f : Open) (fs : List Open) → length (path (f ∷ fs)) ≡ length fs
path_length f [] = refl
path_length f (h ∷ fs) = ap suc (path_length h fs)

pub rooted_opening : (p : Task) (v : View) (a : Question) (m : Meaning) (n : ℕ) (st : List Open) (step : ℕ) (q : Target)
    → Next p v a m n st step q → Rooted n a.goal st → Rooted (round_of n st) a.goal (opening st step q)
rooted_opening p v a m n [] step q x r = x.2
rooted_opening p v a m n (f ∷ []) step q x r = r
rooted_opening p v a m n (f ∷ (h ∷ fs)) step q x r = r

pub rooted_less : (n : ℕ) (g : Goal) (f : Open) (st : List Open) → Rooted n g (f ∷ st) → Rooted n g st
rooted_less n g f [] r = tt
rooted_less n g f (h ∷ st) r = r

pub opening_length : (st : List Open) (step : ℕ) (q : Target) → length (opening st step q) ≡ suc (length st)
opening_length [] step q = refl
opening_length (f ∷ fs) step q = refl
