-- What follows from the law of a search, by induction over the search.
use Rattle.std.proofs.Common.{◌≡◌, ℕ, suc, ◌+◌, ◌<◌, ◌≤◌, ◌⊎◌, List, [], ◌∷◌, length, sym, refl, subst, inl, inr, ⊎_elim, arith}
use native.Mathlib.Decide.{dec_le, dec_lt}
use Rattle.problem.specs.Firm.{Task}
use Rattle.problem.specs.Runs.{Meets, Unreached}
use Rattle.store.specs.Positions.{Target, at}
use Rattle.store.specs.Stores.{Meaning, Covered, Told}
use Rattle.store.specs.declared.answer.Answer.{Answer}
use Rattle.store.specs.declared.answer.Answer.TheVariants.{Known, Kept, PassedOver}
use Rattle.outlook.specs.Outlooks.{View, Lawful}
use Rattle.claim.specs.Search.{Question, Dropped, Open, Next, opening, round_of, Event, opened, WasTold, opened_in, Search, begins, drops, opens, tells, kept_in, passed_in, KeptCovers}
use Rattle.claim.specs.Claim.{Sound, RuledOut, WasOpened}
use Rattle.claim.proofs.Reaching.{unreached_exhausted, told_sound}
use Rattle.claim.proofs.Opening.{Chain, Uncovered, Rooted, Linked, uncovered_after, chain_opening, uncovered_opening, linked_opening, linked_less, rooted_opening, rooted_less, opening_length}

-- the round k has failed
abbrev pub Past : ℕ → List Open → ℕ → Type 0
Past n [] k = k ≤ n
Past n (f ∷ fs) k = k < n

-- what is told covers nothing of a higher level
pub still : (m : Meaning) (q : Target) (a : Answer) (m' : Meaning) → Told m q a m' → (r : Target) → q.level < r.level
    → Covered m' r → Covered m r
still m q Known m' t r lt c = subst (λ (x : Meaning). Covered x r) t.1 c
still m q Kept m' t r lt c = elim (t.1 r c) [ inl was ↦ was | inr now ↦ absurd (let z : ⊥ = omega (arith, now.level) in z) ]
still m q PassedOver m' t r lt c = t.1 r c

module _ {p : Task} {v : View} {a : Question} {m₀ : Meaning} where
  pub chain : {n : ℕ} {st : List Open} {log : List Event} {m : Meaning} → Search p v a m₀ n st log m → Chain n st × (n ≤ a.limit)
  chain begins = (tt, omega arith)
  chain (drops s lt fails d) = (tt, lt)
  chain (opens {n} {st} {m} step q s lt x) = let c = chain s in chain_opening p v a m n st step q x c.0 c.1
  chain (tells f b m' s ex t) = let c = chain s in (c.0.2, c.1)

  pub rooted : {n : ℕ} {st : List Open} {log : List Event} {m : Meaning} → Search p v a m₀ n st log m → Rooted n a.goal st
  rooted begins = tt
  rooted (drops s lt fails d) = tt
  rooted (opens {n} {st} {m} step q s lt x) = rooted_opening p v a m n st step q x (rooted s)
  rooted (tells {n} {st} f b m' s ex t) = rooted_less n a.goal f st (rooted s)

  pub linked : {n : ℕ} {st : List Open} {log : List Event} {m : Meaning} → Search p v a m₀ n st log m → Linked p st
  linked begins = tt
  linked (drops s lt fails d) = tt
  linked (opens {n} {st} {m} step q s lt x) = linked_opening p v a m n st step q x (linked s)
  linked (tells {n} {st} f b m' s ex t) = linked_less p f st (linked s)

  -- nothing told covers an open position
  pub uncovered : {n : ℕ} {st : List Open} {log : List Event} {m : Meaning} → Search p v a m₀ n st log m → Uncovered m st
  uncovered begins = tt
  uncovered (drops s lt fails d) = tt
  uncovered (opens {n} {st} {m} step q s lt x) = uncovered_opening p v a m n st step q x (uncovered s)
  uncovered (tells {n} {st} {m} f b m' s ex t) =
      let c = (chain s).0 in
      uncovered_after n f.position.level m m' st c.2 (omega (arith, c.0)) (still m f.position b m' t) (uncovered s).1

  -- nor the goal of a later round
  pub later : {n : ℕ} {st : List Open} {log : List Event} {m : Meaning} → Search p v a m₀ n st log m
      → (k : ℕ) → n < k → Covered m (at k a.goal) → Covered m₀ (at k a.goal)
  later begins k lt c = c
  later (drops s l fails d) k lt c = later s k (omega arith) c
  later (opens {n} {st} step q s l x) k lt c = later s k (go n st lt) c
    where
      go : (n : ℕ) (st : List Open) → round_of n st < k → n < k
      go n [] h = omega arith
      go n (f ∷ fs) h = h
  later (tells {n} {st} {m} f b m' s ex t) k lt c =
      let ch = (chain s).0 in
      later s k lt (still m f.position b m' t (at k a.goal) (omega (arith, ch.0)) c)

  -- so the store is never told what it covers
  pub never_known : {n : ℕ} {st : List Open} {log : List Event} {m m' : Meaning} (f : Open) → Search p v a m₀ n (f ∷ st) log m
      → Told m f.position Known m' → ⊥
  never_known f s t = (uncovered s).0 t.0

  -- each opened position is kept, passed over or left open
  pub sums : {n : ℕ} {st : List Open} {log : List Event} {m : Meaning} → Search p v a m₀ n st log m
      → opened_in log ≡ kept_in log + passed_in log + length st
  sums begins = refl
  sums (drops s lt fails d) = sums s
  sums (opens {st} step q s lt x) = omega (arith, sums s, opening_length st step q)
  sums (tells f Known m' s ex t) = absurd (never_known f s t)
  sums (tells f Kept m' s ex t) = omega (arith, sums s)
  sums (tells f PassedOver m' s ex t) = omega (arith, sums s)

  -- and no more are opened than the budget allows
  pub within : {n : ℕ} {st : List Open} {log : List Event} {m : Meaning} → Search p v a m₀ n st log m → opened_in log ≤ a.budget
  within begins = omega arith
  within (drops s lt fails d) = within s
  within (opens step q s lt x) = omega arith
  within (tells f b m' s ex t) = within s

  pub kept_grows : {n : ℕ} {st : List Open} {log : List Event} {m : Meaning} → Search p v a m₀ n st log m → m.kept ≡ m₀.kept + kept_in log
  kept_grows begins = omega arith
  kept_grows (drops s lt fails d) = kept_grows s
  kept_grows (opens step q s lt x) = kept_grows s
  kept_grows (tells f Known m' s ex t) = absurd (never_known f s t)
  kept_grows (tells f Kept m' s ex t) = omega (arith, kept_grows s, t.3)
  kept_grows (tells f PassedOver m' s ex t) = omega (arith, kept_grows s, t.3)

  pub passed_grows : {n : ℕ} {st : List Open} {log : List Event} {m : Meaning} → Search p v a m₀ n st log m
      → m.passed ≡ m₀.passed + passed_in log
  passed_grows begins = omega arith
  passed_grows (drops s lt fails d) = passed_grows s
  passed_grows (opens step q s lt x) = passed_grows s
  passed_grows (tells f Known m' s ex t) = absurd (never_known f s t)
  passed_grows (tells f Kept m' s ex t) = omega (arith, passed_grows s, t.4)
  passed_grows (tells f PassedOver m' s ex t) = omega (arith, passed_grows s, t.4)

  -- so the counts leave room for what is open
  pub room_to_tell : {n : ℕ} {st : List Open} {log : List Event} {m : Meaning} (f : Open) → Search p v a m₀ n (f ∷ st) log m
      → m.kept + m.passed < m₀.kept + m₀.passed + a.budget
  room_to_tell f s = omega (arith, sums s, within s, kept_grows s, passed_grows s)

  -- the store covers what it did, and what the kept ones cover
  pub covers_some : {n : ℕ} {st : List Open} {log : List Event} {m : Meaning} → Search p v a m₀ n st log m
      → (r : Target) → Covered m r → Covered m₀ r ⊎ KeptCovers log r
  covers_some begins r c = inl c
  covers_some (drops s lt fails d) r c = covers_some s r c
  covers_some (opens step q s lt x) r c = covers_some s r c
  covers_some (tells f Known m' s ex t) r c = absurd (never_known f s t)
  covers_some (tells f Kept m' s ex t) r c = ⊎_elim (λ was. ⊎_elim inl (λ k. inr (inr k)) (covers_some s r was)) (λ new. inr (inl new)) (t.1 r c)
  covers_some (tells f PassedOver m' s ex t) r c = covers_some s r (t.1 r c)

  pub covers_all : {n : ℕ} {st : List Open} {log : List Event} {m : Meaning} → Search p v a m₀ n st log m
      → (r : Target) → Covered m₀ r ⊎ KeptCovers log r → Covered m r
  covers_all begins r c = ⊎_elim (λ x. x) (λ x. absurd x) c
  covers_all (drops s lt fails d) r c = covers_all s r c
  covers_all (opens step q s lt x) r c = covers_all s r c
  covers_all (tells f Known m' s ex t) r c = absurd (never_known f s t)
  covers_all (tells f Kept m' s ex t) r (inl c) = t.2 r (inl (covers_all s r (inl c)))
  covers_all (tells f Kept m' s ex t) r (inr (inl c)) = t.2 r (inr c)
  covers_all (tells f Kept m' s ex t) r (inr (inr c)) = t.2 r (inl (covers_all s r (inr c)))
  covers_all (tells f PassedOver m' s ex t) r c = t.2 r (covers_all s r c)

  -- no firm run of at most n steps ends in a state meeting a told position of level n, and the store stays sound
  pub sound : Lawful p v → a.limit ≤ 32 → Sound p m₀ → {n : ℕ} {st : List Open} {log : List Event} {m : Meaning}
      → Search p v a m₀ n st log m
      → Sound p m × ((r : Target) → WasTold r log → Unreached p r.level r.goal)
  sound law le h begins = (h, λ r w. absurd w)
  sound law le h (drops s lt fails d) = sound law le h s
  sound law le h (opens step q s lt x) = sound law le h s
  sound law le h (tells {log} {m} f b m' s ex t) =
      let was = sound law le h s in
      let c = chain s in
      let u = unreached_exhausted p v law m log was.0 was.1 f.position c.0.1 (omega (arith, c.0.0, c.1)) ex in (
        told_sound p m f.position b m' was.0 u t,
        λ r w. elim w [ inl e ↦ subst (λ (x : Target). Unreached p x.level x.goal) (sym e) u | inr w' ↦ was.1 r w' ],
      )

  -- from round 1 on the first state does not meet the goal
  pub begun : {n : ℕ} {st : List Open} {log : List Event} {m : Meaning} → Search p v a m₀ n st log m → 1 ≤ n
      → Meets a.goal p.first → ⊥
  begun begins h = absurd (let z : ⊥ = omega arith in z)
  begun (drops s lt fails d) h = fails
  begun (opens {n} {st} {m} step q s lt x) h = go m n st x h (begun s)
    where
      go : (m : Meaning) (n : ℕ) (st : List Open) → Next p v a m n st step q → 1 ≤ round_of n st
          → (1 ≤ n → Meets a.goal p.first → ⊥) → Meets a.goal p.first → ⊥
      go m n [] y h' ih = y.1
      go m n (f ∷ fs) y h' ih = ih h'
  begun (tells f b m' s ex t) h = begun s h

  -- a goal dropped in its round was ruled out as the turn began
  pub ruled : {n : ℕ} {log : List Event} {m : Meaning} → Search p v a m₀ n [] log m → Dropped v m (at (suc n) a.goal)
      → RuledOut v a.goal m₀ (suc n)
  ruled s (inl b) = inr b
  ruled {n} s (inr c) = inl (later s (suc n) (omega arith) c)

  -- in each round that has failed, the goal was ruled out or told
  pub failed : {n : ℕ} {st : List Open} {log : List Event} {m : Meaning} → Search p v a m₀ n st log m
      → (k : ℕ) → 1 ≤ k → Past n st k → RuledOut v a.goal m₀ k ⊎ WasTold (at k a.goal) log
  failed begins k h past = absurd (let z : ⊥ = omega arith in z)
  failed (drops {n} s lt fails d) k h past = elim (dec_le k n) [
    | yes le ↦ failed s k h le
    | no gt ↦ inl (let e : suc n ≡ k = omega arith in subst (λ (x : ℕ). RuledOut v a.goal m₀ x) e (ruled s d))
  ]
  failed (opens {n} {st} {log} step q s lt x) k h past = failed s k h (go n st past)
    where
      go : (n : ℕ) (st : List Open) → Past (round_of n st) (opening st step q) k → Past n st k
      go n [] y = omega arith
      go n (f ∷ fs) y = y
  failed (tells {n} {st = []} f b m' s ex t) k h past = elim (dec_lt k n) [
    | yes le ↦ ⊎_elim inl (λ w. inr (inr w)) (failed s k h le)
    | no gt ↦ inr (inl (let e : k ≡ n = omega arith in rw e (sym (rooted s))))
  ]
  failed (tells {st = h' ∷ fs} f b m' s ex t) k h past = ⊎_elim inl (λ w. inr (inr w)) (failed s k h past)

  -- and in each round so far it was ruled out or opened
  pub entered : {n : ℕ} {st : List Open} {log : List Event} {m : Meaning} → Search p v a m₀ n st log m
      → (k : ℕ) → 1 ≤ k → k ≤ n → RuledOut v a.goal m₀ k ⊎ WasOpened (at k a.goal) log
  entered begins k h le = absurd (let z : ⊥ = omega arith in z)
  entered (drops {n} s lt fails d) k h le = elim (dec_le k n) [
    | yes le' ↦ entered s k h le'
    | no gt ↦ inl (let e : suc n ≡ k = omega arith in subst (λ (x : ℕ). RuledOut v a.goal m₀ x) e (ruled s d))
  ]
  entered (opens {n} {st} {log} {m} step q s lt x) k h le = go m n st x le (entered s k h)
    where
      go : (m : Meaning) (n : ℕ) (st : List Open) → Next p v a m n st step q → k ≤ round_of n st
          → (k ≤ n → RuledOut v a.goal m₀ k ⊎ WasOpened (at k a.goal) log)
          → RuledOut v a.goal m₀ k ⊎ WasOpened (at k a.goal) (opened step q ∷ log)
      go m n [] y le' ih = elim (dec_le k n) [
        | yes l ↦ ⊎_elim inl (λ w. inr (inr w)) (ih l)
        | no gt ↦ inr (inl (let e : k ≡ suc n = omega arith in rw e (sym y.2)))
      ]
      go m n (f ∷ fs) y le' ih = ⊎_elim inl (λ w. inr (inr w)) (ih le')
  entered (tells f b m' s ex t) k h le = entered s k h le
