-- What was kept since a clear.
use Rattle.std.proofs.Common.{◌≡◌, ℕ, List, [], ◌∷◌, Ok, Err, Result, sym, refl, ◌∙◌, subst, inl, inr, ⊎_elim, arith}
use Rattle.problem.specs.declared.refusal.Refusal.{Refusal}
use Rattle.store.specs.Positions.{Target, Covers}
use Rattle.store.specs.Stores.{Meaning, Covered, Blank, Told, Telling}
use Rattle.store.specs.Histories.{Said, SinceClear, kept_with, kept_of, Keeps, KeptSinceClear, FewSinceClear}
use Rattle.store.specs.Laws.{covers_self}
use Rattle.store.specs.declared.answer.Answer.{Answer}
use Rattle.store.specs.declared.answer.Answer.TheVariants.{Known, Kept, PassedOver}
use Rattle.store.proofs.Counting.{few_positions}

-- to begin with, nothing was kept
keeps_none : (m : Meaning) → Blank m → Keeps [] m
keeps_none m b = record {
  different = tt;
  count = b.kept;
  only = λ r h. absurd (b.nothing r h);
  all = λ q r a k. absurd a;
}

-- one more, that was not covered
keeps_more : (qs : List Target) (m : Meaning) (q : Target) (m' : Meaning) → Keeps qs m → Told m q Kept m' → Keeps (q ∷ qs) m'
keeps_more qs m q m' h t = record {
  different = (λ a. t.0 (h.all q q a (covers_self q)), h.different);
  count = omega (arith, t.3, h.count);
  only = λ r c. ⊎_elim
      (λ o. let s = h.only r o in (s.0, inr s.1, s.2))
      (λ k. (q, inl refl, k))
      (t.1 r c);
  all = λ p r a k. t.2 r (elim a [ inl e ↦ inr (subst (λ (x : Target). Covers x r) e k) | inr b ↦ inl (h.all p r b k) ]);
}

-- the same positions, by a meaning that covers and keeps the same
keeps_alike : (qs : List Target) (m m' : Meaning) → ((r : Target) → Covered m' r → Covered m r) → ((r : Target) → Covered m r → Covered m' r)
    → m'.kept ≡ m.kept → Keeps qs m → Keeps qs m'
keeps_alike qs m m' f g e h = record {
  different = h.different;
  count = e ∙ h.count;
  only = λ r c. h.only r (f r c);
  all = λ q r a k. g r (h.all q r a k);
}

keeps_same : (qs : List Target) (m m' : Meaning) → m' ≡ m → Keeps qs m → Keeps qs m'
keeps_same qs m m' e h = subst (λ (x : Meaning). Keeps qs x) (sym e) h

keeps_told : (qs : List Target) (m : Meaning) (q : Target) (r : Result Answer Refusal) (m' : Meaning)
    → Keeps qs m → Telling m q r m' → Keeps (kept_with r q qs) m'
keeps_told qs m q (Ok Known) m' h t = keeps_same qs m m' t.1.1 h
keeps_told qs m q (Ok Kept) m' h t = keeps_more qs m q m' h t.1
keeps_told qs m q (Ok PassedOver) m' h t = keeps_alike qs m m' t.1.1 t.1.2 t.1.3 h
keeps_told qs m q (Err e) m' h t = keeps_same qs m m' t.2 h

-- whatever it was told
pub keeps_since : (ts : List Said) (m : Meaning) → SinceClear ts m → Keeps (kept_of ts) m
keeps_since [] m b = keeps_none m b
keeps_since (t ∷ ts) m h = keeps_told (kept_of ts) h.0 t.position t.answer m (keeps_since ts h.0 h.1) h.2

pub kept_since : (m : Meaning) (n : ℕ) → n ≡ m.kept → KeptSinceClear m n
kept_since m n e ts h = let k = keeps_since ts m h in (k, e ∙ k.count)

pub few_since : (m : Meaning) (n : ℕ) → n ≡ m.kept → FewSinceClear m n
few_since m n e atoms ts h f =
    let k = keeps_since ts m h in
    omega (arith, e, k.count, few_positions atoms (kept_of ts) f k.different)
