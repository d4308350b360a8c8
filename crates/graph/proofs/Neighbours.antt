-- Bars only loosen, pairs go both ways, and equal neighbours stay equal.
use Rattle.std.proofs.Common.{◌≡◌, ℕ, zero, suc, ◌+◌, ◌-◌, ◌<◌, ◌≤◌, sym, refl, subst, inl, inr, add-zero, add-suc, arith}
use native.Mathlib.Decide.{dec_le}
use lib.Bits.{bit_or}
use Rattle.sets.specs.Sets.{Has}
use Rattle.sets.proofs.Bits.{bit_digit, bit_of_or}
use Rattle.problem.specs.Firm.{Task}
use Rattle.problem.specs.Runs.{Run}
use Rattle.problem.specs.Problems.{Fits}
use Rattle.problem.specs.declared.rows.EffectRow.{EffectRow}
use Rattle.graph.specs.Levels.{Level, Node, action, noop, Together, Supports, Clash, Excludes, next, level, Same, Open, Bars}
use Rattle.graph.specs.Theorems.{ExclusiveBoth, BarsLoosen, NeighboursStay, BarredUnreached, ClosedUnreached}
use Rattle.graph.proofs.Soundness.{levels_sound}

-- ---- the no-ops of two atoms that may hold together do not clash

open_next : (t : Task) (l : Level) (f g : ℕ) → Open l f g → Open (next t l) f g
open_next t l f g o = record {
  one = (noop f, (refl, o.one));
  other = (noop g, (refl, o.other));
  free = λ ex. elim (ex.clash (noop f) (noop g) (refl, o.one) (refl, o.other)).1 [
    | inl h ↦ h.1
    | inr r ↦ elim r [
      | inl h ↦ h.1
      | inr h ↦ o.free (subst (λ (x : ℕ). l.exclusive x g) h.2 (subst (λ (y : ℕ). l.exclusive h.0 y) h.3 h.4))
    ]
  ];
}

pub loosen : BarsLoosen
loosen t n f g o = open_next t (level t n) f g o

loosen_more : (t : Task) (k n f g : ℕ) → Open (level t n) f g → Open (level t (n + k)) f g
loosen_more t zero n f g o = rw (add-zero n) o
loosen_more t (suc k) n f g o = rw (add-suc n k) (loosen t (n + k) f g (loosen_more t k n f g o))

loosen_up : (t : Task) (n m f g : ℕ) → n ≤ m → Open (level t n) f g → Open (level t m) f g
loosen_up t n m f g le o =
    let e : n + (m - n) ≡ m = omega arith in
    subst (λ (x : ℕ). Open (level t x) f g) e (loosen_more t (m - n) n f g o)

-- ---- pairs go both ways

clash_turned : (t : Task) (l : Level) → ((f g : ℕ) → l.exclusive f g → l.exclusive g f) → (x y : Node) → Clash t l x y → Clash t l y x
clash_turned t l both x y c = (
  (λ e. c.0 (sym e)),
  elim c.1 [
    | inl h ↦ inr (inl h)
    | inr r ↦ elim r [
      | inl h ↦ inl h
      | inr h ↦ inr (inr (h.1, h.0, h.3, h.2, both h.0 h.1 h.4))
    ]
  ],
)

pub exclusive_both : ExclusiveBoth
exclusive_both t zero f g z = z
exclusive_both t (suc n) f g ex = record {
  one = ex.other;
  other = ex.one;
  apart = λ x a b. ex.apart x b a;
  clash = λ x y a b. clash_turned t (level t n) (exclusive_both t n) y x (ex.clash y x b a);
}

-- ---- the facts of a level are atoms of the task

pub fact_atom : (t : Task) → Fits t → (n f : ℕ) → (level t n).fact f → f < t.atoms
fact_atom t fits zero f h = fits.first f h
fact_atom t fits (suc n) f h = by h.0 h.1 (fact_atom t fits n)
  where
    by : (x : Node) → Supports t (level t n) x f → ((g : ℕ) → (level t n).fact g → g < t.atoms) → f < t.atoms
    by (action k) s before =
        let e : EffectRow = s.1.0 in
        fits.effects k s.0 e s.1.1 f (omega (
          arith,
          s.1.2,
          bit_of_or (bit_or e.condition e.add) e.delete f,
          bit_of_or e.condition e.add f,
          bit_digit e.condition f,
          bit_digit e.delete f,
        ))
    by (noop g) s before = subst (λ (x : ℕ). x < t.atoms) (sym s.0) (before g s.1)

-- ---- a level is determined by the one before

pub turned : (l m : Level) → Same l m → Same m l
turned l m s = record { facts = s.facts'; facts' = s.facts; exclusive = s.exclusive'; exclusive' = s.exclusive }

pub joined : (l m r : Level) → Same l m → Same m r → Same l r
joined l m r s t = record {
  facts = λ f h. t.facts f (s.facts f h);
  facts' = λ f h. s.facts' f (t.facts' f h);
  exclusive = λ f g h. t.exclusive f g (s.exclusive f g h);
  exclusive' = λ f g h. s.exclusive' f g (t.exclusive' f g h);
}

module _ (t : Task) (l m : Level) (s : Same l m) where
  together_same : (set : ℕ) → Together l set → Together m set
  together_same set h = record { facts = λ f i. s.facts f (h.facts f i); free = λ f g a b x. h.free f g a b (s.exclusive' f g x) }

  pub supports_same : (x : Node) (f : ℕ) → Supports t l x f → Supports t m x f
  supports_same (action k) f h = (h.0, (h.1.0, h.1.1, h.1.2, together_same (bit_or (t.at k).precondition h.1.0.condition) h.1.3))
  supports_same (noop g) f h = (h.0, s.facts g h.1)

  clash_same : (x y : Node) → Clash t l x y → Clash t m x y
  clash_same x y c = (
    c.0,
    elim c.1 [
      | inl h ↦ inl h
      | inr r ↦ inr (elim r [ inl h ↦ inl h | inr h ↦ inr (h.0, h.1, h.2, h.3, s.exclusive h.0 h.1 h.4) ])
    ],
  )

excludes_same : (t : Task) (l m : Level) → Same l m → (f g : ℕ) → Excludes t l f g → Excludes t m f g
excludes_same t l m s f g ex =
    let r = turned l m s in
    record {
      one = (ex.one.0, supports_same t l m s ex.one.0 f ex.one.1);
      other = (ex.other.0, supports_same t l m s ex.other.0 g ex.other.1);
      apart = λ x a b. ex.apart x (supports_same t m l r x f a) (supports_same t m l r x g b);
      clash = λ x y a b. clash_same t l m s x y (ex.clash x y (supports_same t m l r x f a) (supports_same t m l r y g b));
    }

pub next_same : (t : Task) (l m : Level) → Same l m → Same (next t l) (next t m)
next_same t l m s = record {
  facts = λ f h. (h.0, supports_same t l m s h.0 f h.1);
  facts' = λ f h. (h.0, supports_same t m l (turned l m s) h.0 f h.1);
  exclusive = excludes_same t l m s;
  exclusive' = excludes_same t m l (turned l m s);
}

-- ---- equal neighbours stay equal

neighbours : (t : Task) (n : ℕ) → Same (level t n) (level t (suc n)) → (k : ℕ) → Same (level t (n + k)) (level t (suc (n + k)))
neighbours t n s zero = rw (add-zero n) s
neighbours t n s (suc k) = rw (add-suc n k) (next_same t (level t (n + k)) (level t (suc (n + k))) (neighbours t n s k))

pub same_self : (l : Level) → Same l l
same_self l = record { facts = λ f h. h; facts' = λ f h. h; exclusive = λ f g h. h; exclusive' = λ f g h. h }

closed : (t : Task) (n : ℕ) → Same (level t n) (level t (suc n)) → (k : ℕ) → Same (level t n) (level t (n + k))
closed t n s zero = rw (add-zero n) (same_self (level t n))
closed t n s (suc k) = rw (add-suc n k) (joined _ _ _ (closed t n s k) (neighbours t n s k))

pub stay : NeighboursStay
stay t n s k le =
    let e : n + (k - n) ≡ k = omega arith in
    subst (λ (x : ℕ). Same (level t n) (level t x)) e (closed t n s (k - n))

-- ---- what runs do not reach

pub open_same : (l m : Level) → Same l m → (f g : ℕ) → Open l f g → Open m f g
open_same l m s f g o = record { one = s.facts f o.one; other = s.facts g o.other; free = λ x. o.free (s.exclusive' f g x) }

pub bars_open : (l : Level) (f g : ℕ) → Bars l f g → Open l f g → ⊥
bars_open l f g (inl n) o = n o.one
bars_open l f g (inr (inl n)) o = n o.other
bars_open l f g (inr (inr x)) o = o.free x

reached_open : (t : Task) → Fits t → (k s : ℕ) → Run t k s → (f g : ℕ) → Has s f → Has s g → Open (level t k) f g
reached_open t fits k s run f g hf hg =
    let r = levels_sound t fits k s run in
    record { one = r.facts f hf; other = r.facts g hg; free = r.free f g hf hg }

pub barred_unreached : BarredUnreached
barred_unreached t fits n k s le run f g hf hg bar =
    bars_open (level t n) f g bar (loosen_up t k n f g le (reached_open t fits k s run f g hf hg))

pub closed_unreached : ClosedUnreached
closed_unreached t fits n same k s run f g hf hg bar =
    let o : Open (level t k) f g = reached_open t fits k s run f g hf hg in
    bars_open (level t n) f g bar (elim (dec_le n k) [
      | yes le ↦ open_same (level t k) (level t n) (turned (level t n) (level t k) (stay t n same k le)) f g o
      | no gt ↦ loosen_up t k n f g (omega arith) o
    ])
