-- The first levels of the model valuation.
use Rattle.std.proofs.Common.{◌≡◌, ℕ, zero, suc, ◌^◌, ◌<◌, ◌≤◌, ◌⊎◌, List, [], ◌∷◌, length, sym, refl, ◌∙◌, subst, inl, inr, arith, lit<, lit≤}
use native.Mathlib.Decide.{dec_le}
use Rattle.std.proofs.lemmas.List.{get_or_past}
use Rattle.sets.specs.Sets.{bit, Has, Within, Marks, minus}
use Rattle.sets.proofs.Members.{below_within, not_in_none, single_marks}
use Rattle.problem.specs.Rows.{names_of}
use Rattle.problem.specs.Actions.{Among}
use Rattle.problem.specs.Problems.{Fits}
use Rattle.problem.specs.declared.rows.EffectRow.{EffectRow}
use Rattle.graph.specs.Levels.{Level, next, level, Same}
use Rattle.graph.specs.Turning.{row, Both}
use Rattle.graph.specs.Tables.{MoveOf, MovesOf, move_at, move_is}
use Rattle.graph.specs.Valuation.{valuation, FirstLevels, Pair}
use Rattle.graph.specs.declared.table.Move.{Move}
use Rattle.graph.proofs.Neighbours.{joined, turned, next_same}
use Rattle.graph.proofs.Sure.{action_move}
use Rattle.graph.proofs.Computing.{masks, Rows, next_facts, next_row, next_masks, has_false}
use Rattle.sets.proofs.Parts.{or_either}
use Rattle.graph.proofs.RowSets.{row_lt}

below_three : (P : ℕ → Type 0) → P 0 → P 1 → P 2 → (k : ℕ) → k < 3 → P k
below_three P a b c zero lt = a
below_three P a b c (suc zero) lt = b
below_three P a b c (suc (suc zero)) lt = c
below_three P a b c (suc (suc (suc k))) lt = absurd (let z : ⊥ = omega arith in z)

-- the effects name atoms below 5
abbrev Small : List EffectRow → Type 0
Small [] = Unit {0}
Small (e ∷ es) = (names_of e < 2 ^ 5) × Small es

named : (es : List EffectRow) → Small es → (e : EffectRow) → Among e es → Within 5 (names_of e)
named [] s e a = absurd a
named (x ∷ es) s e (inl p) = subst (λ (y : EffectRow). Within 5 (names_of y)) (sym p) (below_within 5 (names_of x) s.0)
named (x ∷ es) s e (inr a) = named es s.1 e a

fits : Fits valuation
fits = record {
  some_atom = lit≤ tt;
  few_atoms = lit≤ tt;
  some_hand = lit≤ tt;
  few_hands = lit≤ tt;
  first = below_within 5 5 (lit< tt);
  few_actions = lit≤ tt;
  few_effects = below_three (λ k. length (valuation.at k).effects ≤ 8) (lit≤ tt) (lit≤ tt) (lit≤ tt);
  preconditions = below_three (λ k. Within 5 (valuation.at k).precondition) (below_within 5 1 (lit< tt)) (below_within 5 2 (lit< tt)) (below_within 5 1 (lit< tt));
  effects = below_three (λ k. (e : EffectRow) → Among e (valuation.at k).effects → Within 5 (names_of e))
      (named (valuation.at 0).effects (lit< tt, tt)) (named (valuation.at 1).effects (lit< tt, tt)) (named (valuation.at 2).effects (lit< tt, (lit< tt, tt)));
}

-- what the actions need, use and surely delete
abbrev moves : List Move
moves =
    record { needs = 1; uses = 3; deletes = 0 }
    ∷ record { needs = 2; uses = 18; deletes = 0 }
    ∷ record { needs = 1; uses = 1; deletes = 1 } ∷ []

of_action : (k : ℕ) → k < 3 → MoveOf valuation k (move_is valuation k)
of_action = action_move valuation fits

moves_of : MovesOf valuation moves
unfolding minus
moves_of = record {
  few = lit≤ tt;
  each = below_three (λ k. MoveOf valuation k (move_at moves k))
      (of_action 0 (lit< tt)) (of_action 1 (lit< tt)) (of_action 2 (lit< tt));
}

small_row : (rows : List ℕ) → ((k : ℕ) → k < 3 → row rows k < 2 ^ 64) → length rows ≡ 3 → (k : ℕ) → row rows k < 2 ^ 64
small_row rows f e k = elim (dec_le 3 k) [ yes past ↦ rw (get_or_past rows k 0 (omega arith)) (lit< tt) | no below ↦ f k (omega arith) ]

small_part : (part : Move → ℕ) → ((k : ℕ) → k < 3 → part (move_at moves k) < 2 ^ 64) → part (record { needs = 0; uses = 0; deletes = 0 }) < 2 ^ 64
    → (k : ℕ) → part (move_at moves k) < 2 ^ 64
small_part part f none k = elim (dec_le 3 k) [ yes past ↦ rw (get_or_past moves k _ past) none | no below ↦ f k (omega arith) ]

rows_of : Rows valuation moves
rows_of = record {
  long = refl;
  small_uses = small_part (λ m. m.uses) (below_three (λ k. (move_at moves k).uses < 2 ^ 64) (lit< tt) (lit< tt) (lit< tt)) (lit< tt);
  small_deletes = small_part (λ m. m.deletes) (below_three (λ k. (move_at moves k).deletes < 2 ^ 64) (lit< tt) (lit< tt) (lit< tt)) (lit< tt);
}

-- one level after another: computed for the five atoms, and empty past them
module _ (F : ℕ) (rs : List ℕ) (lF : F < 2 ^ 64) (len : length rs ≤ 5) (small : (k : ℕ) → row rs k < 2 ^ 64) where
  past : (f g : ℕ) → Has (row rs f) g → f < 5
  past f g h = omega (arith, row_lt rs (length rs) f g refl h)

  abbrev facts_after : ℕ
  facts_after = next_facts valuation moves moves_of rows_of F (row rs) 5 past lF small

  abbrev row_after : ℕ → ℕ
  row_after f = next_row valuation moves moves_of rows_of F (row rs) 5 past lF small f

  step : (F' : ℕ) (rs' : List ℕ) → F' < 2 ^ 5 → length rs' ≤ 5 → facts_after ≡ F' → ((f : ℕ) → f < 5 → row_after f ≡ row rs' f)
      → Same (next valuation (masks F (row rs))) (masks F' (row rs'))
  step F' rs' lt len' p q =
      next_masks valuation moves moves_of rows_of F (row rs) 5 past lF small F' (row rs') (omega arith)
      (λ f g h. omega (arith, row_lt rs' (length rs') f g refl h)) p
      (λ f l. elim (dec_le 5 f) [
        | yes far ↦ none f (λ h. omega (arith, below_within 5 F' lt f (subst (λ (x : ℕ). Has x f) p h))) ∙ sym (get_or_past rs' f 0 (omega arith))
        | no near ↦ q f (omega arith)
      ])
    where
      none : (f : ℕ) → (Has facts_after f → ⊥) → row_after f ≡ 0
      none f n = rw (has_false facts_after f n) refl

below_five : (P : ℕ → Type 0) → P 0 → P 1 → P 2 → P 3 → P 4 → (k : ℕ) → k < 5 → P k
below_five P a b c d e zero lt = a
below_five P a b c d e (suc zero) lt = b
below_five P a b c d e (suc (suc k)) lt = below_three (λ j. P (suc (suc j))) c d e k (omega arith)

abbrev rows_one : List ℕ
rows_one = 8 ∷ 8 ∷ 0 ∷ 3 ∷ []

abbrev rows_two : List ℕ
rows_two = 8 ∷ 0 ∷ 0 ∷ 1 ∷ []

-- masks that fit, row by row
abbrev Fitting : List ℕ → Type 0
Fitting [] = Unit {0}
Fitting (x ∷ xs) = (x < 2 ^ 64) × Fitting xs

small_rows : (rs : List ℕ) → Fitting rs → (k : ℕ) → row rs k < 2 ^ 64
small_rows [] fit k = lit< tt
small_rows (x ∷ xs) fit zero = fit.0
small_rows (x ∷ xs) fit (suc k) = small_rows xs fit.1 k

fit_one : Fitting rows_one
fit_one = (lit< tt, (lit< tt, (lit< tt, (lit< tt, tt))))

fit_two : Fitting rows_two
fit_two = (lit< tt, (lit< tt, (lit< tt, (lit< tt, tt))))

to_one : Same (next valuation (masks 5 (row []))) (masks 15 (row rows_one))
unfolding bit minus
to_one =
    step 5 [] (lit< tt) (lit≤ tt) (small_rows [] tt) 15 rows_one (lit< tt) (lit≤ tt) refl
    (below_five (λ f. row_after 5 [] (lit< tt) (lit≤ tt) (small_rows [] tt) f ≡ row rows_one f) refl refl refl refl refl)

to_two : Same (next valuation (masks 15 (row rows_one))) (masks 31 (row rows_two))
unfolding bit minus
to_two =
    step 15 rows_one (lit< tt) (lit≤ tt) (small_rows rows_one fit_one) 31 rows_two (lit< tt) (lit≤ tt) refl
    (below_five (λ f. row_after 15 rows_one (lit< tt) (lit≤ tt) (small_rows rows_one fit_one) f ≡ row rows_two f) refl refl refl refl refl)

to_three : Same (next valuation (masks 31 (row rows_two))) (masks 31 (row rows_two))
unfolding bit minus
to_three =
    step 31 rows_two (lit< tt) (lit≤ tt) (small_rows rows_two fit_two) 31 rows_two (lit< tt) (lit≤ tt) refl
    (below_five (λ f. row_after 31 rows_two (lit< tt) (lit≤ tt) (small_rows rows_two fit_two) f ≡ row rows_two f) refl refl refl refl refl)

level_zero : Same (level valuation 0) (masks 5 (row []))
level_zero = record { facts = λ f h. h; facts' = λ f h. h; exclusive = λ f g z. absurd z; exclusive' = λ f g h. not_in_none 0 g refl h }

level_one : Same (level valuation 1) (masks 15 (row rows_one))
level_one = joined _ _ _ (next_same valuation _ _ level_zero) to_one

level_two : Same (level valuation 2) (masks 31 (row rows_two))
level_two = joined _ _ _ (next_same valuation _ _ level_one) to_two

level_three : Same (level valuation 3) (masks 31 (row rows_two))
level_three = joined _ _ _ (next_same valuation _ _ level_two) to_three

-- ---- in words

-- the set of one number
only_one : (k g : ℕ) → k < 64 → Has (2 ^ k) g → g ≡ k
only_one k g lt h = ((single_marks k lt).only g h).0

-- a pair of numbers is in the rows
there : (rs : List ℕ) (a b f g : ℕ) → Has (row rs a) b → Has (row rs b) a → Pair a b f g → Has (row rs f) g
there rs a b f g x y (inl p) = rw (p.0, p.1) x
there rs a b f g x y (inr p) = rw (p.0, p.1) y

from_one : (f g : ℕ) → Has (row rows_one f) g → Pair 0 3 f g ⊎ Pair 1 3 f g
from_one zero g h = inl (inl (refl, only_one 3 g (lit< tt) h))
from_one (suc zero) g h = inr (inl (refl, only_one 3 g (lit< tt) h))
from_one (suc (suc zero)) g h = absurd (not_in_none 0 g refl h)
from_one (suc (suc (suc zero))) g h = elim (or_either 1 2 g h) [
  | inl a ↦ inl (inr (refl, only_one 0 g (lit< tt) a))
  | inr a ↦ inr (inr (refl, only_one 1 g (lit< tt) a))
]
from_one (suc (suc (suc (suc f)))) g h = absurd (not_in_none 0 g refl h)

in_one : (f g : ℕ) → Both (Has (row rows_one f) g) (Pair 0 3 f g ⊎ Pair 1 3 f g)
unfolding bit
in_one f g = (from_one f g, λ p. elim p [ inl q ↦ there rows_one 0 3 f g refl refl q | inr q ↦ there rows_one 1 3 f g refl refl q ])

from_two : (f g : ℕ) → Has (row rows_two f) g → Pair 0 3 f g
from_two zero g h = inl (refl, only_one 3 g (lit< tt) h)
from_two (suc zero) g h = absurd (not_in_none 0 g refl h)
from_two (suc (suc zero)) g h = absurd (not_in_none 0 g refl h)
from_two (suc (suc (suc zero))) g h = inr (refl, only_one 0 g (lit< tt) h)
from_two (suc (suc (suc (suc f)))) g h = absurd (not_in_none 0 g refl h)

in_two : (f g : ℕ) → Both (Has (row rows_two f) g) (Pair 0 3 f g)
unfolding bit
in_two f g = (from_two f g, there rows_two 0 3 f g refl refl)

facts_of : (l : Level) (F : ℕ) (R : ℕ → ℕ) → Same l (masks F R) → Marks F l.fact
facts_of l F R s = record { only = s.facts'; all = s.facts }

pairs_of : (l : Level) (F : ℕ) (R : ℕ → ℕ) (P : ℕ → ℕ → Type 0) → Same l (masks F R) → ((f g : ℕ) → Both (Has (R f) g) (P f g)) → (f g : ℕ) → Both (l.exclusive f g) (P f g)
pairs_of l F R P s b f g = ((λ x. (b f g).0 (s.exclusive f g x)), λ p. s.exclusive' f g ((b f g).1 p))

-- an atom that comes in late tells two levels apart
apart : (l m : Level) (F F' : ℕ) (R R' : ℕ → ℕ) (f : ℕ) → Same l (masks F R) → Same m (masks F' R') → Has F' f → (Has F f → ⊥) → Same l m → ⊥
apart l m F F' R R' f sl sm h n s = n (sl.facts f (s.facts' f (sm.facts' f h)))

pub first_levels : FirstLevels
unfolding bit
first_levels = record {
  facts_one = facts_of _ _ _ level_one;
  exclusive_one = pairs_of _ _ _ _ level_one in_one;
  facts_two = facts_of _ _ _ level_two;
  exclusive_two = pairs_of _ _ _ _ level_two in_two;
  closing = record {
    below = lit< tt;
    same = joined _ _ _ level_two (turned _ _ level_three);
    least = below_two;
  };
}
  where
    below_two : (k : ℕ) → k < 2 → Same (level valuation k) (level valuation (suc k)) → ⊥
    below_two zero lt s = apart _ _ 5 15 _ _ 1 level_zero level_one refl (λ e. omega (arith, e)) s
    below_two (suc zero) lt s = apart _ _ 15 31 _ _ 4 level_one level_two refl (λ e. omega (arith, e)) s
    below_two (suc (suc k)) lt s = omega arith
