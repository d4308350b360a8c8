-- Numbers written one behind the other.
use Rattle.std.proofs.Common.{◌≡◌, ℕ, ◌^◌, List, [], ◌∷◌, ◌++◌, codes, decimal, ap, ◌∙◌, subst, append_assoc, append-nil}
use Rattle.sets.specs.Sets.{Lowest, minus}
use Rattle.plain.specs.Lines.{Rising, spaced, WrittenBehind}

-- of no member nothing is written
pub written_none : (before : List ℕ) (s : ℕ) → s ≡ 0 → WrittenBehind before s before
written_none before s e = ([], e, simp append-nil)

-- the lowest member first, and then the others
pub written_more : (before mid after : List ℕ) (s k rest : ℕ) → Lowest s k → rest ≡ minus s (2 ^ k)
    → mid ≡ before ++ (codes " " ++ decimal k) → WrittenBehind mid rest after → WrittenBehind before s after
written_more before mid after s k rest low e put w =
    (k ∷ w.0, (low, subst (λ (x : ℕ). Rising x w.0) e w.1), w.2 ∙ ap (λ (x : List ℕ). x ++ spaced w.0) put ∙ simp append_assoc)
