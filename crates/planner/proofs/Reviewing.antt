-- The promise of a review, from what making a position and asking the store say.
use Rattle.std.proofs.Common.{◌≡◌, Bool, Ok, Err, refl, ap, ◌∙◌, inl, inr}
use Rattle.problem.specs.declared.refusal.Refusal.{Refusal}
use Rattle.store.specs.Positions.{Target, Proper}
use Rattle.store.specs.Declines.{PositionDeclines}
use Rattle.store.specs.Stores.{Meaning}
use Rattle.claim.specs.Turns.{Declines, position_checks, Reviews}

pub position_refused : (q : Target) (e : Refusal) → PositionDeclines q e → Declines (position_checks q) e
position_refused q e (inl h) = inl (h.1, h.0)
position_refused q e (inr h) = inr ((λ f. f h.1), inl (h.2, h.0))

pub reviewed : (m : Meaning) (q p : Target) (b : Bool) → Proper q → p ≡ q → b ≡ m.covers p → Reviews q (Ok b) m m
reviewed m q p b proper same is =
    (((λ f. f proper.ranked), ((λ f. f proper.apart), tt)), is ∙ ap (λ (x : Target). m.covers x) same, refl)

pub review_refused : (m : Meaning) (q : Target) (e : Refusal) → PositionDeclines q e → Reviews q (Err e) m m
review_refused m q e h = (position_refused q e h, refl)
