-- Rows with one action, or one effect of the latest action, more.
use Rattle.std.proofs.Common.{◌≡◌, ℕ, zero, suc, ◌+◌, ◌-◌, ◌<◌, ◌≤◌, List, [], ◌∷◌, ◌++◌, length, take, drop, sym, refl, ap, ◌∙◌, add-one, arith}
use native.Mathlib.Decide.{dec_le}
use Rattle.std.specs.List.{flat_map}
use Rattle.std.proofs.lemmas.Bool.{lt-ltb}
use Rattle.std.proofs.lemmas.List.{length_push, length-drop, get_or_append_left, get_or_push, take-append-le, drop-append-le, take_all, append_assoc, append-nil, flat_map_more}
use Rattle.problem.specs.Actions.{Action}
use Rattle.problem.specs.Rows.{row_at, begins, Placed}
use Rattle.problem.specs.Problems.{action_at}
use Rattle.problem.specs.declared.rows.ActionRow.{ActionRow}
use Rattle.problem.specs.declared.rows.EffectRow.{EffectRow}
use Rattle.problem.proofs.Placing.{begins_past, begins_up, begins_le}
use Rattle.text.specs.Texts.{action_is, effect_is, item_text, action_text, actions_text}

pub begins_in : (rows : List ActionRow) (n k : ℕ) → k < length rows → begins rows n k ≡ (row_at rows k).first_effect
begins_in rows n k h = rw (lt-ltb k (length rows) h) refl

-- the text of the first actions depends on them alone
pub actions_same : (f g : ℕ → Action) (n : ℕ) → ((k : ℕ) → k < n → f k ≡ g k) → actions_text f n ≡ actions_text g n
unfolding actions_text
actions_same f g zero h = refl
actions_same f g (suc n) h = rw (actions_same f g n (λ k l. h k (omega arith)), h n (omega arith)) refl

-- an action by its precondition and by where its effects begin and end
between : List EffectRow → ℕ → ℕ → ℕ → Action
between effects p x y = record { precondition = p; effects = take (y - x) (drop x effects) }

same_between : (effects : List EffectRow) (p q x x' y y' : ℕ) → p ≡ q → x ≡ x' → y ≡ y' → between effects p x y ≡ between effects q x' y'
same_between effects p q x x' y y' e f g = rw (e, f, g) refl

-- the effects of the latest action
pub latest_all : (rows : List ActionRow) (effects : List EffectRow) (k : ℕ) → length rows ≤ k + 1 → (action_at rows effects k).effects ≡ drop (begins rows (length effects) k) effects
latest_all rows effects k h =
    let q = begins_past rows (length effects) (k + 1) h in
    take_all _ (drop (begins rows (length effects) k) effects) (omega (arith, length-drop (begins rows (length effects) k) effects))

module _ (rows : List ActionRow) (effects : List EffectRow) where
  -- one action more, with no effect yet
  module _ (a : ActionRow) (last : a.first_effect ≡ length effects) where
    pub begins_action : (k : ℕ) → begins (rows ++ (a ∷ [])) (length effects) k ≡ begins rows (length effects) k
    begins_action k = elim (dec_le (length rows) k) [
      | yes past ↦ elim (dec_le (suc (length rows)) k) [
        | yes far ↦ begins_past (rows ++ (a ∷ [])) (length effects) k (omega (arith, length_push rows a)) ∙ sym (begins_past rows (length effects) k past)
        | no near ↦
            begins_in (rows ++ (a ∷ [])) (length effects) k (omega (arith, length_push rows a))
            ∙ ap (λ (r : ActionRow). r.first_effect) (get_or_push rows a _ k (omega arith)) ∙ last ∙ sym (begins_past rows (length effects) k past)
      ]
      | no below ↦
          begins_in (rows ++ (a ∷ [])) (length effects) k (omega (arith, length_push rows a))
          ∙ ap (λ (r : ActionRow). r.first_effect) (get_or_append_left rows (a ∷ []) _ k (omega arith)) ∙ sym (begins_in rows (length effects) k (omega arith))
    ]

    pub action_kept : (k : ℕ) → k < length rows → action_at (rows ++ (a ∷ [])) effects k ≡ action_at rows effects k
    unfolding between
    action_kept k h =
        same_between effects _ _ _ _ _ _ (ap (λ (r : ActionRow). r.precondition) (get_or_append_left rows (a ∷ []) _ k h)) (begins_action k) (begins_action (k + 1))

    pub action_new : action_at (rows ++ (a ∷ [])) effects (length rows) ≡ record { precondition = a.precondition; effects = [] }
    unfolding between
    action_new =
        let z : length effects - length effects ≡ 0 = omega arith in
        same_between effects _ _ _ _ _ _
        (ap (λ (r : ActionRow). r.precondition) (get_or_push rows a _ (length rows) refl))
        (begins_action (length rows) ∙ begins_past rows (length effects) (length rows) (omega arith))
        (begins_action (length rows + 1) ∙ begins_past rows (length effects) (length rows + 1) (omega arith))
        ∙ rw z refl

    pub text_action : actions_text (action_at (rows ++ (a ∷ [])) effects) (length (rows ++ (a ∷ []))) ≡ actions_text (action_at rows effects) (length rows) ++ item_text (action_is a.precondition)
    unfolding actions_text
    text_action =
        let m : length (rows ++ (a ∷ [])) ≡ suc (length rows) = length_push rows a ∙ add-one (length rows) in
        let s = actions_same (action_at (rows ++ (a ∷ [])) effects) (action_at rows effects) (length rows) action_kept in
        ap (actions_text (action_at (rows ++ (a ∷ [])) effects)) m
        ∙ ap (λ (l : List ℕ). l ++ action_text (action_at (rows ++ (a ∷ [])) effects (length rows))) s
        ∙ ap (λ (x : Action). actions_text (action_at rows effects) (length rows) ++ action_text x) action_new
        ∙ ap (λ (l : List ℕ). actions_text (action_at rows effects) (length rows) ++ l) (append-nil (item_text (action_is a.precondition)))

  -- one effect more, of the latest action
  module _ (e : EffectRow) (placed : Placed rows (length effects)) (some : 0 < length rows) where
    pub begins_effect : (k : ℕ) → k < length rows → begins rows (length (effects ++ (e ∷ []))) k ≡ begins rows (length effects) k
    begins_effect k h = begins_in rows (length (effects ++ (e ∷ []))) k h ∙ sym (begins_in rows (length effects) k h)

    pub begins_end : begins rows (length (effects ++ (e ∷ []))) (length rows - 1 + 1) ≡ length effects + 1
    begins_end = begins_past rows (length (effects ++ (e ∷ []))) (length rows - 1 + 1) (omega arith) ∙ length_push effects e

    pub effect_kept : (k : ℕ) → k < length rows - 1 → action_at rows (effects ++ (e ∷ [])) k ≡ action_at rows effects k
    unfolding between
    effect_kept k h =
        let x = begins rows (length effects) k in
        let y = begins rows (length effects) (k + 1) in
        let up = begins_up rows (length effects) placed k in
        let le = begins_le rows (length effects) placed (k + 1) in
        same_between (effects ++ (e ∷ [])) _ _ _ _ _ _ refl (begins_effect k (omega arith)) (begins_effect (k + 1) (omega arith))
        ∙ ap (λ (l : List EffectRow). record { precondition = (row_at rows k).precondition; effects = l })
        (ap (take (y - x)) (drop-append-le x effects (e ∷ []) (omega arith))
        ∙ take-append-le (y - x) (drop x effects) (e ∷ []) (omega (arith, length-drop x effects)))

    pub effect_new : (action_at rows (effects ++ (e ∷ [])) (length rows - 1)).effects ≡ (action_at rows effects (length rows - 1)).effects ++ (e ∷ [])
    effect_new =
        let k = length rows - 1 in
        let x = begins rows (length effects) k in
        let le = begins_le rows (length effects) placed k in
        let f = begins_effect k (omega arith) in
        let g = begins_end in
        let d : drop x (effects ++ (e ∷ [])) ≡ drop x effects ++ (e ∷ []) = drop-append-le x effects (e ∷ []) le in
        ap (λ (i : ℕ). take (begins rows (length (effects ++ (e ∷ []))) (k + 1) - i) (drop i (effects ++ (e ∷ [])))) f
        ∙ ap (take (begins rows (length (effects ++ (e ∷ []))) (k + 1) - x)) d
        ∙ take_all _ (drop x effects ++ (e ∷ [])) (omega (arith, length_push (drop x effects) e, length-drop x effects))
        ∙ ap (λ (l : List EffectRow). l ++ (e ∷ [])) (sym (latest_all rows effects k (omega arith)))

    pub text_effect : actions_text (action_at rows (effects ++ (e ∷ []))) (length rows) ≡ actions_text (action_at rows effects) (length rows) ++ item_text (effect_is e)
    unfolding actions_text
    text_effect =
        let k = length rows - 1 in
        let m : length rows ≡ suc k = omega arith in
        let s = actions_same (action_at rows (effects ++ (e ∷ []))) (action_at rows effects) k effect_kept in
        let f : EffectRow → List ℕ = λ x. item_text (effect_is x) in
        let old = (action_at rows effects k).effects in
        let p = item_text (action_is (row_at rows k).precondition) in
        ap (actions_text (action_at rows (effects ++ (e ∷ [])))) m
        ∙ ap (λ (l : List ℕ). l ++ action_text (action_at rows (effects ++ (e ∷ [])) k)) s
        ∙ ap (λ (l : List EffectRow). actions_text (action_at rows effects) k ++ (p ++ flat_map f l)) effect_new
        ∙ ap (λ (l : List ℕ). actions_text (action_at rows effects) k ++ l) (sym (flat_map_more f p old e))
        ∙ sym (append_assoc (actions_text (action_at rows effects) k) (p ++ flat_map f old) (f e))
        ∙ ap (λ (j : ℕ). actions_text (action_at rows effects) j ++ f e) (sym m)
