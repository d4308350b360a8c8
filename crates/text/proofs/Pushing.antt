-- A list that is filled entry by entry.
use Rattle.std.proofs.Common.{◌≡◌, ℕ, ◌+◌, ◌<◌, ◌≤◌, Bool, true, false, cond, ltb, List, [], ◌∷◌, ◌++◌, length, drop, set, sym, refl, ap, ◌∙◌, arith}
use Rattle.std.proofs.lemmas.Bool.{ltb-true, lt-ltb}
use Rattle.std.proofs.lemmas.List.{length-set, length-take-le, take-append-drop, drop-set-lt, drop-drop}
use Rattle.sets.specs.Lists.{rows_of, count_of, room_of, taken}
use Rattle.sets.specs.declared.filled.Filled.{Filled}
use Rattle.text.specs.Filling.{Refilled}

module _ {X : Type 0} where
  -- past the entries the rows are as they were
  pub record Kept (before after : Filled X) : Type 0 where
    pub inside : count_of after ≤ length (rows_of after)
    pub rest : drop (count_of after) (rows_of after) ≡ drop (count_of after) (rows_of before)
    pub room : room_of after ≡ room_of before
    pub lent : after.rows.ghost_name ≡ before.rows.ghost_name

  pub kept_start : (f : Filled X) → count_of f ≡ 0 → Kept f f
  kept_start f e = record { inside = omega arith; rest = refl; room = refl; lent = refl }

  same_drop : (m n : ℕ) (xs ys zs : List X) → m ≡ n → xs ≡ ys → drop n ys ≡ drop n zs → drop m xs ≡ drop m zs
  same_drop m n xs ys zs e f h = rw (e, f) h

  pub kept_push : (b f g : Filled X) (x : X) (r : Bool) → Kept b f → r ≡ ltb (count_of f) (room_of f) → count_of g ≡ cond r (count_of f + 1) (count_of f)
      → rows_of g ≡ cond r (set (rows_of f) (count_of f) x) (rows_of f) → room_of g ≡ room_of f → g.rows.ghost_name ≡ f.rows.ghost_name → Kept b g
  kept_push b f g x true k t c w o l =
      let lt : count_of f < room_of f = ltb-true (count_of f) (room_of f) (sym t) in
      let n : length (rows_of g) ≡ length (rows_of f) = ap length w ∙ length-set (rows_of f) (count_of f) x in
      record {
        inside = omega arith;
        rest = same_drop _ _ _ _ (rows_of b) c w (drop-set-lt (count_of f + 1) (rows_of f) (count_of f) x (omega arith)
            ∙ sym (drop-drop 1 (count_of f) (rows_of f)) ∙ ap (drop 1) k.rest ∙ drop-drop 1 (count_of f) (rows_of b));
        room = o ∙ k.room;
        lent = l ∙ k.lent;
      }
  kept_push b f g x false k t c w o l = record {
    inside = omega (arith, k.inside, ap length w);
    rest = same_drop _ _ _ _ (rows_of b) c w k.rest;
    room = o ∙ k.room;
    lent = l ∙ k.lent;
  }

  -- a list that holds nothing keeps all rows
  pub kept_from : (a b f : Filled X) → rows_of b ≡ rows_of a → room_of b ≡ room_of a → b.rows.ghost_name ≡ a.rows.ghost_name → Kept b f → Kept a f
  kept_from a b f e o l k = record {
    inside = k.inside;
    rest = k.rest ∙ ap (drop (count_of f)) e;
    room = k.room ∙ o;
    lent = k.lent ∙ l;
  }

  pub taken_push : (f g : Filled X) (x : X) (r : Bool) → r ≡ ltb (count_of f) (room_of f) → taken g ≡ cond r (taken f ++ (x ∷ [])) (taken f) → count_of f < room_of f → taken g ≡ taken f ++ (x ∷ [])
  taken_push f g x r t e h =
      let y : r ≡ true = t ∙ lt-ltb (count_of f) (room_of f) h in
      e ∙ ap (λ (b : Bool). cond b (taken f ++ (x ∷ [])) (taken f)) y

  pub taken_long : (b f : Filled X) → Kept b f → length (taken f) ≡ count_of f
  taken_long b f k = length-take-le (count_of f) (rows_of f) k.inside

  pub refilled : (b f : Filled X) (xs : List X) → Kept b f → taken f ≡ xs → Refilled b f xs
  refilled b f xs k e =
      let n : length xs ≡ count_of f = ap length (sym e) ∙ length-take-le (count_of f) (rows_of f) k.inside in
      record {
        holds = e;
        count = sym n;
        rows = sym (take-append-drop (count_of f) (rows_of f)) ∙ rw (e, n) (ap (λ (l : List X). xs ++ l) k.rest);
        room = k.room;
        lent = k.lent;
      }
