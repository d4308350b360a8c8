-- Texts written further, step by step.
use Rattle.std.proofs.Common.{◌≡◌, ℕ, ◌+◌, ◌-◌, ◌<◌, ◌≤◌, List, [], ◌++◌, length, get_or, take, drop, sym, refl, ap, ◌∙◌, subst, add-zero, arith}
use Rattle.std.proofs.lemmas.List.{length-append, append_assoc, take-append-drop, take_more, flat_map_more, get_or-take, get_or-drop, length-take, length-drop}
use Rattle.problem.specs.Rows.{begins, names_of, EffectsNamed}
use Rattle.problem.specs.declared.rows.ActionRow.{ActionRow}
use Rattle.problem.specs.Problems.{action_at}
use Rattle.problem.specs.declared.rows.EffectRow.{EffectRow}
use Rattle.sets.specs.Sets.{Within}
use Rattle.text.specs.Bytes.{put}
use Rattle.text.specs.Texts.{size_is, first_is, action_is, effect_is, end_is, item_text, Contents, actions_text, open_text, problem_text}
use Rattle.text.specs.Writings.{Mark, started_mark, Wrote}
use Rattle.text.specs.Appending.{effects_text, Appends}
use Rattle.text.specs.declared.writer.StartedText.{StartedText}
use Rattle.text.proofs.Puts.{put_on}
use Rattle.text.proofs.Written.{next_len}

put_none : (xs : List ℕ) (a : ℕ) → put xs a [] ≡ xs
unfolding put
put_none xs a = ap (λ (n : ℕ). take a xs ++ drop n xs) (add-zero a) ∙ take-append-drop a xs

pub append_none : (t : StartedText) (out : List ℕ) → Appends t t [] 0 out out
append_none t out = record { len = omega arith; atoms = refl; actions = omega arith; bytes = sym (put_none out t.len) }

pub append_more : (t u v : StartedText) (x y : List ℕ) (n m : ℕ) (a b d : List ℕ) → t.len + length x ≤ length a → Appends t u x n a b → Appends u v y m b d → Appends t v (x ++ y) (n + m) a d
append_more t u v x y n m a b d h f g = record {
  len = omega (arith, f.len, g.len, length-append x y);
  atoms = g.atoms ∙ f.atoms;
  actions = omega (arith, f.actions, g.actions);
  bytes = put_on a t.len x y f.bytes f.len h g.bytes;
}

-- one record more
pub wrote_effect : (t u : StartedText) (e : EffectRow) (out out' : List ℕ) → Wrote (started_mark t) (started_mark u) (effect_is e) out out' → Appends t u (item_text (effect_is e)) 0 out out' × (u.latest ≡ t.latest + 1)
wrote_effect t u e out out' w = (
  record {
    len = next_len w;
    atoms = ap (λ (k : Mark). k.atoms) w.next;
    actions = ap (λ (k : Mark). k.actions) w.next ∙ sym (add-zero t.actions);
    bytes = w.bytes;
  },
  ap (λ (k : Mark). k.latest) w.next,
)

pub wrote_action : (t u : StartedText) (p : ℕ) (out out' : List ℕ) → Wrote (started_mark t) (started_mark u) (action_is p) out out' → Appends t u (item_text (action_is p)) 1 out out' × (u.latest ≡ 0)
wrote_action t u p out out' w = (
  record {
    len = next_len w;
    atoms = ap (λ (k : Mark). k.atoms) w.next;
    actions = ap (λ (k : Mark). k.actions) w.next;
    bytes = w.bytes;
  },
  ap (λ (k : Mark). k.latest) w.next,
)

-- one effect more of a list
pub effects_more : (es : List EffectRow) (i : ℕ) (d : EffectRow) → i < length es → effects_text (take (i + 1) es) ≡ effects_text (take i es) ++ item_text (effect_is (get_or es i d))
effects_more es i d h = ap effects_text (take_more es i d h) ∙ sym (flat_map_more (λ e. item_text (effect_is e)) [] (take i es) (get_or es i d))

-- a part of a list of effects names no other atoms
part_named : (m : ℕ) (es : List EffectRow) (x b : ℕ) → EffectsNamed m es → EffectsNamed m (take x (drop b es))
part_named m es x b n j h =
    let l = length-take x (drop b es) in
    let k = length-drop b es in
    let i : j < x = omega arith in
    subst (λ (e : EffectRow). Within m (names_of e)) (sym (get_or-take x (drop b es) j _ i ∙ get_or-drop b es j _)) (n (b + j) (omega arith))

pub action_named : (m : ℕ) (rows : List ActionRow) (effects : List EffectRow) (k : ℕ) → EffectsNamed m effects → EffectsNamed m (action_at rows effects k).effects
action_named m rows effects k n =
    part_named m effects (begins rows (length effects) (k + 1) - begins rows (length effects) k) (begins rows (length effects) k) n

-- the four parts of a whole text, written one after the other
pub whole_put : (p : Contents) (len : ℕ) (out a b d e : List ℕ) (i j k : ℕ) → len ≡ 0 → length (problem_text p) ≤ length out
    → a ≡ put out len (item_text (size_is p.atoms p.hands)) → i ≡ len + length (item_text (size_is p.atoms p.hands))
    → b ≡ put a i (item_text (first_is p.first)) → j ≡ i + length (item_text (first_is p.first))
    → d ≡ put b j (actions_text (action_at p.rows p.effects) (length p.rows)) → k ≡ j + length (actions_text (action_at p.rows p.effects) (length p.rows))
    → e ≡ put d k (item_text end_is) → (k + 1 ≡ length (problem_text p)) × (e ≡ put out 0 (problem_text p))
unfolding open_text
whole_put p len out a b d e i j k z h e1 n1 e2 n2 e3 n3 e4 =
    let s = item_text (size_is p.atoms p.hands) in
    let f = item_text (first_is p.first) in
    let t = actions_text (action_at p.rows p.effects) (length p.rows) in
    let l1 = length-append (s ++ (f ++ t)) (item_text end_is) in
    let l2 = length-append s (f ++ t) in
    let l3 = length-append f t in
    let l4 = length-append s f in
    let l5 = length-append (s ++ f) t in
    let p2 = put_on out len s f e1 n1 (omega arith) e2 in
    let p3 = put_on out len (s ++ f) t p2 (omega arith) (omega arith) e3 in
    let p4 = put_on out len ((s ++ f) ++ t) (item_text end_is) p3 (omega arith) (omega arith) e4 in
    (omega arith, p4 ∙ ap (λ (x : List ℕ). put out len (x ++ item_text end_is)) (append_assoc s f t) ∙ ap (λ (n : ℕ). put out n (problem_text p)) z)
