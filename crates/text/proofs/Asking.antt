-- A question that was found.
use Rattle.std.proofs.Common.{◌≡◌, ℕ, ◌<◌, List, ◌∷◌, ◌++◌, length, get_or, take, drop, sym, refl, ap, ◌∙◌, subst, arith, Bor}
use Rattle.std.specs.Int.Digits.{number_from_digits, AllBelowBase}
use Rattle.std.proofs.lemmas.Int.Digits.{number_lt}
use Rattle.std.proofs.ByRecursion.{All-take, All-drop, All-get_or}
use Rattle.std.proofs.lemmas.List.{take_all, take-append-drop, length-take-le, length-drop, drop-drop, drop_more}
use Rattle.text.specs.Bytes.{bytes_of, set_in, Stand}
use Rattle.text.specs.Records.{kind_of, Stands}
use Rattle.text.specs.Inputs.{question_text, Asking}
use Rattle.text.specs.declared.record.Record.{Record}
use Rattle.text.specs.declared.record.Record.TheVariants.{Size, First, Action, Effect, End, Question}
use Rattle.text.specs.declared.record.Found.{Found}
use Rattle.text.proofs.Numbers.{bytes_of_number}
use Rattle.text.proofs.Items.{set_bytes, set_small}

-- the parts of the body of a question
question_bytes : (b : List ℕ) → length b ≡ 21 → AllBelowBase 256 b → bytes_of 8 (set_in b 0) ++ (bytes_of 8 (set_in b 8) ++ (get_or b 16 0 ∷ bytes_of 4 (number_from_digits 256 (take 4 (drop 17 b))))) ≡ b
question_bytes b e u =
    let p : bytes_of 8 (set_in b 0) ≡ take 8 b = set_bytes b 0 (omega arith) u in
    let q : bytes_of 8 (set_in b 8) ≡ take 8 (drop 8 b) = set_bytes b 8 (omega arith) u in
    let r : bytes_of 4 (number_from_digits 256 (take 4 (drop 17 b))) ≡ drop 17 b =
    bytes_of_number 4 (take 4 (drop 17 b)) (length-take-le 4 (drop 17 b) (omega (arith, length-drop 17 b))) (All-take (λ d. d < 256) 4 (drop 17 b) (All-drop (λ d. d < 256) 17 b u))
    ∙ take_all 4 (drop 17 b) (omega (arith, length-drop 17 b)) in
    let l : get_or b 16 0 ∷ drop 17 b ≡ drop 8 (drop 8 b) = sym (drop_more b 16 0 (omega arith)) ∙ sym (drop-drop 8 8 b) in
    rw (p, q, r, l) (ap (λ (x : List ℕ). take 8 b ++ x) (take-append-drop 8 (drop 8 b)) ∙ take-append-drop 8 b)

pub asking : (text : List ℕ) (at : ℕ) (f : Found) (b : Bor (List ℕ)) (need avoid budget : ℕ) → AllBelowBase 256 text → f.at ≡ at → Stands text f → f.record ≡ Question b
    → need ≡ set_in b.now 0 → avoid ≡ set_in b.now 8 → budget ≡ number_from_digits 256 (take 4 (drop 17 b.now))
    → Asking text at (record { question = record { goal = record { need = need; avoid = avoid }; limit = get_or b.now 16 0; budget = budget }; next = f.next })
asking text at f b need avoid budget u a s e n v w =
    let t : Stands text (record { at = at; «record» = Question b; next = f.next }) =
    subst (λ (x : Record). Stands text (record { at = at; «record» = x; next = f.next })) e (subst (λ (x : ℕ). Stands text (record { at = x; «record» = f.record; next = f.next })) a s) in
    let under : AllBelowBase 256 (6 ∷ b.now) = subst (AllBelowBase 256) t.bytes (All-take (λ d. d < 256) (length (6 ∷ b.now)) (drop at text) (All-drop (λ d. d < 256) at text u)) in
    let y = under.1 in
    let long : length b.now ≡ 21 = t.size in
    let whole : question_text (record { goal = record { need = need; avoid = avoid }; limit = get_or b.now 16 0; budget = budget }) ≡ 6 ∷ b.now =
    rw (n, v, w) (ap (λ (x : List ℕ). 6 ∷ x) (question_bytes b.now long y)) in
    let word : length (take 4 (drop 17 b.now)) ≡ 4 = length-take-le 4 (drop 17 b.now) (omega (arith, length-drop 17 b.now)) in
    record {
      bytes = subst (Stand text at) (sym whole) t.bytes;
      next = omega (arith, t.next);
      sets = (omega (arith, set_small b.now 0 (omega arith) y), omega (arith, set_small b.now 8 (omega arith) y));
      numbers = (
        All-get_or (λ d. d < 256) b.now 16 0 (omega arith) y,
        omega (arith, (rw word at (number_lt 256 (take 4 (drop 17 b.now)) (All-take (λ d. d < 256) 4 (drop 17 b.now) (All-drop (λ d. d < 256) 17 b.now y))))),
      );
    }

pub only_question : (r : Record) → kind_of r ≡ 6 → ((x : Bor (List ℕ)) → r ≡ Question x → ⊥) → ⊥
only_question (Size b) k n = omega arith
only_question (First b) k n = omega arith
only_question (Action b) k n = omega arith
only_question (Effect b) k n = omega arith
only_question End k n = omega arith
only_question (Question b) k n = n b refl
