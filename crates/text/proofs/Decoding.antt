-- A record that was found, as a record of a problem.
use Rattle.std.proofs.Common.{◌≡◌, ℕ, ◌+◌, ◌<◌, ◌≤◌, List, ◌∷◌, length, get_or, Ok, Err, Result, sym, refl, ap, subst, inl, inr, arith, w8, Fits, Bor}
use Rattle.std.specs.Int.Digits.{AllBelowBase}
use Rattle.std.proofs.ByRecursion.{All-from_get_or}
use Rattle.text.specs.Records.{kind_of, body_of, body_length, Stands, RecordAt}
use Rattle.problem.specs.declared.rows.EffectRow.{EffectRow}
use Rattle.text.specs.Bytes.{set_in}
use Rattle.text.specs.Texts.{Item, first_is, action_is, effect_is, item_kind, item_body, item_text, effect_in}
use Rattle.text.specs.Readings.{InPlace, Draft, more, latest, Reading, Allowed, Outcome, faulty, Reads, outside, unnamed, goes}
use Rattle.text.specs.Misfits.{Misses, fault_of}
use Rattle.text.specs.declared.record.Record.{Record}
use Rattle.text.specs.declared.record.Record.TheVariants.{Size, First, Action, Effect, End, Question}
use Rattle.text.specs.declared.record.Found.{Found}
use Rattle.text.specs.declared.fits.Misfit.{Misfit}
use Rattle.text.specs.declared.fits.Misfit.TheVariants.{Range, Atom}
use Rattle.text.specs.declared.fault.RecordFault.{RecordFault}
use Rattle.text.specs.declared.fault.RecordFault.TheVariants.{Cut, Unknown}
use Rattle.text.proofs.Items.{item_in, item_there, body_long, kind_between, item_inside}
use Rattle.text.proofs.Standing.{stand_inside, first_stands}

-- the bytes of a slice are bytes
pub bytes_under : (text : List ℕ) → ((i : ℕ) → Fits w8 (get_or text i 0)) → AllBelowBase 256 text
bytes_under text f = All-from_get_or (λ d. d < 256) text 0 (λ i h. let k = f i in omega arith)

kind_known : (r : Record) → 1 ≤ kind_of r
kind_known (Size b) = omega arith
kind_known (First b) = omega arith
kind_known (Action b) = omega arith
kind_known (Effect b) = omega arith
kind_known End = omega arith
kind_known (Question b) = omega arith

-- what a found record is, where it is one of a problem
pub record Decoded (text : List ℕ) (at next : ℕ) (r : Record) : Type 0 where
  pub reading : Reading text at (item_in (kind_of r) (body_of r))
  pub kind : item_kind (item_in (kind_of r) (body_of r)) ≡ kind_of r
  pub after : at + length (item_text (item_in (kind_of r) (body_of r))) ≡ next

pub decoded : (text : List ℕ) (at : ℕ) (f : Found) (r : Record) → AllBelowBase 256 text → f.at ≡ at → Stands text f → f.record ≡ r → kind_of r ≤ 5 → Decoded text at f.next r
decoded text at f r u a s e h =
    let t : Stands text (record { at = at; «record» = r; next = f.next }) =
    subst (λ (x : Record). Stands text (record { at = at; «record» = x; next = f.next })) e (subst (λ (x : ℕ). Stands text (record { at = x; «record» = f.record; next = f.next })) a s) in
    let i = item_there text at (kind_of r) (body_of r) u t.bytes (kind_known r) h t.size in
    record {
      reading = i.0;
      kind = i.1;
      after = omega (arith, t.next, t.size, body_long (item_in (kind_of r) (body_of r)), ap body_length i.1);
    }

pub found_inside : (text : List ℕ) (f : Found) → Stands text f → (f.at < f.next) × (f.next ≤ length text)
found_inside text f s =
    let i = stand_inside text f.at (kind_of f.record ∷ body_of f.record) s.bytes (omega arith) in
    (omega (arith, s.next), omega (arith, s.next))

-- a record that does not fit
pub misfit_reads : (text : List ℕ) (at : ℕ) (d : Draft) (i : Item) → Reading text at i → InPlace d.place (item_kind i)
    → (k : Misfit) → Misses (length d.contents.rows) (latest d.contents) d.contents.atoms i k → Reads text at d (faulty (fault_of k at))
misfit_reads text at d i r p Range m = outside r p m
misfit_reads text at d i r p Atom m = unnamed r p m.0 m.1

-- a record that is allowed
pub goes_on : (text : List ℕ) (at n : ℕ) (d : Draft) (i : Item) → Reading text at i → (item_kind i ≡ 5 → ⊥) → Allowed d i → at + length (item_text i) ≡ n
    → (o : Outcome) → Reads text n (more d i) o → Reads text at d o
goes_on text at n d i r k a e o rest = goes r k a (subst (λ (x : ℕ). Reads text x (more d i) o) (sym e) rest)

-- a decoded action, effect or end
pub action_read : (text : List ℕ) (at n p : ℕ) (b : Bor (List ℕ)) → Decoded text at n (Action b) → p ≡ set_in b.now 0 → Reading text at (action_is p) × (at + length (item_text (action_is p)) ≡ n)
action_read text at n p b t e =
    subst (λ (x : ℕ). Reading text at (action_is x) × (at + length (item_text (action_is x)) ≡ n)) (sym e) (t.reading, t.after)

pub effect_read : (text : List ℕ) (at n : ℕ) (x : EffectRow) (b : Bor (List ℕ)) → Decoded text at n (Effect b) → x ≡ effect_in b.now → Reading text at (effect_is x) × (at + length (item_text (effect_is x)) ≡ n)
effect_read text at n x b t e =
    subst (λ (x : EffectRow). Reading text at (effect_is x) × (at + length (item_text (effect_is x)) ≡ n)) (sym e) (t.reading, t.after)

pub only_end : (r : Record) → 3 ≤ kind_of r → kind_of r ≤ 5 → ((x : Bor (List ℕ)) → r ≡ Action x → ⊥) → ((x : Bor (List ℕ)) → r ≡ Effect x → ⊥) → r ≡ End
only_end (Size b) l h a e = absurd (omega arith)
only_end (First b) l h a e = absurd (omega arith)
only_end (Action b) l h a e = absurd (a b refl)
only_end (Effect b) l h a e = absurd (e b refl)
only_end End l h a e = refl
only_end (Question b) l h a e = absurd (omega arith)

-- a first state, an action or an effect that was found, with the value read from its body
module _ (text : List ℕ) (at : ℕ) (f : Found) (b : Bor (List ℕ)) (u : (i : ℕ) → Fits w8 (get_or text i 0)) (a : f.at ≡ at) (s : Stands text f) where
  -- where it stands, and the next record behind it
  abbrev pub Here : Item → Type 0
  Here i = Reading text at i × (at + length (item_text i) ≡ f.next)

  pub first_found : (x : ℕ) → f.record ≡ First b → x ≡ set_in b.now 0 → Here (first_is x)
  first_found x e v = let t = decoded text at f (First b) (bytes_under text u) a s e (omega arith) in subst (λ (y : ℕ). Here (first_is y)) (sym v) (t.reading, t.after)

  pub action_found : (x : ℕ) → f.record ≡ Action b → x ≡ set_in b.now 0 → Here (action_is x)
  action_found x e v = let t = decoded text at f (Action b) (bytes_under text u) a s e (omega arith) in subst (λ (y : ℕ). Here (action_is y)) (sym v) (t.reading, t.after)

  pub effect_found : (x : EffectRow) → f.record ≡ Effect b → x ≡ effect_in b.now → Here (effect_is x)
  effect_found x e v = let t = decoded text at f (Effect b) (bytes_under text u) a s e (omega arith) in subst (λ (y : EffectRow). Here (effect_is y)) (sym v) (t.reading, t.after)

-- what stands where the record layer finds no action and no effect
pub halted_fault : (text : List ℕ) (at : ℕ) (r : Result Found RecordFault) → RecordAt text at r → ((f : Found) → r ≡ Ok f → ⊥) → (i : Item) → Reading text at i → ⊥
halted_fault text at (Ok f) e n i s = n f refl
halted_fault text at (Err (Cut o)) (e, inl past) n i s =
    let l = stand_inside text at (item_text i) s.bytes (omega arith) in omega arith
halted_fault text at (Err (Cut o)) (e, inr t) n i s =
    let l = item_inside text at i s in omega (arith, t.2)
halted_fault text at (Err (Unknown o)) e n i s =
    let k = first_stands text at (item_kind i) (item_body i) s.bytes in
    let b = kind_between i in
    e.1.1 (omega arith, omega arith)

no_row : (r : Record) → 3 ≤ kind_of r → kind_of r ≤ 4 → ((x : Bor (List ℕ)) → r ≡ Action x → ⊥) → ((x : Bor (List ℕ)) → r ≡ Effect x → ⊥) → ⊥
no_row (Size b) l h a e = omega arith
no_row (First b) l h a e = omega arith
no_row (Action b) l h a e = a b refl
no_row (Effect b) l h a e = e b refl
no_row End l h a e = omega arith
no_row (Question b) l h a e = omega arith

pub halted_record : (text : List ℕ) (at : ℕ) (f : Found) → f.at ≡ at → Stands text f → ((x : Bor (List ℕ)) → f.record ≡ Action x → ⊥) → ((x : Bor (List ℕ)) → f.record ≡ Effect x → ⊥)
    → (i : Item) → Reading text at i → 3 ≤ item_kind i → item_kind i ≤ 4 → ⊥
halted_record text at f e s a x i r l h =
    let k = first_stands text at (item_kind i) (item_body i) r.bytes in
    let j = first_stands text f.at (kind_of f.record) (body_of f.record) s.bytes in
    let z = ap (λ (y : ℕ). get_or text y 0) e in
    no_row f.record (omega arith) (omega arith) a x
