-- Laws of texts and their readings.
use Rattle.std.specs.Prelude.{◌≡◌, ℕ, List, ◌++◌, length, ◌≢◌}
use Rattle.std.specs.Int.Digits.{AllBelowBase}
use Rattle.text.specs.Texts.{Item, item_kind, item_text, Contents, Valid, problem_text, Begins}
use Rattle.text.specs.Readings.{Draft, nothing, more, draft_text, Allowed, Drafted, Outcome, whole, Reads}

-- every list of bytes is read, in one way
abbrev pub OneOutcome : Type 0
OneOutcome = (text : List ℕ) → AllBelowBase 256 text → (o : Outcome) × Reads text 0 nothing o × ((p : Outcome) → Reads text 0 nothing p → p ≡ o)

-- a problem and a number of bytes are read exactly where these bytes are the problem's text
abbrev pub ReadExactly : Type 0
ReadExactly = (text : List ℕ) (c : Contents) (n : ℕ)
    → (Reads text 0 nothing (whole c n) → Valid c × Begins text n c) × (Valid c → Begins text n c → Reads text 0 nothing (whole c n))

-- the text of a problem, whatever follows it, gives that problem
abbrev pub ReadBack : Type 0
ReadBack = (c : Contents) (rest : List ℕ) → Valid c → Reads (problem_text c ++ rest) 0 nothing (whole c (length (problem_text c)))

-- a text begins with the text of one problem at most
abbrev pub OneProblem : Type 0
OneProblem = (text : List ℕ) (c d : Contents) (n k : ℕ) → Valid c → Valid d → Begins text n c → Begins text k d → (c ≡ d) × (n ≡ k)

-- the text so far is that of the records so far, one after the other
abbrev pub OneMore : Type 0
OneMore = (d : Draft) (i : Item) → Drafted d → (item_kind i ≢ 5) → Allowed d i → draft_text (more d i) ≡ draft_text d ++ item_text i
