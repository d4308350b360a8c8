use Rattle.std.proofs.Common.{ℕ, List, string_bytes}
use Rattle.plain.specs.Lines.{WrittenBehind}
use Rattle.plain.proofs.lines.put_members.Given as goal

-- with the rest behind it, the whole set is written
abbrev pub invariant-loop-member : goal.invariant-loop-member
invariant-loop-member l =
    (after : List ℕ) → WrittenBehind (string_bytes l.line) l.member-iterator.left after → WrittenBehind (string_bytes l.initial.line) l.set after
