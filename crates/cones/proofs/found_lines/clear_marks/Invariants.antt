use Rattle.std.proofs.Common.{◌≡◌, ℕ, drop, length}
use Rattle.std.specs.List.{Contains}
use Rattle.cones.specs.FoundLines.{HasMark}
use Rattle.cones.proofs.found_lines.clear_marks.Given as goal

-- the lines that have marks are from this one on
abbrev pub invariant-loop-line : goal.invariant-loop-line
invariant-loop-line l = record {
  places : length l.marks ≡ length l.initial.marks;
  among : (line : ℕ) → HasMark l.marks line → Contains (drop l.line-index l.lines) (record { 0 = line });
}
