use Rattle.std.proofs.Common.{◌≡◌, ◌≤◌, ◌+◌, ◌-◌, drop, length}
use Rattle.std.specs.List.{prefix_len}
use Rattle.delay_annotation.specs.Fields.{is_space_or_tab}
use Rattle.delay_annotation.proofs.field.without_first_blanks.Given as goal

-- the bytes before `start` are blanks
abbrev pub invariant-loop-start : goal.invariant-loop-start
invariant-loop-start l =
    (l.start ≤ length l.text) × (l.start + prefix_len is_space_or_tab (drop l.start l.text) ≡ prefix_len is_space_or_tab l.text)

abbrev pub decreases-loop-start : goal.decreases-loop-start
decreases-loop-start l = length l.text - l.start
