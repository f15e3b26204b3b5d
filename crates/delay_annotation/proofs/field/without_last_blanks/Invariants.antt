use Rattle.std.proofs.Common.{◌≡◌, ◌≤◌, ◌+◌, take, length}
use Rattle.std.specs.List.{suffix_len}
use Rattle.delay_annotation.specs.Fields.{is_space_or_tab}
use Rattle.delay_annotation.proofs.field.without_last_blanks.Given as goal

-- the bytes from `end` on are blanks
abbrev pub invariant-loop-end : goal.invariant-loop-end
invariant-loop-end l =
    (l.end ≤ length l.text) × (l.end + suffix_len is_space_or_tab l.text ≡ length l.text + suffix_len is_space_or_tab (take l.end l.text))

abbrev pub decreases-loop-end : goal.decreases-loop-end
decreases-loop-end l = l.end
