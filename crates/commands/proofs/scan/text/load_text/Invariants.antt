use Rattle.std.proofs.Common.{◌≡◌, ◌+◌, ◌++◌, drop}
use Rattle.commands.specs.ReplayText.{numbered_lines}
use Rattle.commands.specs.ScanText.{load_line, load_text}
use Rattle.commands.proofs.scan.text.load_text.Given as goal

-- the lines of the tests before this one stand, and what is left are those from it on
abbrev pub invariant-loop-place : goal.invariant-loop-place
invariant-loop-place l =
    l.text.items ++ numbered_lines (load_line l.chains) (l.place + 1) (drop l.place l.tests) ≡ load_text l.chains l.tests
