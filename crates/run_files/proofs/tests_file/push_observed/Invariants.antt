use Rattle.std.proofs.Common.{◌≡◌, ◌++◌, flat_map, take}
use Rattle.run_files.specs.TestsText.{observed_names}
use Rattle.text_pieces.specs.Tokens.{after_space}
use Rattle.run_files.proofs.tests_file.push_observed.Given as goal

-- the names of the observed lines so far were appended
abbrev pub invariant-loop-line : goal.invariant-loop-line
invariant-loop-line l = l.out.items ≡ l.initial.out.items ++ flat_map after_space (take l.line-index (observed_names l.net))
