use Rattle.std.proofs.Common.{◌≡◌, ◌++◌, flat_map, take}
use Rattle.text_pieces.specs.Tokens.{after_space}
use Rattle.run_files.proofs.tests_file.push_sources.Given as goal

-- the names of the sources so far were appended
abbrev pub invariant-loop-source : goal.invariant-loop-source
invariant-loop-source l = l.out.items ≡ l.initial.out.items ++ flat_map after_space (take l.source l.net.sources)
