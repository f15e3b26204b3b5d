-- The sources that are listed are among the lines.
use Rattle.std.proofs.Common.{◌<◌, length}
use Rattle.std.specs.List.{All}
use Rattle.search_hints.proofs.frames.list_sources.Given as goal

abbrev pub invariant-loop-source : goal.invariant-loop-source
invariant-loop-source l = All (λ source. source.0 < length l.marks) l.list.items
