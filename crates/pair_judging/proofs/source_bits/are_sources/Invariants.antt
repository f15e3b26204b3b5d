-- The links so far are to sources.
use Rattle.std.proofs.Common.{◌<◌, take}
use Rattle.std.specs.List.{All}
use Rattle.pair_judging.proofs.source_bits.are_sources.Given as goal

abbrev pub invariant-loop-link : goal.invariant-loop-link
invariant-loop-link l = All (λ link. link.1.0 < l.sources) (take l.link-index l.links)
