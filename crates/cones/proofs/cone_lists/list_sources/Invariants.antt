use Rattle.std.proofs.Common.{◌≡◌, map, take}
use Rattle.std.specs.Prelude.{vec_capacity}
use Rattle.cones.proofs.cone_lists.list_sources.Given as goal

-- the sources before this number
abbrev pub invariant-loop-number : goal.invariant-loop-number
invariant-loop-number l = record {
  capacity : vec_capacity l.sources ≡ vec_capacity l.initial.sources;
  items : l.sources.items ≡ map (λ number. record { 0 = number }) (take l.number-index l.numbers);
}
