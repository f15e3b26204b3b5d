use Rattle.std.proofs.Common.{◌≡◌, reverse, take}
use Rattle.scan_load.specs.Shifting.{chain_bits}
use Rattle.scan_load.proofs.loading.put_load_string.Given as goal

-- the bits of the first vector so far, from the last flip-flop on
abbrev pub invariant-loop-at : goal.invariant-loop-at
invariant-loop-at l = l.string.items ≡ take l.at (reverse (chain_bits l.chain l.pair.first))
