use Rattle.std.proofs.Common.{◌≡◌, ◌++◌, take}
use Rattle.commands.specs.ScanText.{load_words}
use Rattle.commands.proofs.scan.text.push_loads.Given as goal

-- the bits for the chains before this one stand
abbrev pub invariant-loop-chain : goal.invariant-loop-chain
invariant-loop-chain l = l.out.items ≡ l.initial.out.items ++ load_words (take l.chain-index l.chains) l.pair
