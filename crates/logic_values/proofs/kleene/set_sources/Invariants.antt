use Rattle.std.proofs.Common.{◌≡◌, ◌<◌, ℕ}
use Rattle.netlist.specs.Steadiness.{agreed_bit}
use Rattle.logic_values.specs.Known.{known_at}
use Rattle.logic_values.proofs.kleene.set_sources.Given as goal

-- the sources before this one have their steadiness
abbrev pub invariant-loop-source : goal.invariant-loop-source
invariant-loop-source l = (k : ℕ) → k < l.source → known_at l.out k ≡ agreed_bit l.pair k
