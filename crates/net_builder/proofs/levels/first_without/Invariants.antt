use Rattle.std.proofs.Common.{◌≢◌, ◌<◌, ◌+◌, ℕ}
use Rattle.net_builder.specs.Progress.{level_in}
use Rattle.net_builder.proofs.levels.first_without.Given as goal

-- the gates before this one have levels
abbrev pub invariant-loop-line : goal.invariant-loop-line
invariant-loop-line l = (gate : ℕ) → l.sources + gate < l.line → level_in l.levels (l.sources + gate) ≢ 0
