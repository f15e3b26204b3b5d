use Rattle.delay_replay.specs.ReplayTurns.{AddsWaves}
use Rattle.delay_replay.proofs.line_waves.add_still_waves.Given as goal

-- so many waves are added as there were turns
abbrev pub invariant-loop : goal.invariant-loop
invariant-loop l = AddsWaves l.counter l.initial.waves.items l.waves.items
