use Rattle.std.proofs.Common.{take}
use Rattle.delay_replay.proofs.Replaying.{IsReplayed}
use Rattle.delay_replay.proofs.line_waves.replay_with.Given as goal

-- the sources and the gates before this one have their waves
abbrev pub invariant-loop-gate : goal.invariant-loop-gate
invariant-loop-gate g l = IsReplayed l.net l.pair (g.M.DelayModel.copy l.delays l.net) (take l.gate-index l.gate-items) l.waves.items l.total
