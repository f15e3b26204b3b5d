use Rattle.delay_annotation.specs.RiseFall.{rise_fall_of}
use Rattle.rise_fall.specs.Inside.GateCopies.{AreSeen}
use Rattle.rise_fall.proofs.gate.kept_copies.Given as goal

-- what the pins before this one see is kept
abbrev pub invariant-loop-place : goal.invariant-loop-place
invariant-loop-place l = record {
  seen : AreSeen (rise_fall_of l.net l.delays) l.net l.gate.0 l.place l.waves l.kept.items;
}
