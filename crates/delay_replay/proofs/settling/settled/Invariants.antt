use Rattle.std.proofs.Common.{◌≡◌, drop, sum_by}
use Rattle.delay_annotation.specs.Annotation.{delays_of}
use Rattle.delay_replay.specs.Settling.{HaveSettled}
use Rattle.delay_replay.proofs.settling.settled.Given as goal

-- the sides of the steps from here on have settled, and their delays are summed
abbrev pub invariant-loop-place : goal.invariant-loop-place
invariant-loop-place l = record {
  behind : l.behind ≡ sum_by (delays_of l.net l.delays) (drop l.place l.steps);
  settled : HaveSettled l.net (delays_of l.net l.delays) l.waves l.time (drop l.place l.steps);
}
