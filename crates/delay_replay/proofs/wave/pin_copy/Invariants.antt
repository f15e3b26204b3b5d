use Rattle.std.proofs.Common.{◌≡◌, ◌≤◌, ◌+ℤ◌, pos, length, map, take, vec_len, vec_capacity}
use Rattle.delay_replay.proofs.wave.pin_copy.Given as goal

-- the changes before this one are moved
abbrev pub invariant-loop-change : goal.invariant-loop-change
invariant-loop-change l = record {
  moved : l.times.items ≡ map (λ change. change +ℤ pos l.delay) (take l.change-index l.change-items);
  each : vec_len l.times ≡ l.change-index;
  room : length l.change-items ≤ vec_capacity l.times;
}
