use Rattle.std.proofs.Common.{◌≡◌, ◌≤◌, length, take, sum, vec_len, vec_capacity}
use Rattle.net_builder.proofs.Rooms.{begins_of, limits_of}
use Rattle.net_builder.proofs.filling.Filling.with_rooms.Given as goal

-- the rooms before this one are measured out
abbrev pub invariant-loop-room : goal.invariant-loop-room
invariant-loop-room l = record {
  total : l.total ≡ sum (take l.room-index l.rooms);
  ends : l.ends.items ≡ begins_of 0 (take l.room-index l.rooms);
  limits : l.limits.items ≡ limits_of 0 (take l.room-index l.rooms);
  end_each : vec_len l.ends ≡ l.room-index;
  limit_each : vec_len l.limits ≡ l.room-index;
  end_room : length l.rooms ≤ vec_capacity l.ends;
  limit_room : length l.rooms ≤ vec_capacity l.limits;
}
