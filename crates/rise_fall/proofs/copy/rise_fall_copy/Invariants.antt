use Rattle.std.proofs.Common.{◌≤◌, length, nat_le, take, vec_len, vec_capacity}
use Rattle.rise_fall.proofs.Swallowing.{IsCopied}
use Rattle.rise_fall.proofs.copy.rise_fall_copy.Given as goal

-- what is kept is the copy of the changes before this one
abbrev pub invariant-loop-change : goal.invariant-loop-change
invariant-loop-change l = record {
  copied : IsCopied l.rise l.fall (nat_le l.fall l.rise) l.before (take l.change-index l.changes) l.times.items l.value;
  few : vec_len l.times ≤ l.change-index;
  room : length l.changes ≤ vec_capacity l.times;
}
