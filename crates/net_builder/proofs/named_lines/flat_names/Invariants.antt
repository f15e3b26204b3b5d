use Rattle.std.proofs.Common.{◌≡◌, ◌≤◌, ◌*◌, length, sum_by, take}
use Rattle.net_builder.specs.KeyNames.{key_names}
use Rattle.net_builder.proofs.named_lines.flat_names.Given as goal

-- the names before this one are put behind one another
abbrev pub invariant-loop-name : goal.invariant-loop-name
invariant-loop-name l = record {
  flat : l.flat ≡ key_names (take l.name-index l.name-items);
  few : sum_by length l.flat ≤ 255 * l.name-index;
}
