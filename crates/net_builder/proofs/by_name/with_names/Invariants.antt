use Rattle.std.proofs.Common.{◌≡◌, map}
use Rattle.std.specs.List.{All, range_with_len}
use Rattle.net_builder.specs.NameOrder.{IsNamed}
use Rattle.net_builder.proofs.by_name.with_names.Given as goal

-- the lines before this one are listed
abbrev pub invariant-loop-line : goal.invariant-loop-line
invariant-loop-line l = record {
  names : All (IsNamed l.names) l.named.items;
  lines : map (λ entry. entry.2) l.named.items ≡ range_with_len 0 l.line;
}
