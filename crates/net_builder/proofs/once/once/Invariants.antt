use Rattle.std.proofs.Common.{◌≡◌, ◌<◌, ℕ, length, false, get_or, take}
use Rattle.netlist.specs.Circuit.{distinct_lines}
use Rattle.net_builder.proofs.Distinct.{is_listed}
use Rattle.net_builder.proofs.once.once.Given as goal

abbrev pub invariant-loop-line : goal.invariant-loop-line
invariant-loop-line l =
    (length l.seen.items ≡ l.total) × (l.kept.items ≡ distinct_lines (take l.line-index l.lines))
    × ((line : ℕ) → line < l.total → get_or l.seen.items line false ≡ is_listed line (take l.line-index l.lines))
