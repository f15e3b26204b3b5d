use Rattle.std.proofs.Common.{◌≡◌, ◌++◌}
use Rattle.pd_io.proofs.pieces.whole_text.Given as goal

-- with the items that are left the text is whole
abbrev pub invariant-loop-index : goal.invariant-loop-index
invariant-loop-index g l = l.text.items ++ g.P.Pieces.left l.pieces l.index ≡ g.P.Pieces.text l.pieces
