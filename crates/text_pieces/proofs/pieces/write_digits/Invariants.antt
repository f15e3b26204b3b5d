use Rattle.std.proofs.Common.{◌≡◌, ◌+◌, ◌++◌, take}
use Rattle.text_pieces.specs.Tokens.{digits}
use Rattle.text_pieces.proofs.pieces.write_digits.Given as goal

-- the digits of the bits so far are written
abbrev pub invariant-loop-place : goal.invariant-loop-place
invariant-loop-place l = take (l.begin + l.place) l.text ≡ take l.begin l.initial.text ++ digits (take l.place l.bits)
