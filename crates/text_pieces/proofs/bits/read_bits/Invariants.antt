use Rattle.std.proofs.Common.{drop}
use Rattle.text_pieces.specs.Tokens.{digit}
use Rattle.text_pieces.proofs.Listing.{IsListed}
use Rattle.text_pieces.proofs.bits.read_bits.Given as goal

-- the digits spell the bits so far, and then those of the digits left
abbrev pub invariant-loop-byte : goal.invariant-loop-byte
invariant-loop-byte l = IsListed digit (λ bit. Unit {0}) l.word l.bits.items (drop l.byte-index l.word)
