use Rattle.std.proofs.Common.{◌≡◌, ◌++◌, ◌∷◌, [], ◌+◌, drop, get_or, None, Some, arith}
use Rattle.std.proofs.lemmas.List.{drop_all, drop_more}
use Rattle.text_pieces.specs.Tokens.{digit}
use Rattle.text_pieces.proofs.Listing.{all_listed, not_listed, one_more}
use Rattle.text_pieces.proofs.Vectors.{bits_read}
use Rattle.text_pieces.proofs.bits.read_bits.Goals as goal

pub returns-in_default : goal.returns-in_default
returns-in_default c =
    bits_read c.args.count c.args.word.now None (omega arith)
    (not_listed digit (λ bit. Unit {0}) c.args.word.now c.loop-byte.bits.items (drop c.loop-byte.byte-index c.args.word.now)
    (get_or c.args.word.now c.loop-byte.byte-index 0) (drop (c.loop-byte.byte-index + 1) c.args.word.now) c.loop-byte.invariant
    (drop_more c.args.word.now c.loop-byte.byte-index 0 c.loop-byte-test.true) c.in_default.ensures)

pub loop-byte-preserved : goal.loop-byte-preserved
loop-byte-preserved c =
    let pushed : c.push.new.self.items ≡ c.loop-byte.bits.items ++ c.in-Some.bit ∷ [] = c.in_ok-push.ensures.items in
    rw pushed
    (one_more digit (λ bit. Unit {0}) c.args.word.now c.loop-byte.bits.items (drop c.loop-byte.byte-index c.args.word.now) c.in-Some.bit
    (get_or c.args.word.now c.loop-byte.byte-index 0) (drop (c.loop-byte.byte-index + 1) c.args.word.now) c.loop-byte.invariant
    (drop_more c.args.word.now c.loop-byte.byte-index 0 c.loop-byte-test.true) c.in-Some.ensures)

pub returns : goal.returns
returns c =
    bits_read c.args.count c.args.word.now (Some c.loop-byte.bits.items) (omega arith)
    (all_listed digit (λ bit. Unit {0}) c.args.word.now c.loop-byte.bits.items (drop c.loop-byte.byte-index c.args.word.now) c.loop-byte.invariant
    (drop_all c.loop-byte.byte-index c.args.word.now (omega arith)))
