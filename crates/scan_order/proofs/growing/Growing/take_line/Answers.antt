-- Each line is taken, or is refused for what it is.
use Rattle.std.proofs.Common.{◌∙◌, inl, inr, sym, arith}
use Rattle.std.proofs.lemmas.Bool.{eqb-false, eqb-true}
use Rattle.std.proofs.lemmas.List.{nil_from_length}
use Rattle.std.proofs.lemmas.Result.{err_from_is_err_and}
use Rattle.text_pieces.proofs.ReadLines.{none_left, some_left}
use Rattle.scan_order.specs.Inside.Growing.{chains_so_far, lines_so_far}
use Rattle.scan_order.specs.Inside.Growing.FailsToTakeLine.{no_memory, twice, unknown}
use Rattle.scan_order.proofs.Taken.{growing_parted, growing_placed, marked, misplaced, names_none, repeated, takes_name, takes_parting, unended, unmarked}
use Rattle.scan_order.proofs.growing.Growing.take_line.Goals as goal
use Rattle.scan_order.proofs.growing.Growing.take_line.Goals.{then-is_empty-2-via-then-is_empty-2, then-is_empty-2-via-else-is_empty-2+then-is_empty-3}

pub returns-in_default-clause-fails : goal.returns-in_default-clause-fails
returns-in_default-clause-fails c =
    unknown (unended c.args.net.now c.requires.growing.circuit (lines_so_far c.args.net.now c.args.self.now) c.args.text.now c.requires.goes_on
    c.in_default.ensures.reads)

pub returns-then-is_empty-2-clause-fails : goal.returns-then-is_empty-2-clause-fails
returns-then-is_empty-2-clause-fails c =
    let none = none_left _ _ c.is_empty.ensures c.if-is_empty.true in
    unknown (misplaced c.args.net.now c.requires.growing.circuit c.args.text.now c.in-Some.said.now c.in-Some.behind.now c.in-Some.ensures.reads
    c.args.self.now none
    (elim c.then-is_empty-2.branch [
      | then-is_empty-2-via-then-is_empty-2 w ↦
          let empty = eqb-true _ _ (sym c.is_empty-then-is_empty.ensures ∙ w.if-is_empty-2.true) in
          inl (nil_from_length c.args.self.now.chain.items (omega (arith, empty, c.args.self.now.chain.ok)))
      | then-is_empty-2-via-else-is_empty-2+then-is_empty-3 w ↦
          inr (none_left _ _ w.is_empty-else-is_empty-2.ensures w.if-is_empty-3.true)
    ]))

pub returns-in_err-part-clause-fails : goal.returns-in_err-part-clause-fails
returns-in_err-part-clause-fails c =
    let answer = err_from_is_err_and c.from_residual.result c.from_residual.ensures.1 in
    rw (answer.1, answer.2) no_memory

pub returns-then-is_empty-clause-growing : goal.returns-then-is_empty-clause-growing
returns-then-is_empty-clause-growing c =
    let taken = c.in_ok-part.ensures in
    let none = eqb-false _ _ (sym c.is_empty-then-is_empty.ensures ∙ c.if-is_empty-2.false) in
    growing_parted c.args.net.now c.requires.growing.circuit c.args.self.now c.part.new.self c.requires.growing
    (omega (arith, none, c.args.self.now.chain.ok)) taken.ended taken.chain taken.placed

pub returns-then-is_empty-clause-takes : goal.returns-then-is_empty-clause-takes
returns-then-is_empty-clause-takes c =
    let taken = c.in_ok-part.ensures in
    let none = eqb-false _ _ (sym c.is_empty-then-is_empty.ensures ∙ c.if-is_empty-2.false) in
    takes_parting c.args.net.now c.requires.growing.circuit c.args.self.now c.part.new.self c.requires.growing
    (omega (arith, none, c.args.self.now.chain.ok)) taken.ended taken.chain taken.placed c.args.text.now c.in-Some.said.now c.in-Some.behind.now
    c.in-Some.ensures.reads.found.1 (none_left _ _ c.is_empty.ensures c.if-is_empty.true)
    (some_left _ _ c.is_empty-else-is_empty-2.ensures c.if-is_empty-3.false)

pub returns-in_default-find_flop-clause-fails : goal.returns-in_default-find_flop-clause-fails
returns-in_default-find_flop-clause-fails c =
    let some = some_left _ _ c.is_empty.ensures c.if-is_empty.false in
    unknown (names_none c.args.net.now c.requires.growing.circuit c.args.text.now c.in-Some.said.now c.in-Some.behind.now c.in-Some.ensures.reads
    (lines_so_far c.args.net.now c.args.self.now) some c.in_default-find_flop.ensures.reads)

pub returns-then-index-clause-fails : goal.returns-then-index-clause-fails
returns-then-index-clause-fails c =
    let found = c.in-Some-find_flop.ensures.reads.found in
    let has = marked c.args.net.now (chains_so_far c.args.self.now) c.args.self.now c.requires.growing.marks c.in-Some-find_flop.flop.0
    c.in-Some-find_flop.ensures.source c.index.result.now c.index.ensures c.if-index.true in
    twice (repeated c.args.net.now c.requires.growing.circuit c.args.text.now c.in-Some.said.now c.in-Some.behind.now c.in-Some.ensures.reads
    c.args.self.now c.in-Some-find_flop.flop found.0 found.1 has)

pub returns-in_err-place-clause-fails : goal.returns-in_err-place-clause-fails
returns-in_err-place-clause-fails c =
    let answer = err_from_is_err_and c.from_residual-in_err-place.result c.from_residual-in_err-place.ensures.1 in
    rw (answer.1, answer.2) no_memory

pub returns-clause-growing : goal.returns-clause-growing
returns-clause-growing c =
    let taken = c.in_ok-place.ensures in
    let found = c.in-Some-find_flop.ensures.reads.found in
    let none = unmarked c.args.net.now (chains_so_far c.args.self.now) c.args.self.now c.requires.growing.marks c.in-Some-find_flop.flop.0
    c.in-Some-find_flop.ensures.source c.index.result.now c.index.ensures c.if-index.false in
    growing_placed c.args.net.now c.requires.growing.circuit c.args.self.now c.place.new.self c.requires.growing c.in-Some-find_flop.flop found.0
    none taken.ended taken.chain taken.placed

pub returns-clause-takes : goal.returns-clause-takes
returns-clause-takes c =
    let taken = c.in_ok-place.ensures in
    let found = c.in-Some-find_flop.ensures.reads.found in
    let none = unmarked c.args.net.now (chains_so_far c.args.self.now) c.args.self.now c.requires.growing.marks c.in-Some-find_flop.flop.0
    c.in-Some-find_flop.ensures.source c.index.result.now c.index.ensures c.if-index.false in
    takes_name c.args.net.now c.requires.growing.circuit c.args.self.now c.place.new.self c.requires.growing c.in-Some-find_flop.flop found.0
    none taken.ended taken.chain taken.placed c.args.text.now c.in-Some.said.now c.in-Some.behind.now c.in-Some.ensures.reads.found.1 found.1
