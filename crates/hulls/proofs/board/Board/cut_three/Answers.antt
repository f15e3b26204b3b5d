-- The lines of the first two pins are cut, and then that of the third.
use Rattle.std.proofs.Common.{[], ◌∷◌, length, ap, arith}
use Rattle.hulls.specs.GateViews.{three_kept}
use Rattle.hulls.proofs.PinCuts.{still_board, pin_left, pin_emptied}
use Rattle.hulls.proofs.board.Board.cut_three.Goals as goal

pub cut_in-requires-clause-of : goal.cut_in-requires-clause-of
cut_in-requires-clause-of g c =
    still_board c.args.net.now c.args.passed g.A.Algebra.algebra.count c.args.self.now c.cut_first_two.new.self c.requires.of
    (c.in_default.ensures.cut (c.args.kept.third ∷ [])).cut.shrunk

pub returns-in-Some : goal.returns-in-Some
returns-in-Some g c = record { cut = c.in-Some.ensures.cut (c.args.kept.third ∷ []) }

pub returns-then-eq : goal.returns-then-eq
returns-then-eq g c =
    let count = g.A.Algebra.algebra.count in let net = c.args.net.now in let pins = c.pins-pins.ensures in
    let three = c.requires.three in let many = ap length pins.pins in
    record {
      cut = pin_emptied net c.args.passed count c.args.gate.0 (three_kept c.args.kept) c.pins-pins.result.now pins.pins pins.in_circuit
          2 (omega (arith, three, many)) c.args.self.now c.cut_first_two.new.self c.cut_in.new.self c.requires.of.lines
          (c.in_default.ensures.cut (c.args.kept.third ∷ []))
          c.cut_in.ensures.cut c.cut_in.result c.cut_in.ensures.left c.eq.result c.eq.ensures c.if-eq.true;
    }

pub returns : goal.returns
returns g c =
    let count = g.A.Algebra.algebra.count in let net = c.args.net.now in let pins = c.pins-pins.ensures in
    let three = c.requires.three in let many = ap length pins.pins in
    record {
      cut = pin_left net c.args.passed count c.args.gate.0 (three_kept c.args.kept) c.pins-pins.result.now pins.pins pins.in_circuit
          2 (omega (arith, three, many)) c.args.self.now c.cut_first_two.new.self c.cut_in.new.self c.requires.of.lines
          (c.in_default.ensures.cut (c.args.kept.third ∷ []))
          c.cut_in.ensures.cut c.cut_in.result c.cut_in.ensures.left c.eq.result c.eq.ensures c.if-eq.false;
    }
