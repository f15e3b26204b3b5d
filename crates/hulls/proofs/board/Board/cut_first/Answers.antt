-- The line of the first pin is cut.
use Rattle.std.proofs.Common.{[], ◌∷◌, length, Some, ap, arith}
use Rattle.hulls.proofs.PinCuts.{first_left, first_emptied}
use Rattle.hulls.proofs.board.Board.cut_first.Goals as goal

pub returns-then-eq : goal.returns-then-eq
returns-then-eq g c =
    let pins = c.pins.ensures in let many = ap length pins.pins in let one = c.requires.one in
    record {
      cut = first_emptied c.args.net.now (Some c.args.gate) g.A.Algebra.algebra.count c.args.gate.0 (c.args.first ∷ []) c.pins.result.now
          pins.pins pins.in_circuit (omega (arith, one, many)) c.args.self.now
          c.cut_in.new.self c.requires.of.lines c.requires.within c.requires.some
          c.cut_in.ensures.cut c.cut_in.result c.cut_in.ensures.left c.eq.result c.eq.ensures c.if-eq.true;
    }

pub returns-else-eq : goal.returns-else-eq
returns-else-eq g c =
    let pins = c.pins.ensures in let many = ap length pins.pins in let one = c.requires.one in
    record {
      cut = first_left c.args.net.now (Some c.args.gate) g.A.Algebra.algebra.count c.args.gate.0 (c.args.first ∷ []) c.pins.result.now
          pins.pins pins.in_circuit (omega (arith, one, many)) c.args.self.now
          c.cut_in.new.self c.requires.of.lines c.requires.within c.requires.some
          c.cut_in.ensures.cut c.cut_in.result c.cut_in.ensures.left c.eq.result c.eq.ensures c.if-eq.false;
    }
