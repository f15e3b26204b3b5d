-- The lines of the two pins are cut, one after another.
use Rattle.std.proofs.Common.{◌∷◌, length, ap, arith}
use Rattle.hulls.proofs.PinCuts.{first_left, first_emptied, pin_left, pin_emptied}
use Rattle.hulls.proofs.board.Board.cut_first_two.Goals as goal

pub returns-then-eq : goal.returns-then-eq
returns-then-eq g c =
    let count = g.A.Algebra.algebra.count in let net = c.args.net.now in let gate = c.args.gate.0 in let passed = c.args.passed in
    let pins = c.pins-pins.ensures in let old = c.args.self.now in let two = c.requires.two in let many = ap length pins.pins in
    record {
      cut = λ behind. let kept = c.args.first ∷ c.args.second ∷ behind in
          first_emptied net passed count gate kept c.pins-pins.result.now pins.pins pins.in_circuit (omega (arith, two, many)) old
          c.cut_in.new.self c.requires.of.lines c.requires.within c.requires.some
          c.cut_in.ensures.cut c.cut_in.result c.cut_in.ensures.left c.eq.result c.eq.ensures c.if-eq.true;
    }

pub returns-then-eq-2 : goal.returns-then-eq-2
returns-then-eq-2 g c =
    let count = g.A.Algebra.algebra.count in let net = c.args.net.now in let gate = c.args.gate.0 in let passed = c.args.passed in
    let pins = c.pins-pins.ensures in let old = c.args.self.now in let two = c.requires.two in let many = ap length pins.pins in
    record {
      cut = λ behind. let kept = c.args.first ∷ c.args.second ∷ behind in
          let first = first_left net passed count gate kept c.pins-pins.result.now pins.pins pins.in_circuit (omega (arith, two, many)) old
          c.cut_in.new.self c.requires.of.lines c.requires.within c.requires.some
          c.cut_in.ensures.cut c.cut_in.result c.cut_in.ensures.left c.eq.result c.eq.ensures c.if-eq.false in
          pin_emptied net passed count gate kept c.pins-pins.result.now pins.pins pins.in_circuit 1 (omega (arith, two, many)) old
          c.cut_in.new.self c.cut_in-2.new.self c.requires.of.lines first
          c.cut_in-2.ensures.cut c.cut_in-2.result c.cut_in-2.ensures.left c.eq-2.result c.eq-2.ensures c.if-eq-2.true;
    }

pub returns : goal.returns
returns g c =
    let count = g.A.Algebra.algebra.count in let net = c.args.net.now in let gate = c.args.gate.0 in let passed = c.args.passed in
    let pins = c.pins-pins.ensures in let old = c.args.self.now in let two = c.requires.two in let many = ap length pins.pins in
    record {
      cut = λ behind. let kept = c.args.first ∷ c.args.second ∷ behind in
          let first = first_left net passed count gate kept c.pins-pins.result.now pins.pins pins.in_circuit (omega (arith, two, many)) old
          c.cut_in.new.self c.requires.of.lines c.requires.within c.requires.some
          c.cut_in.ensures.cut c.cut_in.result c.cut_in.ensures.left c.eq.result c.eq.ensures c.if-eq.false in
          pin_left net passed count gate kept c.pins-pins.result.now pins.pins pins.in_circuit 1 (omega (arith, two, many)) old
          c.cut_in.new.self c.cut_in-2.new.self c.requires.of.lines first
          c.cut_in-2.ensures.cut c.cut_in-2.result c.cut_in-2.ensures.left c.eq-2.result c.eq-2.ensures c.if-eq-2.false;
    }
