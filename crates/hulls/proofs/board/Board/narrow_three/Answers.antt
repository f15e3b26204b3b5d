-- The lines of the three pins are cut, and then that of the gate.
use Rattle.std.proofs.Common.{length, None, sym}
use Rattle.netlist.specs.Circuit.{pins_at}
use Rattle.state_sets.specs.Narrowing.{gate_sets}
use Rattle.hulls.specs.GateViews.{three_kept}
use Rattle.hulls.proofs.Narrowed.{ends_at_own, ends_at_pin}
use Rattle.hulls.proofs.Keeping.{ends_kept}
use Rattle.hulls.proofs.FewPins.{each_of_three}
use Rattle.hulls.proofs.PinCuts.{left_at_all_pins}
use Rattle.hulls.proofs.board.Board.narrow_three.Goals as goal

pub returns-then-do_three_keep : goal.returns-then-do_three_keep
returns-then-do_three_keep g c =
    let a = g.A.Algebra.algebra in let net = c.args.net.now in let gate = c.args.gate.0 in
    let seen = c.labels.result.now in let kept = c.kept_at_three-kept in
    record {
      turn = ends_kept a net c.args.conditions.now c.sources.ensures.circuit gate c.args.self.now c.requires.may
          seen c.labels.ensures.labels None (sym c.requires.free) (three_kept kept.result) kept.result.given
          (each_of_three a (gate_sets net gate seen) kept.result kept.ensures (length (pins_at net gate)) c.requires.three)
          kept.ensures.given (c.do_three_keep.ensures c.if-do_three_keep.true);
    }

pub returns-in-Some : goal.returns-in-Some
returns-in-Some g c =
    let a = g.A.Algebra.algebra in let net = c.args.net.now in let gate = c.args.gate.0 in let old = c.args.self.now in
    let seen = c.labels.result.now in let kept = c.kept_at_three-kept in
    let passed = c.passed_by_three-passed in
    record {
      turn = ends_at_pin a net c.args.conditions.now c.sources.ensures.circuit gate old c.requires.may passed.result passed.ensures
          seen c.labels.ensures.labels None (sym c.requires.free) (three_kept kept.result) kept.result.given
          (each_of_three a (gate_sets net gate seen) kept.result kept.ensures (length (pins_at net gate)) c.requires.three)
          kept.ensures.given c.in-Some.line.0 c.cut_three.new.self c.in-Some.ensures.cut;
    }

pub returns : goal.returns
returns g c =
    let a = g.A.Algebra.algebra in let net = c.args.net.now in let gate = c.args.gate.0 in let old = c.args.self.now in
    let seen = c.labels.result.now in let kept = c.kept_at_three-kept in
    let passed = c.passed_by_three-passed in
    record {
      turn = ends_at_own a net c.args.conditions.now c.sources.ensures.circuit gate old c.requires.may passed.result passed.ensures
          seen c.labels.ensures.labels None (sym c.requires.free) (three_kept kept.result) kept.result.given
          (each_of_three a (gate_sets net gate seen) kept.result kept.ensures (length (pins_at net gate)) c.requires.three)
          kept.ensures.given c.cut_three.new.self c.cut_own.new.self
          (left_at_all_pins net passed.result a.count gate (three_kept kept.result) 3 c.requires.three old c.cut_three.new.self
          c.in_default.ensures.cut)
          c.cut_own.ensures.cut c.cut_own.result c.cut_own.ensures.some c.cut_own.ensures.emptied;
    }
