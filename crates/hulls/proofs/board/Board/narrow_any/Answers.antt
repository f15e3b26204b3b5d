-- The lines of the pins are cut, and then that of the gate.
use Rattle.std.proofs.Common.{◌<◌, length, sym, subst}
use Rattle.std.specs.Option.{IfSome}
use Rattle.netlist.specs.Circuit.{pins_at}
use Rattle.hulls.proofs.Marks.{condition_pin}
use Rattle.hulls.proofs.Narrowed.{ends_at_own, ends_at_pin}
use Rattle.hulls.proofs.board.Board.narrow_any.Goals as goal

pub cut_pins-requires-clause-circuit : goal.cut_pins-requires-clause-circuit
cut_pins-requires-clause-circuit g c = c.sources.ensures.circuit

pub kept_at-given-requires-clause-pin : goal.kept_at-given-requires-clause-pin
kept_at-given-requires-clause-pin g c =
    let net = c.args.net.now in let on = c.args.conditions.now in
    subst (λ o. IfSome o (λ condition. condition.pin < length (pins_at net c.args.gate.0))) (sym c.at.ensures)
    (condition_pin on.kind net on.steps c.requires.may.conditions.steps c.args.gate.0)

pub returns-in-Some : goal.returns-in-Some
returns-in-Some g c =
    let a = g.A.Algebra.algebra in let net = c.args.net.now in let gate = c.args.gate.0 in let old = c.args.self.now in
    let seen = c.labels.result.now in let kept = c.kept_at-given in
    let passed = c.passed_by-passed in
    record {
      turn = ends_at_pin a net c.args.conditions.now c.sources.ensures.circuit gate old c.requires.may passed.result passed.ensures
          seen c.labels.ensures.labels c.at.result c.at.ensures kept.new.scratch kept.result
          kept.ensures.at_pins kept.ensures.at_gate
          c.in-Some.line.0 c.cut_pins.new.self c.in-Some.ensures.cut;
    }

pub returns : goal.returns
returns g c =
    let a = g.A.Algebra.algebra in let net = c.args.net.now in let gate = c.args.gate.0 in let old = c.args.self.now in
    let seen = c.labels.result.now in let kept = c.kept_at-given in
    let passed = c.passed_by-passed in
    record {
      turn = ends_at_own a net c.args.conditions.now c.sources.ensures.circuit gate old c.requires.may passed.result passed.ensures
          seen c.labels.ensures.labels c.at.result c.at.ensures kept.new.scratch kept.result
          kept.ensures.at_pins kept.ensures.at_gate
          c.cut_pins.new.self c.cut_own.new.self
          c.in_default.ensures.cut
          c.cut_own.ensures.cut c.cut_own.result c.cut_own.ensures.some c.cut_own.ensures.emptied;
    }
