-- The line of the only pin is cut, and then that of the gate.
use Rattle.std.proofs.Common.{◌<◌, length, Some, refl, sym, subst}
use Rattle.std.specs.Option.{IfSome}
use Rattle.netlist.specs.Circuit.{pins_at}
use Rattle.state_sets.specs.Narrowing.{gate_sets}
use Rattle.hulls.proofs.Marks.{condition_pin}
use Rattle.hulls.proofs.Narrowed.{ends_at_own, ends_at_pin}
use Rattle.hulls.proofs.FewPins.{one_kept, each_of_one, one_differs}
use Rattle.hulls.proofs.PinCuts.{still_board, left_at_all_pins}
use Rattle.hulls.proofs.board.Board.narrow_one.Goals as goal

pub cut_own-requires-clause-of : goal.cut_own-requires-clause-of
cut_own-requires-clause-of g c =
    still_board c.args.net.now (Some c.args.gate) g.A.Algebra.algebra.count c.args.self.now c.cut_first.new.self
    c.requires.may.of c.in_default.ensures.cut.cut.shrunk

pub kept_at_one-kept-requires-clause-pin : goal.kept_at_one-kept-requires-clause-pin
kept_at_one-kept-requires-clause-pin g c =
    let net = c.args.net.now in let on = c.args.conditions.now in
    subst (λ o. IfSome o (λ condition. condition.pin < length (pins_at net c.args.gate.0))) (sym c.at.ensures)
    (condition_pin on.kind net on.steps c.requires.may.conditions.steps c.args.gate.0)

pub returns-in-Some : goal.returns-in-Some
returns-in-Some g c =
    let a = g.A.Algebra.algebra in let net = c.args.net.now in let gate = c.args.gate.0 in let old = c.args.self.now in
    let seen = c.labels.result.now in let kept = c.kept_at_one-kept in
    record {
      turn = ends_at_pin a net c.args.conditions.now c.sources.ensures.circuit gate old c.requires.may (Some c.args.gate)
          (refl, one_differs (pins_at net gate) c.requires.one)
          seen c.labels.ensures.labels c.at.result c.at.ensures (one_kept kept.result) kept.result.given
          (each_of_one a (gate_sets net gate seen) c.at.result kept.result kept.ensures (length (pins_at net gate)) c.requires.one)
          kept.ensures.given c.in-Some.line.0 c.cut_first.new.self c.in-Some.ensures.cut;
    }

pub returns : goal.returns
returns g c =
    let a = g.A.Algebra.algebra in let net = c.args.net.now in let gate = c.args.gate.0 in let old = c.args.self.now in
    let seen = c.labels.result.now in let kept = c.kept_at_one-kept in
    record {
      turn = ends_at_own a net c.args.conditions.now c.sources.ensures.circuit gate old c.requires.may (Some c.args.gate)
          (refl, one_differs (pins_at net gate) c.requires.one)
          seen c.labels.ensures.labels c.at.result c.at.ensures (one_kept kept.result) kept.result.given
          (each_of_one a (gate_sets net gate seen) c.at.result kept.result kept.ensures (length (pins_at net gate)) c.requires.one)
          kept.ensures.given c.cut_first.new.self c.cut_own.new.self
          (left_at_all_pins net (Some c.args.gate) a.count gate (one_kept kept.result) 1 c.requires.one old c.cut_first.new.self
          c.in_default.ensures.cut)
          c.cut_own.ensures.cut c.cut_own.result c.cut_own.ensures.some c.cut_own.ensures.emptied;
    }
