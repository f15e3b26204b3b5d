-- One line more is traced.
use Rattle.std.proofs.Common.{◌<◌, inl, inr, List, length, get_or, refl, sym, ap, ◌∙◌, arith}
use Rattle.pd_base.specs.declared.ids.LineId.{LineId}
use Rattle.cones.proofs.Spreading.{no_line}
use Rattle.netlist.specs.Paths.{end_of}
use Rattle.pair_judging.specs.Targets.{seen_target}
use Rattle.refutation_check.proofs.Tracing.{marked_supported, traced_none, traced_more, traced_blamed}
use Rattle.refutation_check.proofs.blaming.traces.Goals as goal

pub loop-place-init : goal.loop-place-init
loop-place-init g c = record {
  room = refl;
  within = omega arith;
  traced = traced_none g.A.Algebra.algebra g.met.A.Algebra.laws c.args.net.now c.lines.ensures.circuit c.args.kept.now.states.items c.args.cone.now.links
      (seen_target c.args.target.now) c.args.failure c.add-2.new.self.lines
      ((c.add-2.ensures.exactly c.args.failure.first.0).1 (inl ((c.add.ensures.exactly c.args.failure.first.0).1 (inr (0, omega arith, refl)))))
      ((c.add-2.ensures.exactly c.args.failure.second.0).1 (inr (0, omega arith, refl)));
}

pub loop-place-preserved : goal.loop-place-preserved
loop-place-preserved g c =
    let net = c.args.net.now in let place = c.loop-place.place in let old = c.loop-place.blamed in let new = c.trace_line.new.blamed in
    let read = c.lines-in-loop-place-2.result.now in let shown = c.lines-in-loop-place-2.ensures.lines in
    let line : LineId = get_or read place no_line in
    let inside : place < length old.lines = omega (arith, ap length c.lines-in-loop-place.ensures.lines, c.loop-place-test.true) in
    record {
      room = c.trace_line.ensures.room ∙ c.loop-place.invariant.room;
      within = omega (arith, c.trace_line.ensures.room, c.lines-in-loop-place.ensures.few, c.loop-place-test.true);
      traced = traced_more g.A.Algebra.algebra g.met.A.Algebra.laws net c.lines.ensures.circuit c.args.kept.now.states.items c.args.cone.now.links
          (seen_target c.args.target.now) c.args.failure line place old new inside (ap (λ (ls : List LineId). get_or ls place no_line) (sym shown))
          (marked_supported net (end_of net c.args.target.now.path.now) c.args.cone.now c.marks.result.now line.0 c.requires.cone c.marks.ensures.exactly
          c.if-not-marks-line.false)
          (c.trace_line.ensures.traces c.if-not-trace_line.false) c.loop-place.invariant.traced;
    }

pub returns-clause-blamed : goal.returns-clause-blamed
returns-clause-blamed g c = λ yes.
    traced_blamed g.A.Algebra.algebra g.met.A.Algebra.laws c.args.net.now c.lines.ensures.circuit c.args.kept.now.states.items c.args.cone.now.links
    (seen_target c.args.target.now) c.args.failure c.loop-place.blamed.lines c.loop-place.place
    (omega (arith, ap length c.lines-in-loop-place.ensures.lines, c.loop-place-test.false)) c.loop-place.invariant.traced c.requires.failure
