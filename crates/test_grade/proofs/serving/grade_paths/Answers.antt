-- The faults of one path more are graded.
use Rattle.std.proofs.Common.{◌+◌, ◌*◌, ◌↔◌, IsTrue, length-set, set, Some, ap, sym, subst, ◌∙◌, arith}
use Rattle.std.proofs.lemmas.Option.{slice_get-get_or}
use Rattle.pd_base.specs.declared.fault.Direction.TheVariants.{Rise, Fall}
use Rattle.pd_base.specs.declared.fault.Kind.{Kind}
use Rattle.pd_base.specs.Target.{target_of}
use Rattle.netlist.specs.Conditions.{Meets}
use Rattle.logic_values.specs.Lanes.{lane_of}
use Rattle.test_grade.proofs.Blocks.{graded_more, others_kept}
use Rattle.test_grade.proofs.serving.grade_paths.Goals as goal

pub loop-place-preserved : goal.loop-place-preserved
loop-place-preserved c =
    let net = c.args.net.now in
    let paths = c.args.paths.now in
    let place = c.loop-place.place in
    let words = c.loop-place.words in
    let i = c.args.base + 2 * place in
    let turn = c.loop-place.invariant in
    let listed = c.index-paths-place.result in
    let rise = c.meeting_lanes.result in
    let fall = c.meeting_lanes-in-loop-place.result in
    record {
      graded = graded_more c.args.asked net paths c.args.finals.now c.args.steadies.now c.args.base words place rise fall listed
          (slice_get-get_or paths place listed c.loop-place-test.true ∙ ap Some (sym c.index-paths-place.is)) (omega arith)
          (λ lane pair within under.
          subst (λ (kind : Kind). IsTrue (lane_of rise lane) ↔ Meets net (target_of listed.path Rise kind) pair) c.kind_for-rise.ensures
          (c.meeting_lanes.ensures lane pair within under))
          (λ lane pair within under.
          subst (λ (kind : Kind). IsTrue (lane_of fall lane) ↔ Meets net (target_of listed.path Fall kind) pair) c.kind_for-fall.ensures
          (c.meeting_lanes-in-loop-place.ensures lane pair within under))
          turn.graded;
      before = λ k below. others_kept words i rise fall k (λ e. omega (arith, e)) (λ e. omega (arith, e)) ∙ turn.before k below;
      places = length-set (set words i rise) (i + 1) fall ∙ length-set words i rise ∙ turn.places;
    }
