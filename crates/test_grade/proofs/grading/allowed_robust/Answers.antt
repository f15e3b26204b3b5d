-- In each lane the words' operations are the table's.
use Rattle.std.proofs.Common.{⊎_elim, ◌&&◌, ◌||◌, not, w64, bit_and, bit_or, ap, ap₂, sym, subst, ◌↔◌, IsTrue, ◌∙◌}
use Rattle.std.specs.Int.{bit_not}
use Rattle.pd_base.specs.declared.fault.Kind.TheVariants.{Robust}
use Rattle.netlist.specs.declared.kind.GateKind.{GateKind}
use Rattle.netlist.specs.declared.kind.GateKind.TheVariants.{And, Or}
use Rattle.netlist.specs.Conditions.{side_condition, Allows}
use Rattle.logic_values.specs.Lanes.{lane_of}
use Rattle.logic_values.proofs.LaneBits.{lane_of-and, lane_of-or, lane_of-not, lane_of-ones}
use Rattle.test_grade.proofs.GradedSides.{said_of, allowed_and, allowed_or}
use Rattle.test_grade.proofs.grading.allowed_robust.Goals as goal

pub returns-in-And : goal.returns-in-And
returns-in-And c lane within =
    let on_path = lane_of c.args.on_path lane in
    let last = lane_of c.args.last lane in
    let steady = lane_of c.args.steady lane in
    let word = bit_and c.args.last (bit_or c.args.steady c.args.on_path) in
    let says = λ (kind : GateKind). IsTrue (lane_of word lane) ↔ Allows (side_condition Robust kind on_path) last steady in
    let this : says And = said_of (Allows (side_condition Robust And on_path) last steady) (lane_of word lane) (last && (steady || on_path))
    (lane_of-and c.args.last (bit_or c.args.steady c.args.on_path) lane
    ∙ ap (λ other. last && other) (lane_of-or c.args.steady c.args.on_path lane))
    (allowed_and on_path last steady) in
    ⊎_elim (λ is. subst says (sym is) this) (λ is. subst says (sym is) this) c.in-And.is

pub returns-in-Or : goal.returns-in-Or
returns-in-Or c lane within =
    let on_path = lane_of c.args.on_path lane in
    let last = lane_of c.args.last lane in
    let steady = lane_of c.args.steady lane in
    let word = bit_and (bit_not w64 c.args.last) (bit_or c.args.steady (bit_not w64 c.args.on_path)) in
    let says = λ (kind : GateKind). IsTrue (lane_of word lane) ↔ Allows (side_condition Robust kind on_path) last steady in
    let this : says Or = said_of (Allows (side_condition Robust Or on_path) last steady) (lane_of word lane) (not last && (steady || not on_path))
    (lane_of-and (bit_not w64 c.args.last) (bit_or c.args.steady (bit_not w64 c.args.on_path)) lane
    ∙ ap₂ (λ a b. a && b) (lane_of-not c.args.last lane c.ranges.last.fits within)
    (lane_of-or c.args.steady (bit_not w64 c.args.on_path) lane
    ∙ ap (λ other. steady || other) (lane_of-not c.args.on_path lane c.ranges.on_path.fits within)))
    (allowed_or on_path last steady) in
    ⊎_elim (λ is. subst says (sym is) this) (λ is. subst says (sym is) this) c.in-Or.is

pub returns-in-Not : goal.returns-in-Not
returns-in-Not c lane within =
    let says = λ (kind : GateKind). IsTrue (lane_of 18446744073709551615 lane)
    ↔ Allows (side_condition Robust kind (lane_of c.args.on_path lane)) (lane_of c.args.last lane) (lane_of c.args.steady lane) in
    ⊎_elim
    (λ is. subst says (sym is) (λ one. tt, λ free. lane_of-ones lane within))
    (λ is. subst says (sym is) (λ one. tt, λ free. lane_of-ones lane within))
    c.in-Not.is
