-- In each lane the words' operations are the table's.
use Rattle.std.proofs.Common.{⊎_elim, not, w64, sym, subst, ◌↔◌, IsTrue}
use Rattle.std.specs.Int.{bit_not}
use Rattle.pd_base.specs.declared.fault.Kind.TheVariants.{Nonrobust}
use Rattle.netlist.specs.declared.kind.GateKind.{GateKind}
use Rattle.netlist.specs.declared.kind.GateKind.TheVariants.{Or}
use Rattle.netlist.specs.Conditions.{side_condition, Allows}
use Rattle.logic_values.specs.Lanes.{lane_of}
use Rattle.logic_values.proofs.LaneBits.{lane_of-not, lane_of-ones}
use Rattle.test_grade.proofs.GradedSides.{said_of, ends_at_none}
use Rattle.test_grade.proofs.grading.allowed_nonrobust.Goals as goal

pub returns-in-Or : goal.returns-in-Or
returns-in-Or c lane on_path steady within =
    let last = lane_of c.args.last lane in
    let word = bit_not w64 c.args.last in
    let says = λ (kind : GateKind). IsTrue (lane_of word lane) ↔ Allows (side_condition Nonrobust kind on_path) last steady in
    let this : says Or = said_of (Allows (side_condition Nonrobust Or on_path) last steady) (lane_of word lane) (not last)
    (lane_of-not c.args.last lane c.ranges.last.fits within) (ends_at_none last) in
    ⊎_elim (λ is. subst says (sym is) this) (λ is. subst says (sym is) this) c.in-Or.is

pub returns-in-Xor : goal.returns-in-Xor
returns-in-Xor c lane on_path steady within =
    let says = λ (kind : GateKind). IsTrue (lane_of 18446744073709551615 lane)
    ↔ Allows (side_condition Nonrobust kind on_path) (lane_of c.args.last lane) steady in
    ⊎_elim
    (λ is. subst says (sym is) (λ one. tt, λ free. lane_of-ones lane within))
    (⊎_elim
    (λ is. subst says (sym is) (λ one. tt, λ free. lane_of-ones lane within))
    (⊎_elim
    (λ is. subst says (sym is) (λ one. tt, λ free. lane_of-ones lane within))
    (λ is. subst says (sym is) (λ one. tt, λ free. lane_of-ones lane within))))
    c.in-Xor.is
