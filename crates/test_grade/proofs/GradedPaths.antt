-- A path that is graded in lanes: its transition, and its steps one after another.
use Rattle.std.proofs.Common.{◌≡◌, ℕ, ◌+◌, ◌<◌, ◌↔◌, Bool, true, false, not, IsTrue, List, drop, length, get_or, is_some, bit_and, Some, None, if◌then◌else◌, refl, sym, ap, subst, ◌∙◌}
use Rattle.std.proofs.lemmas.Bool.{false≢true}
use Rattle.std.proofs.lemmas.List.{drop_more}
use Rattle.pd_base.specs.declared.ids.PinRef.{PinRef}
use Rattle.pd_base.specs.declared.fault.Direction.{Direction}
use Rattle.pd_base.specs.declared.fault.Kind.{Kind}
use Rattle.pd_base.specs.Pair.{Vectors}
use Rattle.netlist.specs.Circuit.{Circuit, gate_line, kind_at, source_count}
use Rattle.netlist.specs.Conditions.{final_bit, Launches, SidesAllowed, SidesMeet}
use Rattle.netlist.specs.Steadiness.{agreed_bit, is_known_as, is_steady, known_gate_value}
use Rattle.netlist.specs.Values.{bit_of, gate_value, value}
use Rattle.netlist.proofs.Evaluation.{value_at_source}
use Rattle.logic_values.specs.Lanes.{lane_of}
use Rattle.logic_values.proofs.LaneBits.{lane_of-and}
use Rattle.test_grade.proofs.GradedSides.{both_true}

-- where two bits differ nothing is agreed on
moves : (first second : Bool) → first ≡ not second
    → is_some (if is_known_as first (Some second) then Some second else None) ≡ false
moves true true differ = differ
moves true false differ = refl
moves false true differ = refl
moves false false differ = sym differ

-- and nowhere else
moved : (first second : Bool) → is_some (if is_known_as first (Some second) then Some second else None) ≡ false
    → first ≡ not second
moved true true nothing = absurd (false≢true (sym nothing))
moved true false nothing = refl
moved false true nothing = refl
moved false false nothing = absurd (false≢true (sym nothing))

-- a source has the transition where it ends so and is not steady
pub launched_pair : (c : Circuit) (pair : Vectors) (direction : Direction) (source : ℕ) (last steady : Bool) → source < source_count c
    → last ≡ value c pair.second source → steady ≡ is_steady c pair source
    → ((last ≡ final_bit direction) × (steady ≡ false)) ↔ Launches pair direction source
launched_pair c pair direction source last steady within ends is = (
  λ both. let second = sym bit ∙ both.0 in record {
    first = moved (bit_of pair.first source) (bit_of pair.second source) (sym agreed ∙ both.1) ∙ ap not second;
    second = second;
  },
  λ launches. (
    bit ∙ launches.second,
    agreed ∙ moves (bit_of pair.first source) (bit_of pair.second source) (launches.first ∙ ap not (sym launches.second)),
  ),
)
  where
    bit : last ≡ bit_of pair.second source
    bit = ends ∙ value_at_source c (bit_of pair.second) (λ gate values. gate_value (kind_at c gate) values) source within

    agreed : steady ≡ is_some (agreed_bit pair source)
    agreed = is ∙ ap is_some (value_at_source c (agreed_bit pair) (λ gate values. known_gate_value (kind_at c gate) values) source within)

-- a step's sides are judged, and then the steps behind it decide
pub one_step : (c : Circuit) (kind : Kind) (pair : Vectors) (M : Type 0) (steps : List PinRef) (place line next : ℕ) (d : PinRef)
    (lane lanes this : ℕ) → place < length steps → next ≡ gate_line c (get_or steps place d).gate.0
    → IsTrue (lane_of this lane) ↔ SidesAllowed c kind pair line (get_or steps place d)
    → (IsTrue (lane_of lanes lane) × SidesMeet c kind pair line (drop place steps)) ↔ M
    → (IsTrue (lane_of (bit_and lanes this) lane) × SidesMeet c kind pair next (drop (place + 1) steps)) ↔ M
one_step c kind pair M steps place line next d lane lanes this within reached judged decide = (
  λ left.
      let both = (both_true (lane_of lanes lane) (lane_of this lane)).0 (subst IsTrue (lane_of-and lanes this lane) left.0) in
      let rest = subst (λ at. SidesMeet c kind pair at (drop (place + 1) steps)) reached left.1 in
      decide.0 (both.0, subst (SidesMeet c kind pair line) (sym (drop_more steps place d within)) (judged.0 both.1, rest)),
  λ meets.
      let from = decide.1 meets in
      let split : SidesAllowed c kind pair line (get_or steps place d)
      × SidesMeet c kind pair (gate_line c (get_or steps place d).gate.0) (drop (place + 1) steps) =
      subst (SidesMeet c kind pair line) (drop_more steps place d within) from.1 in (
        subst IsTrue (sym (lane_of-and lanes this lane)) ((both_true (lane_of lanes lane) (lane_of this lane)).1 (from.0, judged.1 split.0)),
        subst (λ at. SidesMeet c kind pair at (drop (place + 1) steps)) (sym reached) split.1,
      ),
)
