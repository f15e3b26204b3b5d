use Rattle.std.proofs.Common.{ℕ, ◌<◌, ◌↔◌, IsTrue, drop}
use Rattle.pd_base.specs.Pair.{Vectors}
use Rattle.pd_base.specs.Target.{target_of}
use Rattle.netlist.specs.Circuit.{line_count}
use Rattle.netlist.specs.Conditions.{Meets, SidesMeet}
use Rattle.netlist.specs.Paths.{Connects}
use Rattle.logic_values.specs.Lanes.{lane_of}
use Rattle.test_grade.specs.Lines.{AreUnder}
use Rattle.test_grade.proofs.grading.meeting_lanes.Given as goal

-- in each lane that is left the steps that are left decide
abbrev pub invariant-loop-step : goal.invariant-loop-step
invariant-loop-step l = record {
  within : l.line.0 < line_count l.net;
  connects : Connects l.net l.line.0 (drop l.step-index l.step-items);
  same : (lane : ℕ) (pair : Vectors) → lane < 64 → AreUnder l.net pair lane l.finals l.steadies
      → (IsTrue (lane_of l.lanes lane) × SidesMeet l.net l.kind pair l.line.0 (drop l.step-index l.step-items))
      ↔ Meets l.net (target_of l.path l.fn.direction l.kind) pair;
}
