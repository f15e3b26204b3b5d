use Rattle.std.proofs.Common.{ℕ, ◌<◌, ◌↔◌, IsTrue}
use Rattle.logic_values.specs.Lanes.{lane_of}
use Rattle.test_grade.proofs.GradedSides.{IsAllowedIn}
use Rattle.test_grade.proofs.grading.sides_allowed.Given as goal

-- in each lane, whether the sides before this pin are allowed
abbrev pub invariant-loop-pin : goal.invariant-loop-pin
invariant-loop-pin l =
    (lane : ℕ) → lane < 64 → IsTrue (lane_of l.all lane)
    ↔ ((pin : ℕ) → pin < l.pin → IsAllowedIn l.kind l.gate (lane_of l.on_path lane) l.finals l.steadies lane l.step.pin l.side-items pin)
