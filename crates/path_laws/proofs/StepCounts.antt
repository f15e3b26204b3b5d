-- A path has no more steps than its circuit has levels, since each step goes through a gate, and so raises the level.
use Rattle.std.proofs.Common.{◌≡◌, ℕ, ◌+◌, ◌<◌, ◌≤◌, List, [], ◌∷◌, length, get_or, sym, arith}
use Rattle.std.specs.List.{range_with_len}
use Rattle.std.proofs.lemmas.List.FromFn.{get_or-range_with_len, length-range_with_len}
use Rattle.std.proofs.lemmas.Option.{slice_get_read}
use Rattle.pd_base.specs.declared.ids.PinRef.{PinRef}
use Rattle.pd_base.specs.Route.{Route}
use Rattle.netlist.specs.declared.limits.TheConstants.{MOST_LEVELS}
use Rattle.netlist.specs.Circuit.{Circuit, line_count, gate_line}
use Rattle.netlist.specs.Lawful.{IsCircuit}
use Rattle.netlist.specs.Levels.{level, greatest_level}
use Rattle.netlist.specs.Pins.{IsPinOn}
use Rattle.netlist.specs.Paths.{Connects, line_after, IsPrefix}
use Rattle.netlist.proofs.RankOrder.{below_greatest, reads_lower}

-- no line stands above the greatest level
pub no_higher_level : (c : Circuit) (line : ℕ) → line < line_count c → level c line ≤ greatest_level c
no_higher_level c line within =
    let lines = range_with_len 0 (line_count c) in
    let here : line ≡ get_or lines line line = omega (arith, get_or-range_with_len 0 (line_count c) line line within) in
    below_greatest (level c) lines line line
    (slice_get_read lines (line_count c) line line (sym (length-range_with_len 0 (line_count c))) within here)

module _ (c : Circuit) (circuit : IsCircuit c) where
  -- a step's gate stands on a higher level than the line that its pin reads
  pub step_raises : (line : ℕ) (step : PinRef) → IsPinOn c step line → level c line < level c (gate_line c step.gate.0)
  step_raises line step on = reads_lower c circuit step.gate.0 step.pin (record { 0 = line }) on.in_circuit on.reads

  -- the level of a line and the steps that lead on from it are together at most the level of the line that they lead to
  pub level_and_steps : (line : ℕ) (steps : List PinRef) → Connects c line steps
      → level c line + length steps ≤ level c (line_after c line steps)
  level_and_steps line [] connects = omega arith
  level_and_steps line (step ∷ steps) connects =
      omega (arith, step_raises line step connects.0, level_and_steps (gate_line c step.gate.0) steps connects.1)

  -- steps that connect from a line of the circuit lead to one
  pub line_after_in_circuit : (line : ℕ) (steps : List PinRef) → line < line_count c → Connects c line steps
      → line_after c line steps < line_count c
  line_after_in_circuit line [] within connects = within
  line_after_in_circuit line (step ∷ steps) within connects =
      line_after_in_circuit (gate_line c step.gate.0) steps (omega (arith, connects.0.in_circuit)) connects.1

  -- no more steps lead on from a line than there are levels
  pub steps_within_levels : (line : ℕ) (steps : List PinRef) → line < line_count c → Connects c line steps
      → length steps ≤ greatest_level c
  steps_within_levels line steps within connects =
      omega (
        arith,
        level_and_steps line steps connects,
        no_higher_level c (line_after c line steps) (line_after_in_circuit line steps within connects),
      )

  -- so no prefix of a path has more steps than a circuit may have levels
  pub prefix_has_few_steps : (path : Route) → IsPrefix c path → length path.steps ≤ MOST_LEVELS
  prefix_has_few_steps path is =
      let within : path.source.0 < line_count c = omega (arith, is.source) in
      omega (arith, steps_within_levels path.source.0 path.steps within is.connects, circuit.few_levels)
