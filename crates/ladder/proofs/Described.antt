-- The statements of a ladder describe its circuit, so they are refused for no reason.
use Rattle.std.proofs.Common.{◌≡◌, ◌*◌, ◌≤◌, ℕ, List, refl, sym, arith}
use Rattle.std.specs.List.{Contains}
use Rattle.std.proofs.lemmas.List.{length-map}
use Rattle.std.proofs.lemmas.List.Elements.{All-cons}
use Rattle.netlist.specs.Circuit.{Circuit}
use Rattle.netlist.specs.Description.{Describes, IsWithinLimits, gate_on}
use Rattle.netlist.specs.Levels.{greatest_level}
use Rattle.netlist.specs.Statements.{Numbered}
use Rattle.net_builder.specs.Refusals.{MayRefuse}
use Rattle.net_builder.specs.declared.fault.BuildFault.{BuildFault}
use Rattle.net_builder.specs.declared.fault.BuildFault.TheVariants.{TooManyLines, TooManyPins, Twice, Undefined, Loop, TooDeep, NoMemory}
use Rattle.net_builder.proofs.Exclusive.{refuses_none}
use Rattle.pd_base.specs.Memory.{out_of_memory}
use Rattle.pd_base.specs.declared.limits.TheConstants.{MOST_STAGES}
use Rattle.ladder.specs.declared.line.Letter.TheVariants.{X}
use Rattle.ladder.specs.Ladder.{ladder_circuit, ladder_gates, ladder_name, ladder_names, ladder_sources}
use Rattle.ladder.specs.Statements.{ladder_statements}
use Rattle.ladder.proofs.Order.{levels_within_gates, loop_free, uses_known}
use Rattle.ladder.proofs.Places.{names_differ, names_total}
use Rattle.ladder.proofs.Stages.{gate_total, ladder_uses, output_known, two_pins}
use Rattle.ladder.proofs.Stating.{all_arguments, defined, described_is, distinct, line_total, pins_are}

module _ (stages : ℕ) (some : 1 ≤ stages) (few : stages ≤ MOST_STAGES) where
  abbrev output : List ℕ
  output = ladder_name X stages

  within_limits : IsWithinLimits (ladder_statements stages)
  within_limits =
      let lines = line_total output (ladder_gates stages) (ladder_sources stages) in
      let pins = pins_are output (ladder_gates stages) (two_pins stages) (ladder_sources stages) in
      record {
        few_lines = omega (arith, lines, names_total stages);
        few_pins = omega (arith, pins, gate_total stages);
      }

  few_levels : greatest_level (ladder_circuit stages) ≤ 3 * stages
  few_levels =
      let below = levels_within_gates (ladder_circuit stages) in
      let long = length-map (ladder_gates stages) (gate_on (ladder_names stages)) in
      omega (arith, below, long, gate_total stages)

  pub describes : Describes (ladder_statements stages) (ladder_circuit stages)
  describes = record {
    named = record {
      limits = within_limits;
      distinct = distinct output (ladder_gates stages) (ladder_sources stages) (names_differ stages (omega arith));
      defined = defined output (ladder_gates stages) (ladder_sources stages)
          (All-cons (Contains (ladder_names stages)) output (all_arguments (ladder_gates stages)) (output_known stages some)
          (uses_known (ladder_sources stages) (ladder_gates stages) (ladder_uses stages)));
    };
    is = sym (described_is output (ladder_gates stages) (ladder_sources stages));
    loop_free = loop_free output (ladder_gates stages) (ladder_sources stages) (ladder_uses stages);
    few_levels = omega (arith, few_levels);
  }

-- where statements describe a circuit, nothing but memory may be wanting
pub only_memory : (statements : List Numbered) (c : Circuit) → Describes statements c → (fault : BuildFault) → MayRefuse statements fault
    → fault ≡ NoMemory out_of_memory
only_memory statements c _ (NoMemory refused) _ = refl
only_memory statements c describes (TooManyLines count) may = absurd (refuses_none statements c (TooManyLines count) describes may)
only_memory statements c describes (TooManyPins count) may = absurd (refuses_none statements c (TooManyPins count) describes may)
only_memory statements c describes (Twice line name) may = absurd (refuses_none statements c (Twice line name) describes may)
only_memory statements c describes (Undefined line name) may = absurd (refuses_none statements c (Undefined line name) describes may)
only_memory statements c describes (Loop line name) may = absurd (refuses_none statements c (Loop line name) describes may)
only_memory statements c describes (TooDeep line name) may = absurd (refuses_none statements c (TooDeep line name) describes may)
