-- A text without a circuit, or one that gives no delays, is refused for its fault; one that has a circuit, gives delays, has its form or
-- a short product is not refused.
use Rattle.std.proofs.Common.{◌≡◌, ℕ, ◌≤◌, List, refl, ap, sym, subst, ◌∙◌, arith}
use Rattle.pd_base.specs.Memory.{out_of_memory}
use Rattle.pd_base.specs.declared.test.Test.{Test}
use Rattle.net_builder.specs.declared.fault.BuildFault.TheVariants as build
use Rattle.netlist.specs.Circuit.{Circuit}
use Rattle.netlist.specs.Lawful.{IsCircuit}
use Rattle.netlist.specs.Waves.{Delays}
use Rattle.bench_reader.specs.Circuits.{HasCircuit}
use Rattle.bench_reader.specs.Refusals.{MayRefuseText}
use Rattle.bench_reader.specs.declared.fault.BenchFault.{BenchFault}
use Rattle.bench_reader.specs.declared.fault.BenchFault.TheVariants as bench
use Rattle.bench_reader.proofs.Answering.{circuit_not_refused, one_circuit}
use Rattle.bench_reader.proofs.LawfulCircuits.{is_circuit}
use Rattle.delay_annotation.specs.declared.fault.DelayFault.{DelayFault}
use Rattle.delay_annotation.specs.declared.fault.DelayFault.TheVariants as delay
use Rattle.delay_annotation.specs.declared.setting.Columns.{Columns}
use Rattle.delay_annotation.specs.DelayFile.{HasDelaysOn, RefusesFile}
use Rattle.delay_annotation.proofs.DelayLaws.{file_not_refused}
use Rattle.pd_base.specs.declared.fault.Direction.{Direction}
use Rattle.runs.specs.declared.run.ListedPath.{ListedPath}
use Rattle.runs.specs.declared.run.Proof.{Proof}
use Rattle.calls.specs.declared.ending.Ending.TheVariants.{NoMemory, Refused}
use Rattle.calls.specs.declared.refusal.Refusal.{Refusal}
use Rattle.run_files.specs.declared.version.ProofsVersion.{ProofsVersion}
use Rattle.commands.specs.Inside.InputJudging.{FailsDelays, FailsNet}
use Rattle.commands.specs.Inside.InputJudging as judging
use Rattle.commands.specs.InputRefusals.{delays_ending}
use Rattle.commands.specs.InputRefusals as refusals
use Rattle.commands.specs.InputRequirements.{LacksCircuit, HasNoDelays, HasNoDelaysFor, IsOverProduct}
use Rattle.commands.specs.SpelledRuns.{HasMalformedProofs, HasMalformedReport, SpellsProofs, SpellsReport}
use Rattle.commands.specs.SpelledRuns as spelled
use Rattle.commands.specs.SpelledTests.{HasMalformedTests, IsMalformedTests, SpellsTests}

-- a text that has a circuit is not refused
pub has_a_circuit : (text : List ℕ) (c : Circuit) (refusal : Refusal) → HasCircuit text c → ¬ LacksCircuit text refusal
has_a_circuit text c refusal has it = circuit_not_refused text c it.fault has it.refused

-- a fault of a text ends the call so
pub net_judged : (text : List ℕ) (fault : BenchFault) → MayRefuseText text fault → FailsNet text (refusals.netlist_ending fault)
net_judged text (bench.BadByte line) refuses =
    judging.refused _ refl (record { fault = bench.BadByte line; refused = refuses; is = refl })
net_judged text (bench.NameTooLong line) refuses =
    judging.refused _ refl (record { fault = bench.NameTooLong line; refused = refuses; is = refl })
net_judged text (bench.Syntax line) refuses =
    judging.refused _ refl (record { fault = bench.Syntax line; refused = refuses; is = refl })
net_judged text (bench.UnknownKind line) refuses =
    judging.refused _ refl (record { fault = bench.UnknownKind line; refused = refuses; is = refl })
net_judged text (bench.FanIn line) refuses =
    judging.refused _ refl (record { fault = bench.FanIn line; refused = refuses; is = refl })
net_judged text (bench.Build (build.TooManyLines count)) refuses =
    judging.refused _ refl (record { fault = bench.Build (build.TooManyLines count); refused = refuses; is = refl })
net_judged text (bench.Build (build.TooManyPins count)) refuses =
    judging.refused _ refl (record { fault = bench.Build (build.TooManyPins count); refused = refuses; is = refl })
net_judged text (bench.Build (build.Twice line name)) refuses =
    judging.refused _ refl (record { fault = bench.Build (build.Twice line name); refused = refuses; is = refl })
net_judged text (bench.Build (build.Undefined line name)) refuses =
    judging.refused _ refl (record { fault = bench.Build (build.Undefined line name); refused = refuses; is = refl })
net_judged text (bench.Build (build.Loop line name)) refuses =
    judging.refused _ refl (record { fault = bench.Build (build.Loop line name); refused = refuses; is = refl })
net_judged text (bench.Build (build.TooDeep line name)) refuses =
    judging.refused _ refl (record { fault = bench.Build (build.TooDeep line name); refused = refuses; is = refl })
net_judged text (bench.Build (build.NoMemory _)) refuses = judging.no_memory refl
net_judged text (bench.NoMemory _) refuses = judging.no_memory refl

-- so does a fault of a delay file
pub delays_judged : (columns : Columns) (c : Circuit) (text : List ℕ) (fault : DelayFault) → RefusesFile c columns text fault
    → FailsDelays columns c text (delays_ending fault)
delays_judged columns c text delay.Header refuses = judging.refused _ refl (record { fault = delay.Header; refused = refuses; is = refl })
delays_judged columns c text (delay.Fields row) refuses =
    judging.refused _ refl (record { fault = delay.Fields row; refused = refuses; is = refl })
delays_judged columns c text (delay.UnknownGate row) refuses =
    judging.refused _ refl (record { fault = delay.UnknownGate row; refused = refuses; is = refl })
delays_judged columns c text (delay.BadPin row) refuses =
    judging.refused _ refl (record { fault = delay.BadPin row; refused = refuses; is = refl })
delays_judged columns c text (delay.BadNumber row) refuses =
    judging.refused _ refl (record { fault = delay.BadNumber row; refused = refuses; is = refl })
delays_judged columns c text (delay.NoMemory _) refuses = judging.no_memory refl

-- want of memory is no refusal
memory_is_no_refusal : (fault : DelayFault) (refusal : Refusal) → fault ≡ delay.NoMemory out_of_memory → ¬ (delays_ending fault ≡ Refused refusal)
memory_is_no_refusal fault refusal none is =
    let never : NoMemory out_of_memory ≡ Refused refusal = sym (ap delays_ending none) ∙ is in absurd cc

-- a text that gives delays in these columns, for either transition, is not refused
pub gives_delays : (columns : Columns) (direction : Direction) (c : Circuit) → IsCircuit c → (text : List ℕ) (delays : Delays)
    (refusal : Refusal) → HasDelaysOn c columns direction text delays → ¬ HasNoDelaysFor c columns text refusal
gives_delays columns direction c is text delays refusal has it =
    memory_is_no_refusal it.fault refusal (file_not_refused c columns is direction text delays it.fault has it.refused) it.is

module _ (net : List ℕ) (c : Circuit) (has : HasCircuit net c) where
  -- a delay file that gives delays to the pins of NET's circuit is not refused
  pub has_delays : (columns : Columns) (direction : Direction) (delay_file : List ℕ) (delays : Delays) (refusal : Refusal)
      → HasDelaysOn c columns direction delay_file delays → ¬ HasNoDelays columns net delay_file refusal
  has_delays columns direction delay_file delays refusal gives none =
      gives_delays columns direction c (is_circuit net c has) delay_file delays refusal gives
      (subst (λ (d : Circuit). HasNoDelaysFor d columns delay_file refusal) (one_circuit net none.circuit c none.has has) none.none)

  -- a product that is within its limit is not over it
  pub is_within : (product_of : Circuit → ℕ) (limit : ℕ) (refused_so : ℕ → Refusal) (refusal : Refusal) → product_of c ≤ limit
      → ¬ IsOverProduct net product_of limit refused_so refusal
  is_within product_of limit refused_so refusal within it =
      let same : product_of it.circuit ≡ product_of c = ap product_of (one_circuit net it.circuit c it.has has) in
      let over = it.over in
      omega arith

  -- a file of tests of NET's circuit has its form
  pub tests_formed : (text : List ℕ) (tests : List Test) → SpellsTests c text tests → (line : ℕ) → ¬ HasMalformedTests net text line
  tests_formed text tests spells line it =
      (subst (λ (d : Circuit). IsMalformedTests d text line) (one_circuit net it.circuit c it.has has) it.malformed).none tests spells

  -- so has a report on its paths
  pub report_formed : (text : List ℕ) (paths : List ListedPath) → SpellsReport c text paths → (line : ℕ) → ¬ HasMalformedReport net text line
  report_formed text paths spells line it =
      (subst (λ (d : Circuit). spelled.IsMalformedReport d text line) (one_circuit net it.circuit c it.has has) it.malformed).none paths spells

  -- and a file of proofs
  pub proofs_formed : (text : List ℕ) (version : ProofsVersion) (proofs : List Proof) → SpellsProofs c text version proofs → (line : ℕ)
      → ¬ HasMalformedProofs net text line
  proofs_formed text version proofs spells line it =
      (subst (λ (d : Circuit). spelled.IsMalformedProofs d text line) (one_circuit net it.circuit c it.has has) it.malformed).none version proofs
      spells
