-- Why a text has no circuit (ISCAS .bench; the order of the reasons is this project's own).
use Rattle.std.specs.Prelude.{◌≡◌, ⊤, ℕ, List, Ok, Err}
use Rattle.netlist.specs.Statements.{Numbered}
use Rattle.net_builder.specs.declared.fault.BuildFault.{BuildFault}
use Rattle.net_builder.specs.Refusals.{Refuses}
use Rattle.bench_reader.specs.declared.fault.BenchFault.{BenchFault}
use Rattle.bench_reader.specs.declared.fault.BenchFault.TheVariants.{Build, NoMemory}
use Rattle.bench_reader.specs.Texts.{statements_of}

-- no line is refused, and the statements describe no circuit for this reason
pub record HasNoCircuit (text : List ℕ) (fault : BuildFault) : Type 0 where
  pub statements : List Numbered
  pub read : statements_of text ≡ Ok statements
  pub refused : Refuses statements fault

-- the text is refused for this reason: by its first line that is refused, or else because its statements describe no circuit
abbrev pub RefusesText : List ℕ → BenchFault → Type 0
RefusesText text (NoMemory _) = ⊥
RefusesText text (Build fault) = HasNoCircuit text fault
RefusesText text fault = statements_of text ≡ Err fault

-- an answer that is no netlist: a reason, or want of memory
abbrev pub MayRefuseText : List ℕ → BenchFault → Type 0
MayRefuseText text (NoMemory _) = ⊤
MayRefuseText text fault = RefusesText text fault
