-- The command `make`: no stage, since it reads nothing; it gives the line of a good run of a ladder, as `gen` would make one, where
-- each pin has the delay 1 (this project's own).
use Rattle.std.specs.Prelude.{◌≡◌, ℕ, List, []}
use Rattle.pd_base.specs.declared.ids.PinRef.{PinRef}
use Rattle.pd_base.specs.declared.rules.Rules.TheVariants.{Two}
use Rattle.netlist.specs.Circuit.{Circuit}
use Rattle.netlist.specs.Pins.{IsPinOn}
use Rattle.netlist.specs.Waves.{Delays}
use Rattle.delay_annotation.specs.declared.delays.TheConstants.{UNIT_DELAY}
use Rattle.ladder.specs.Ladder.{ladder_circuit}
use Rattle.runs.specs.declared.run.Run.{Run}
use Rattle.good_runs.specs.GoodRun.{IsGoodRun}
use Rattle.good_runs.specs.Promises.{AllKeepPromises}
use Rattle.run_files.specs.LadderLine.{ladder_line}
use Rattle.command_line.specs.Words.{MakeCall}
use Rattle.calls.specs.Work.{Work, Products}
use Rattle.commands.specs.InputRequirements.{RefusesNoMore}
use Rattle.commands.specs.declared.making.TheConstants.{LADDER_BUDGET, LADDER_PATHS}

-- each pin has the delay 1
abbrev pub AreUnit : Circuit → Delays → Type 0
AreUnit c delays = (pin : PinRef) (line : ℕ) → IsPinOn c pin line → delays pin ≡ UNIT_DELAY

-- no file, and on out the line of a good run of the ladder of so many stages, whose verdicts keep their promises
pub record GivesLadder (stages : ℕ) (products : Products) : Type 0 where
  pub delays : Delays
  pub unit : AreUnit (ladder_circuit stages) delays
  pub run : Run
  pub rules : run.rules ≡ Two
  pub good : IsGoodRun (ladder_circuit stages) delays LADDER_PATHS LADDER_BUDGET run
  pub promises : AllKeepPromises (ladder_circuit stages) LADDER_BUDGET run
  pub text : products ≡ record { files = []; out = ladder_line stages (ladder_circuit stages) run }

-- what make gives without any input
abbrev pub GivesMake : MakeCall → List (List ℕ) → Products → Type 0
GivesMake call [] products = GivesLadder call.stages products
GivesMake call inputs products = ⊥

-- the command with its number
abbrev pub make_work : MakeCall → Work
make_work call = record { Requirement = ⊥; stages = []; Refuses = RefusesNoMore; Gives = GivesMake call }
