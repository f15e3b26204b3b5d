-- The run is good and lawful, and the summary is its own.
use Rattle.std.proofs.Common.{◌∙◌, subst, sym}
use Rattle.netlist.specs.LinkedPairs.{FitRules}
use Rattle.command_line.specs.Commands.{run_call_of}
use Rattle.commands.specs.Gen.{run_files}
use Rattle.good_runs.proofs.Promising.{good_run_keeps}
use Rattle.commands.proofs.preparing.told_run.Goals as goal

pub returns-clause-gives : goal.returns-clause-gives
returns-clause-gives c = record {
  run = c.in_ok-run.run';
  rules = c.in_ok-run.ensures.rules ∙ c.in_ok-rules.ensures.rules;
  good = c.in_ok-run.ensures.good;
  lawful = c.in_ok-run.ensures.lawful;
  promises = good_run_keeps c.args.inputs.now.net c.requires.circuit _ _ _ c.in_ok-run.run'
      (subst (FitRules c.args.inputs.now.net) (sym c.in_ok-run.ensures.rules) c.in_ok-rules.ensures.fit) c.in_ok-run.ensures.good;
  shortest = c.in_ok-run.ensures.shortest;
  zero_outside = c.in_ok-run.ensures.zero_outside;
  texts = λ i. record { files = run_files (run_call_of c.args.command.now) c.args.inputs.now.net c.in_ok-run.run'; out = c.in_ok-summary.ensures i };
}
