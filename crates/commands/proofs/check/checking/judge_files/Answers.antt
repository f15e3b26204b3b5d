-- An input was refused; or what was judged of the claim files.
use Rattle.std.proofs.Common.{◌++◌}
use Rattle.std.proofs.lemmas.Result.{err_from_is_err_and}
use Rattle.command_line.specs.Commands.{run_call_of}
use Rattle.commands.specs.Check.{check_command}
use Rattle.commands.specs.InputRequirements.{short_stages}
use Rattle.commands.proofs.CheckStages.{behind_short, stages_are}
use Rattle.commands.proofs.RunInputStages.{inputs_are_passed, inputs_fail}
use Rattle.commands.proofs.check.checking.judge_files.Goals as goal

pub returns-in_err-inputs : goal.returns-in_err-inputs
returns-in_err-inputs g c =
    let p = err_from_is_err_and c.from_residual.result c.from_residual.ensures.1 in
    let call = run_call_of c.args.command.now in
    rw (p.1, p.2) (inputs_fail (check_command call) call (short_stages call.paths ++ behind_short call) (stages_are call) _ _ _
    c.in_err-inputs.ensures.fails)

pub returns : goal.returns
returns g c =
    let call = run_call_of c.args.command.now in
    let it =
    inputs_are_passed (check_command call) call c.in_ok-inputs.inputs.net _ c.in_ok-inputs.inputs.launch _ _ c.in_ok-inputs.ensures.gives in
    c.judge_claims.ensures _ it.net it.delays it.scans it.has it.has_delays it.has_launch it.passed
