-- What is passed at each stage, and how the call ends there.
use Rattle.std.proofs.lemmas.Result.{err_from_is_err_and}
use Rattle.command_line.specs.Commands.{run_call_of}
use Rattle.commands.proofs.GenStages.{inputs_fail, prepared, texts_fail}
use Rattle.commands.proofs.GenTexts.{has_plain_names}
use Rattle.commands.proofs.preparing.prepare_gen.Goals as goal

pub returns-in_err-inputs-clause-prepares : goal.returns-in_err-inputs-clause-prepares
returns-in_err-inputs-clause-prepares g c =
    let p = err_from_is_err_and c.from_residual.result c.from_residual.ensures.1 in
    rw (p.1, p.2) (inputs_fail (run_call_of c.args.command.now) _ _ _ c.in_err-inputs.ensures.fails)

pub returns-in_err-told-clause-prepares : goal.returns-in_err-told-clause-prepares
returns-in_err-told-clause-prepares g c =
    let p = err_from_is_err_and c.from_residual-in_err-told.result c.from_residual-in_err-told.ensures.1 in
    rw (p.1, p.2) (texts_fail (run_call_of c.args.command.now) c.in_ok-inputs.inputs.net _ c.in_ok-inputs.inputs.launch _ _
    c.in_ok-inputs.ensures.gives _ c.in_err-told.ensures.fails)

pub returns-clause-prepares : goal.returns-clause-prepares
returns-clause-prepares g c =
    prepared (run_call_of c.args.command.now) c.in_ok-inputs.inputs.net _ c.in_ok-inputs.inputs.launch _ _ c.in_ok-inputs.ensures.gives
    _ c.in_ok-told.ensures.gives

pub returns-clause-writable : goal.returns-clause-writable
returns-clause-writable g c = record {
  lawful = c.in_ok-told.ensures.lawful;
  names = has_plain_names c.in_ok-inputs.inputs.net c.in_ok-inputs.ensures.circuit;
}
