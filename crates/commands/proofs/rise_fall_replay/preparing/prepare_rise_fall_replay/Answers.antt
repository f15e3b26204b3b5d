-- NET gave no netlist, or the call went on behind it.
use Rattle.std.proofs.Common.{refl}
use Rattle.std.proofs.lemmas.Result.{err_from_is_err_and}
use Rattle.command_line.specs.RiseFallReplayForm.{rise_fall_replay_call_of}
use Rattle.commands.proofs.InputStages.{net_fails}
use Rattle.commands.specs.RiseFallReplay.{rise_fall_replay_command}
use Rattle.commands.proofs.rise_fall_replay.preparing.prepare_rise_fall_replay.Goals as goal

pub returns-in_err-net : goal.returns-in_err-net
returns-in_err-net g c =
    let call = rise_fall_replay_call_of c.args.command.now in
    let p = err_from_is_err_and c.from_residual.result c.from_residual.ensures.1 in
    rw (p.1, p.2) (net_fails (rise_fall_replay_command call) call.net _ refl _ _ _ c.in_err-net.ensures.fails)

pub returns : goal.returns
returns g c = c.prepare_behind_net.ensures _ c.in_ok-net.ensures.gives
