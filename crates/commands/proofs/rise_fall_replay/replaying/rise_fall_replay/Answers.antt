-- The text was printed, or not.
use Rattle.command_line.specs.RiseFallReplayForm.{rise_fall_replay_call_of}
use Rattle.commands.specs.RiseFallReplay.{rise_fall_replay_work}
use Rattle.commands.proofs.Printed.{printed_behind}
use Rattle.commands.proofs.rise_fall_replay.replaying.rise_fall_replay.Goals as goal

pub returns-in-Ok : goal.returns-in-Ok
returns-in-Ok g c =
    printed_behind (rise_fall_replay_work (rise_fall_replay_call_of c.args.command.now)) c.in-Ok.text.items c.as_slice.result.now _ _ _
    c.in-Ok.ensures c.as_slice.ensures.value c.print.ensures
