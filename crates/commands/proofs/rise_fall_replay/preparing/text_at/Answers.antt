-- A fault of the text is told.
use Rattle.commands.proofs.ReplayFaults.{fails_for, names_line}
use Rattle.commands.specs.Inside.RiseFallReplaying.{sampled_waves}
use Rattle.commands.proofs.rise_fall_replay.preparing.text_at.Goals as goal

pub ending_for-requires : goal.ending_for-requires
ending_for-requires c =
    names_line c.args.at.now.net.now (sampled_waves c.args.at.now) c.args.tests.now c.in-Err.fault c.in-Err.ensures.refused

pub returns-in-Err-clause-fails : goal.returns-in-Err-clause-fails
returns-in-Err-clause-fails c =
    fails_for c.args.at.now.net.now (sampled_waves c.args.at.now) c.args.tests.now c.in-Err.fault c.in-Err.ensures.refused _
    c.ending_for.ensures
