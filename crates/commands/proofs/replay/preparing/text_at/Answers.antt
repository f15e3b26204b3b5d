-- A fault of the text is told.
use Rattle.pd_base.specs.Pair.{Vectors}
use Rattle.netlist.specs.Waves.{wave_of}
use Rattle.delay_annotation.specs.Annotation.{delays_of}
use Rattle.commands.proofs.ReplayFaults.{fails_for, names_line}
use Rattle.commands.proofs.replay.preparing.text_at.Goals as goal

pub ending_for-requires : goal.ending_for-requires
ending_for-requires c =
    names_line c.args.net.now (λ (pair : Vectors). wave_of c.args.net.now pair (delays_of c.args.net.now c.args.delays.now)) c.args.tests.now c.in-Err.fault c.in-Err.ensures.refused

pub returns-in-Err-clause-fails : goal.returns-in-Err-clause-fails
returns-in-Err-clause-fails c =
    fails_for c.args.net.now (λ (pair : Vectors). wave_of c.args.net.now pair (delays_of c.args.net.now c.args.delays.now)) c.args.tests.now c.in-Err.fault c.in-Err.ensures.refused _
    c.ending_for.ensures
