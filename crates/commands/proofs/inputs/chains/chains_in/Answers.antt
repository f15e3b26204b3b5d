-- A fault of the text ends the call so.
use Rattle.commands.proofs.ChainStages.{chains_judged}
use Rattle.commands.proofs.inputs.chains.chains_in.Goals as goal

pub returns-in-Err-clause-fails : goal.returns-in-Err-clause-fails
returns-in-Err-clause-fails c =
    chains_judged c.args.net.now c.args.scan.now c.in-Err.fault c.scan_ending.result c.in-Err.ensures.refused c.scan_ending.ensures
