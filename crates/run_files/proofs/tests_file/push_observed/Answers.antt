-- One observed line more: its name stands behind those so far.
use Rattle.std.proofs.Common.{arith}
use Rattle.std.proofs.lemmas.Grind.{common_steps}
use Rattle.run_files.proofs.ObservedNames.{observed_names_more}
use Rattle.run_files.proofs.tests_file.push_observed.Goals as goal

pub loop-line-preserved : goal.loop-line-preserved
loop-line-preserved c =
    let more = observed_names_more c.args.net.now c.observed-line-items.result.now c.loop-line.line-index (record { 0 = 0 }) c.observed-line-items.ensures.observed c.loop-line-test.true in
    grind (arith, common_steps, more)

pub returns : goal.returns
returns c = grind (arith, common_steps)
