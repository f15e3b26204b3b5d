-- The counts, one behind another, are those of the run.
use Rattle.std.proofs.Common.{rules, append_assoc}
use Rattle.run_files.proofs.summary.push_counts.Goals as goal

pub returns : goal.returns
returns c = search (rules, append_assoc)
