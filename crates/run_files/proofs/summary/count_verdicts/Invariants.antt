use Rattle.std.proofs.Common.{◌≡◌, ◌*◌, take}
use Rattle.run_files.specs.VerdictCounts.{AreCountsOf, verdict_total}
use Rattle.runs.specs.Verdicts.{verdicts_of}
use Rattle.run_files.proofs.summary.count_verdicts.Given as goal

-- the verdicts of the paths so far were counted
abbrev pub invariant-loop-listed : goal.invariant-loop-listed
invariant-loop-listed l = record {
  counted : AreCountsOf l.counts (verdicts_of (take l.listed-index l.paths));
  so_many : verdict_total l.counts ≡ 2 * l.listed-index;
}
