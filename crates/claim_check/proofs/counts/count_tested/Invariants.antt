use Rattle.std.proofs.Common.{◌≡◌, ◌*◌, ◌≤◌, count_by, take}
use Rattle.runs.specs.Verdicts.{verdicts_of}
use Rattle.good_runs.specs.GoodRun.{is_tested}
use Rattle.claim_check.proofs.counts.count_tested.Given as goal

abbrev pub invariant-loop-listed : goal.invariant-loop-listed
invariant-loop-listed l = record {
  counted : l.count ≡ count_by is_tested (verdicts_of (take l.listed-index l.paths));
  few : l.count ≤ 2 * l.listed-index;
}
