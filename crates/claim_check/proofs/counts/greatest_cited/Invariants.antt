use Rattle.std.proofs.Common.{◌≡◌, map, take}
use Rattle.netlist.specs.Greatest.{greatest}
use Rattle.runs.specs.Verdicts.{verdicts_of}
use Rattle.good_runs.specs.GoodRun.{greatest_cited}
use Rattle.claim_check.proofs.counts.greatest_cited.Given as goal

abbrev pub invariant-loop-listed : goal.invariant-loop-listed
invariant-loop-listed l = l.greatest ≡ greatest (map greatest_cited (verdicts_of (take l.listed-index l.paths)))
