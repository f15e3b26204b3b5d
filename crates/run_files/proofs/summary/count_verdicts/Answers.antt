-- One path more: its two verdicts are counted, and the total rises by two.
use Rattle.std.proofs.Common.{arith}
use Rattle.run_files.proofs.VerdictCounts.{path_counted, total_rises}
use Rattle.run_files.proofs.summary.count_verdicts.Goals as goal

pub loop-listed-preserved : goal.loop-listed-preserved
loop-listed-preserved c =
    let listed = c.listed-item.result in
    let before = c.loop-listed.counts in
    let between = c.count_one-counts.result in
    let after = c.count_one-counts-in-loop-listed.result in
    let rise = c.count_one-counts.ensures in
    let fall = c.count_one-counts-in-loop-listed.ensures in
    record {
      counted = path_counted before between after c.args.paths.now c.loop-listed.listed-index listed c.loop-listed-test.true c.listed-item.is
          c.loop-listed.invariant.counted rise fall;
      so_many = omega (arith, c.loop-listed.invariant.so_many, total_rises before between listed.rise rise, total_rises between after listed.fall fall);
    }
