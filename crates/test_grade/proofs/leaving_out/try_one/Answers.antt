-- A test that is left out is counted off at the faults that it serves, each of which another one serves.
use Rattle.std.proofs.Common.{◌<◌, length, length-set, ◌∙◌, arith}
use Rattle.test_grade.specs.Compact.{count_of, serves_in}
use Rattle.test_grade.proofs.Counting.{counted_off}
use Rattle.test_grade.proofs.leaving_out.try_one.Goals as goal

pub needing_fault-requires : goal.needing_fault-requires
needing_fault-requires c fault inside = c.requires.words c.args.test fault c.requires.test inside

pub returns-then-is_none-clause-counted : goal.returns-then-is_none-clause-counted
returns-then-is_none-clause-counted c = record {
  one_each = simp length-set;
  each = λ fault inside.
      let within : fault < length c.args.counts.now = omega arith in
      c.count_off.ensures fault within
      ∙ counted_off c.args.kept.now (serves_in c.args.words.now (length c.args.counts.now)) c.args.test fault (count_of c.args.counts.now fault)
      c.requires.test c.if-kept-test.true (c.requires.counted.each fault within);
}
