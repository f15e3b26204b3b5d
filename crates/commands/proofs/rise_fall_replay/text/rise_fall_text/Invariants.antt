use Rattle.std.proofs.Common.{◌≢◌, ◌*◌, ◌/◌, ◌%◌, take}
use Rattle.test_grade.specs.Lines.{AreTestsUnder, HasLineWords}
use Rattle.commands.specs.Inside.RiseFallReplaying.{sampled_waves, sampling_of}
use Rattle.commands.specs.RiseFallReplayText.{IsRiseFallText}
use Rattle.commands.specs.TestChanges.{HaveFewOf}
use Rattle.commands.proofs.rise_fall_replay.text.rise_fall_text.Given as goal

-- the lines of the tests before this one stand, and within a block of 64 the judge has looked at it
abbrev pub invariant-loop-index : goal.invariant-loop-index
invariant-loop-index l = record {
  written : IsRiseFallText (sampling_of l.at) (take l.index l.tests) l.text.items;
  few : HaveFewOf l.at.net.now (sampled_waves l.at) (take l.index l.tests);
  words : HasLineWords l.at.net.now l.judge;
  block : l.index % 64 ≢ 0 → AreTestsUnder l.at.net.now (l.index / 64 * 64) l.tests l.judge;
}
