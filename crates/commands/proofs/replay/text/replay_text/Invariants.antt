use Rattle.std.proofs.Common.{◌≡◌, ◌+◌, ◌++◌, take, drop}
use Rattle.delay_annotation.specs.Annotation.{delays_of}
use Rattle.commands.specs.ReplayText.{replayed_lines}
use Rattle.commands.specs.TestChanges.{HaveFewChanges}
use Rattle.commands.proofs.replay.text.replay_text.Given as goal

-- the lines of the tests before this one stand, and what is left are those from it on
abbrev pub invariant-loop-index : goal.invariant-loop-index
invariant-loop-index l = record {
  written : l.text.items ++ replayed_lines l.net (delays_of l.net l.delays) l.time (l.index + 1) (drop l.index l.tests)
      ≡ replayed_lines l.net (delays_of l.net l.delays) l.time 1 l.tests;
  few : HaveFewChanges l.net (delays_of l.net l.delays) (take l.index l.tests);
}
