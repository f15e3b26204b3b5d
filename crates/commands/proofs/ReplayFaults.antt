-- A fault of a text names a line of the circuit, and is told.
use Rattle.std.proofs.Common.{List, subst}
use Rattle.pd_base.specs.declared.test.Test.{Test}
use Rattle.netlist.specs.Circuit.{Circuit}
use Rattle.calls.specs.declared.ending.Ending.{Ending}
use Rattle.commands.specs.declared.replay.over.ReplayTextFault.{ReplayTextFault}
use Rattle.commands.specs.declared.replay.over.ReplayTextFault.TheVariants.{TooManyChanges, NoMemory}
use Rattle.commands.specs.Inside.ReplayEndings.{EndsForFault, FailsReplayOf, NamesLine, lacks_memory, no_memory, over, told}
use Rattle.commands.specs.TestChanges.{PairWaves, RefusesTestsOf}
use Rattle.commands.proofs.Replayed.{over_inside}

module _ (c : Circuit) (waves : PairWaves) (tests : List Test) where
  -- the line that is named is one of the circuit
  pub names_line : (fault : ReplayTextFault) → RefusesTestsOf c waves tests fault → NamesLine c fault
  names_line (TooManyChanges number line) refuses = over_inside c waves refuses.test.pair line.0 refuses.too_much
  names_line (NoMemory _) refuses = tt

  -- so there is no text for what is told
  pub fails_for : (fault : ReplayTextFault) → RefusesTestsOf c waves tests fault → (ending : Ending) → EndsForFault c fault ending
      → FailsReplayOf c waves tests ending
  fails_for fault refuses ending (told number line is ending_is) =
      over number line ending_is (subst (RefusesTestsOf c waves tests) is refuses)
  fails_for fault refuses ending (no_memory is) = lacks_memory is
