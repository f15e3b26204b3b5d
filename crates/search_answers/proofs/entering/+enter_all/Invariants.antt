-- The pins behind the first are one fewer.
use Rattle.std.proofs.Common.{length}
use Rattle.search_answers.proofs.entering.+enter_all.Given as goal

abbrev pub decreases-enter_all : goal.decreases-enter_all
decreases-enter_all g l = length l.pins.now
