-- Each scope has one choice less to go through.
use Rattle.std.proofs.Common.{length}
use Rattle.search_answers.proofs.nesting.+walk.Given as goal

abbrev pub decreases-walk : goal.decreases-walk
decreases-walk g l = length l.choices.now
