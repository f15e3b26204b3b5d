-- The budget is within the bounds, since others are refused.
use Rattle.std.proofs.Common.{arith}
use Rattle.search_answers.proofs.searching.find.Goals as goal

pub search-requires-clause-can : goal.search-requires-clause-can
search-requires-clause-can g c = record {
  prefix = c.requires.path;
  start = c.requires.start;
  positive = omega arith;
  within = omega arith;
}
