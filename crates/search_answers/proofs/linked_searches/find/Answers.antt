-- The budget is within the bounds, since others are refused.
use Rattle.std.proofs.Common.{sym, arith}
use Rattle.search_answers.proofs.linked_searches.find.Goals as goal

pub search_linked-requires-clause-can : goal.search_linked-requires-clause-can
search_linked-requires-clause-can g c = record {
  prefix = c.requires.path;
  start = c.requires.start;
  positive = omega arith;
  within = omega arith;
}

pub search_linked-requires-clause-rules : goal.search_linked-requires-clause-rules
search_linked-requires-clause-rules g c = record {
  of_rules = sym c.requires.linked;
  fit = c.requires.fit;
}
