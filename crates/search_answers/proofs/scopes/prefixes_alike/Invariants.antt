-- No scope is open between the prefixes, and what is assumed still fits the engine.
use Rattle.std.proofs.Common.{◌≡◌, ◌<◌, None, All}
use Rattle.netlist.specs.Circuit.{source_count}
use Rattle.trees.specs.Unlinked.{IsUnlinked}
use Rattle.search_answers.specs.Told.{AreMarkedTold}
use Rattle.search_answers.proofs.scopes.prefixes_alike.Given as goal

abbrev pub invariant-loop-count : goal.invariant-loop-count
invariant-loop-count g l = record {
  idle : l.engine.beginning ≡ None;
  source : l.assumed.source.0 < source_count l.engine.net;
  halves : All (λ half. half.split.line.0 < source_count l.engine.net) l.assumed.halves.now;
  told : AreMarkedTold l.engine l.marks;
  unlinked : IsUnlinked l.engine.rules;
}
