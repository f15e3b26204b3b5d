use Rattle.std.proofs.Common.{◌≡◌, ◌++◌, length}
use Rattle.std.specs.Vec.Iter.{into_iter_items}
use Rattle.pd_base.specs.declared.fault.Direction.TheVariants.{Rise, Fall}
use Rattle.delay_annotation.specs.Annotation.{delays_of}
use Rattle.prefix_sensitize.specs.Answers.{IsWriterFor, written_by}
use Rattle.prefix_sensitize.specs.Listed.{ArePathsAnswered}
use Rattle.prefix_sensitize.specs.Searches.{AreBothOutcomesFrom}
use Rattle.prefix_sensitize.proofs.listing.list_paths.Given as goal

abbrev pub ghost-list_path : goal.ghost-list_path
ghost-list_path g a = g.searches

-- the paths so far are listed, and the outcomes of the others are left
abbrev pub invariant-loop-path : goal.invariant-loop-path
invariant-loop-path g l = record {
  listed : ArePathsAnswered l.net (delays_of l.net l.delays) g.searches l.yielded l.listed.items (written_by l.writer);
  writer : IsWriterFor l.net g.searches l.writer;
  rises : AreBothOutcomesFrom l.net g.searches.rules g.searches.routes g.searches.proofs Rise (length l.listed.items) l.rises;
  falls : AreBothOutcomesFrom l.net g.searches.rules g.searches.routes g.searches.proofs Fall (length l.listed.items) l.falls;
  rest : l.yielded ++ into_iter_items l.path-iterator ≡ g.searches.routes;
}
