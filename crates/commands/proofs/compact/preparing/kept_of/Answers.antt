-- The tests fit the netlist, and what is kept of them is a compact list.
use Rattle.std.proofs.Common.{List, All, sym, subst}
use Rattle.netlist.specs.Paths.{IsPrefix}
use Rattle.runs.specs.declared.run.ListedPath.{ListedPath}
use Rattle.test_grade.specs.Compacted.{IsCompacted}
use Rattle.test_grade.specs.Serving.{Serves}
use Rattle.commands.proofs.compact.preparing.kept_of.Goals as goal

pub compact-requires-clause-paths : goal.compact-requires-clause-paths
compact-requires-clause-paths c =
    subst (λ (paths : List ListedPath). All (λ listed. IsPrefix c.args.net listed.path) paths) (sym c.as_slice.ensures.value)
    (λ place d within. (c.requires.graded.are_paths place d within).prefix)

pub compact-requires-clause-firsts : goal.compact-requires-clause-firsts
compact-requires-clause-firsts c place d within = (c.requires.lawful place d within).first

pub compact-requires-clause-seconds : goal.compact-requires-clause-seconds
compact-requires-clause-seconds c place d within = (c.requires.lawful place d within).second

pub returns-clause-compacted : goal.returns-clause-compacted
returns-clause-compacted c =
    subst (λ (paths : List ListedPath). IsCompacted (Serves c.args.net paths) c.args.listed.tests.items c.in_ok-kept.kept.items)
    c.as_slice.ensures.value c.in_ok-kept.ensures
