-- The tests fit the netlist, and the text tells the bounds.
use Rattle.std.proofs.Common.{◌≡◌, List, All, length, sym, subst}
use Rattle.netlist.specs.Circuit.{source_count}
use Rattle.pd_base.specs.declared.test.Test.{Test}
use Rattle.runs.specs.declared.run.ListedPath.{ListedPath}
use Rattle.delay_bounds.specs.Bounds.{NamesTest}
use Rattle.commands.specs.Grading.{ListsPath}
use Rattle.commands.proofs.bounds.preparing.text_for.Goals as goal

pub bounds-requires-clause-paths : goal.bounds-requires-clause-paths
bounds-requires-clause-paths c =
    subst (λ (paths : List ListedPath). All (ListsPath c.args.net.now) paths) (sym c.as_slice.ensures.value) c.requires.graded.are_paths

pub bounds-requires-clause-firsts : goal.bounds-requires-clause-firsts
bounds-requires-clause-firsts c =
    subst (λ (tests : List Test). All (λ test. length test.pair.first ≡ source_count c.args.net.now) tests) (sym c.as_slice-2.ensures.value)
    (λ place d within. (c.requires.lawful place d within).first)

pub bounds-requires-clause-seconds : goal.bounds-requires-clause-seconds
bounds-requires-clause-seconds c =
    subst (λ (tests : List Test). All (λ test. length test.pair.second ≡ source_count c.args.net.now) tests) (sym c.as_slice-2.ensures.value)
    (λ place d within. (c.requires.lawful place d within).second)

pub bounds-requires-clause-named : goal.bounds-requires-clause-named
bounds-requires-clause-named c =
    subst (λ (tests : List Test). All (NamesTest (length tests)) c.args.rows.now) (sym c.as_slice-2.ensures.value) c.requires.named
