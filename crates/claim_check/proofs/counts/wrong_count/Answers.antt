-- Each count that is wrong is told where those before it are right.
use Rattle.std.proofs.Common.{ap, sym, ◌∙◌, List, length, map}
use Rattle.std.specs.List.{count_by}
use Rattle.netlist.specs.Greatest.{greatest}
use Rattle.runs.specs.declared.run.ListedPath.{ListedPath}
use Rattle.runs.specs.Verdicts.{verdicts_of}
use Rattle.good_runs.specs.GoodRun.{greatest_cited, is_tested}
use Rattle.claim_check.proofs.WrongCounts.{counts_right, paths_told, proofs_told, tests_told}
use Rattle.claim_check.proofs.counts.wrong_count.Goals as goal

pub returns-then-paths-first_count-clause-counts : goal.returns-then-paths-first_count-clause-counts
returns-then-paths-first_count-clause-counts c =
    paths_told c.args.first_count c.args.run.now (λ same. c.if-paths-first_count.true (ap length c.as_slice-paths.ensures ∙ same))

pub returns-then-as_slice-count_tested-clause-counts : goal.returns-then-as_slice-count_tested-clause-counts
returns-then-as_slice-count_tested-clause-counts c =
    let run = c.args.run.now in
    let paths = sym (ap length c.as_slice-paths.ensures) ∙ c.if-paths-first_count.false in
    let tested = c.count_tested.ensures ∙ ap (λ (list : List ListedPath). count_by is_tested (verdicts_of list)) c.as_slice-paths.ensures in
    tests_told c.args.first_count run paths
    (λ same. c.if-as_slice-count_tested.true (ap length c.as_slice.ensures ∙ same ∙ sym tested))

pub returns-then-as_slice-greatest_cited-clause-counts : goal.returns-then-as_slice-greatest_cited-clause-counts
returns-then-as_slice-greatest_cited-clause-counts c =
    let run = c.args.run.now in
    let paths = sym (ap length c.as_slice-paths.ensures) ∙ c.if-paths-first_count.false in
    let tested = c.count_tested.ensures ∙ ap (λ (list : List ListedPath). count_by is_tested (verdicts_of list)) c.as_slice-paths.ensures in
    let cited =
    c.greatest_cited.ensures
    ∙ ap (λ (list : List ListedPath). greatest (map greatest_cited (verdicts_of list))) c.as_slice-paths.ensures in
    proofs_told c.args.first_count run paths (sym (ap length c.as_slice.ensures) ∙ c.if-as_slice-count_tested.false ∙ tested)
    (λ same. c.if-as_slice-greatest_cited.true (ap length c.as_slice-2.ensures ∙ same ∙ sym cited))

pub returns-clause-counts : goal.returns-clause-counts
returns-clause-counts c =
    let run = c.args.run.now in
    let paths = sym (ap length c.as_slice-paths.ensures) ∙ c.if-paths-first_count.false in
    let tested = c.count_tested.ensures ∙ ap (λ (list : List ListedPath). count_by is_tested (verdicts_of list)) c.as_slice-paths.ensures in
    let cited =
    c.greatest_cited.ensures
    ∙ ap (λ (list : List ListedPath). greatest (map greatest_cited (verdicts_of list))) c.as_slice-paths.ensures in
    counts_right c.args.first_count run paths (sym (ap length c.as_slice.ensures) ∙ c.if-as_slice-count_tested.false ∙ tested)
    (sym (ap length c.as_slice-2.ensures) ∙ c.if-as_slice-greatest_cited.false ∙ cited)
