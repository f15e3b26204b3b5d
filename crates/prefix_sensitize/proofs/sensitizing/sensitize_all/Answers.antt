-- The first paths can be searched, and the run is good for them.
use Rattle.std.proofs.Common.{ℕ, List, refl, sym, subst, subst₂}
use Rattle.std.proofs.lemmas.Result.{IfOk-weaker}
use Rattle.pd_base.specs.Route.{Route}
use Rattle.delay_annotation.specs.Annotation.{delays_of}
use Rattle.runs.specs.declared.run.Run.{Run}
use Rattle.prefix_sensitize.specs.Listed.{AreAllOutcomes}
use Rattle.prefix_sensitize.specs.Readiness.{CountsAtMost}
use Rattle.prefix_sensitize.specs.SearchedRuns.{IsSearchedRun}
use Rattle.prefix_sensitize.specs.Searches.{searches_of}
use Rattle.prefix_sensitize.specs.Walks.{AreSearchablePaths}
use Rattle.prefix_sensitize.proofs.FirstPaths.{first_are_searchable}
use Rattle.prefix_sensitize.proofs.sensitizing.sensitize_all.Goals as goal

pub search_paths-requires-clause-listed : goal.search_paths-requires-clause-listed
search_paths-requires-clause-listed g c =
    subst (AreSearchablePaths c.args.net.now) (sym c.as_slice.ensures.value)
    (first_are_searchable c.args.net.now (delays_of c.args.net.now c.args.delays.now) c.requires.first.count
    c.args.paths.items c.sources.ensures.circuit c.requires.first.are_first c.requires.first.few)

pub run_of-requires : goal.run_of-requires
run_of-requires g c =
    let outcomes = c.in_ok-outcomes.outcomes in
    let are = c.in_ok-outcomes.ensures.outcomes in
    let P : ℕ → List Route → Type 0 =
    λ budget routes. AreAllOutcomes c.args.net.now (searches_of c.args.rules budget routes outcomes) outcomes in
    (c.requires.fits, (refl, (refl, subst₂ P (sym are.budget) c.as_slice.ensures.value are)))

pub returns-clause-run : goal.returns-clause-run
returns-clause-run g c =
    let net = c.args.net.now in
    let delays = delays_of net c.args.delays.now in
    let IsRun : ℕ → Run → Type 0 = λ budget. IsSearchedRun net delays c.args.paths.items budget c.args.rules in
    IfOk-weaker c.run_of.result (IsRun c.in_ok-outcomes.outcomes.budget) (IsRun c.args.budget)
    (λ run is. subst (λ (budget : ℕ). IsRun budget run) c.in_ok-outcomes.ensures.outcomes.budget is) c.run_of.ensures

pub returns-in_err-outcomes-clause-steps : goal.returns-in_err-outcomes-clause-steps
returns-in_err-outcomes-clause-steps g c =
    subst (λ (routes : List Route). CountsAtMost routes 4 c.args.steps.now c.search_paths.new.steps) c.as_slice.ensures.value
    c.search_paths.ensures.steps

pub returns-clause-steps : goal.returns-clause-steps
returns-clause-steps g c =
    subst (λ (routes : List Route). CountsAtMost routes 4 c.args.steps.now c.search_paths.new.steps) c.as_slice.ensures.value
    c.search_paths.ensures.steps
