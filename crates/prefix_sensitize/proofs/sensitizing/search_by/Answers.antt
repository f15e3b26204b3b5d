-- The engine is made for the last lines of the paths, and tells each of them.
use Rattle.std.proofs.Common.{◌≡◌, ◌<◌, List, All, Some, sym, ap, subst, subst₂, ◌∙◌}
use Rattle.std.proofs.lemmas.Result.{IfOk-weaker}
use Rattle.pd_base.specs.Links.{links_of}
use Rattle.netlist.specs.LinkedPairs.{FitRules}
use Rattle.trees.specs.Algebras.{algebra_of}
use Rattle.pd_base.specs.declared.ids.LineId.{LineId}
use Rattle.pd_base.specs.Route.{Route}
use Rattle.pd_base.specs.declared.rules.Rules.{Rules}
use Rattle.netlist.specs.Circuit.{Circuit, line_count}
use Rattle.netlist.specs.Paths.{end_of}
use Rattle.implication.specs.Standing.{IsToldBy, told_ends}
use Rattle.implication.proofs.Told.{ends_told}
use Rattle.pair_judging.specs.PathEnds.{ends_of}
use Rattle.prefix_sensitize.specs.declared.all_outcomes.AllOutcomes.{AllOutcomes}
use Rattle.prefix_sensitize.specs.Listed.{AreAllOutcomes}
use Rattle.prefix_sensitize.specs.Searches.{searches_of}
use Rattle.prefix_sensitize.specs.Walks.{AreSearchablePaths}
use Rattle.prefix_sensitize.proofs.sensitizing.search_by.Goals as goal

pub engine_for-requires-clause-ends : goal.engine_for-requires-clause-ends
engine_for-requires-clause-ends g c =
    let net = c.args.net.now in
    let P : List LineId → Type 0 = All (λ (end : LineId). end.0 < line_count net) in
    subst P (sym c.as_slice.ensures.value) c.in_ok-ends.ensures.lines

pub search_on-outcomes-requires-clause-told : goal.search_on-outcomes-requires-clause-told
search_on-outcomes-requires-clause-told g c =
    let net = c.args.net.now in
    let rules = c.args.rules.now in
    let engine = c.in_ok-engine.engine in
    let made = c.in_ok-engine.ensures in
    let are : engine.ends ≡ Some (told_ends (ends_of net c.args.paths.now) made.near) =
    made.told ∙ ap (λ (lines : List LineId). Some (told_ends lines made.near)) (c.as_slice.ensures.value ∙ c.in_ok-ends.ensures.ends) in
    let P : Circuit → Rules → Type 0 =
    λ n r. All (λ (route : Route). IsToldBy n (links_of r) engine.ends (end_of n route)) c.args.paths.now in
    subst₂ P (sym c.in_ok-engine.ensures.net) (sym c.in_ok-engine.ensures.own)
    (ends_told net (links_of rules) c.args.paths.now made.near engine.ends are)

pub search_on-outcomes-requires-clause-set : goal.search_on-outcomes-requires-clause-set
search_on-outcomes-requires-clause-set g c =
    let its_net = c.in_ok-engine.ensures.net in
    let its_rules = c.in_ok-engine.ensures.own in
    record {
      of_rules = c.requires.states ∙ ap algebra_of (sym its_rules);
      fit = subst₂ FitRules (sym its_net) (sym its_rules) c.requires.fit;
      idle = c.in_ok-engine.ensures.idle;
    }

pub search_on-outcomes-requires-clause-listed : goal.search_on-outcomes-requires-clause-listed
search_on-outcomes-requires-clause-listed g c =
    let P : Circuit → Type 0 = λ n. AreSearchablePaths n c.args.paths.now in
    subst P (sym c.in_ok-engine.ensures.net) c.requires.listed

pub returns-clause-outcomes : goal.returns-clause-outcomes
returns-clause-outcomes g c =
    let engine = c.in_ok-engine.engine in
    IfOk-weaker c.search_on-outcomes.result
    (λ (outcomes : AllOutcomes).
    AreAllOutcomes engine.net (searches_of engine.rules c.args.budget c.args.paths.now outcomes) outcomes)
    (λ (outcomes : AllOutcomes).
    AreAllOutcomes c.args.net.now (searches_of c.args.rules.now c.args.budget c.args.paths.now outcomes) outcomes)
    (λ outcomes are.
    let P : Circuit → Rules → Type 0 = λ n rules. AreAllOutcomes n (searches_of rules c.args.budget c.args.paths.now outcomes) outcomes in
    subst₂ P c.in_ok-engine.ensures.net c.in_ok-engine.ensures.own are)
    c.search_on-outcomes.ensures.outcomes

pub returns-clause-steps : goal.returns-clause-steps
returns-clause-steps g c = c.search_on-outcomes.ensures.steps
