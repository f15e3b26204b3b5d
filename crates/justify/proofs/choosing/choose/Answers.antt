-- Where nothing is chosen, each source of the cone was passed over for its one state.
use Rattle.std.proofs.Common.{List, subst}
use Rattle.std.specs.List.{All}
use Rattle.std.proofs.lemmas.List.Elements.{All-contains}
use Rattle.pd_base.specs.declared.ids.LineId.{LineId}
use Rattle.implication.specs.Scopes.{standing}
use Rattle.implication.specs.Standing.{IsTold}
use Rattle.justify.specs.Choices.{AreSingle, AreSingleAmong, IsSingleAt}
use Rattle.pair_judging.specs.Targets.{seen_target}
use Rattle.justify.proofs.TriedSources.{read_in_support, support_in_cone}
use Rattle.justify.proofs.Visits.{none_after}
use Rattle.justify.proofs.choosing.choose.Goals as goal

pub first_from-requires-clause-sources : goal.first_from-requires-clause-sources
first_from-requires-clause-sources g c =
    read_in_support g.A.Algebra.algebra (standing c.args.scope.now).net (standing c.args.scope.now).rules c.args.target.now.path.now
    c.args.desk.now c.requires.desk c.sources.result.now c.sources.ensures

pub returns-clause-none : goal.returns-clause-none
returns-clause-none g c =
    let a = g.A.Algebra.algebra in let now = standing c.args.scope.now in let cone = c.args.desk.now.cone in
    let Single : LineId → Type 0 = λ source. IsTold now source.0 → IsSingleAt a now source.0 in
    let P : List LineId → Type 0 = λ xs. All Single xs in
    none_after (AreSingleAmong a now c.sources.result.now) (AreSingle a (seen_target c.args.target.now) now) c.first_from.result
    (λ single source told. All-contains Single cone.sources (record { 0 = source }) (subst P c.sources.ensures single)
    (support_in_cone now.net now.rules c.args.target.now.path.now cone c.requires.desk.made.links c.requires.desk.cone source
    told.in_support) told.told) c.first_from.ensures.none
