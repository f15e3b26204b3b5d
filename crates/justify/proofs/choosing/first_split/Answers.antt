-- Each source more is passed over for its one state, and where none is left all of them were.
use Rattle.std.proofs.Common.{List, subst}
use Rattle.std.proofs.lemmas.List.{take_all}
use Rattle.std.proofs.lemmas.List.Elements.{All-more}
use Rattle.pd_base.specs.declared.ids.LineId.{LineId}
use Rattle.implication.specs.Scopes.{standing}
use Rattle.implication.specs.Standing.{IsTold}
use Rattle.justify.specs.Choices.{AreSingleAmong, IsSingleAt}
use Rattle.justify.proofs.choosing.first_split.Goals as goal

pub loop-place-preserved : goal.loop-place-preserved
loop-place-preserved g c =
    let now = standing c.args.scope.now in
    let Single : LineId → Type 0 = λ source. IsTold now source.0 → IsSingleAt g.A.Algebra.algebra now source.0 in
    All-more Single c.args.sources.now c.loop-place.place _ c.loop-place-test.true c.loop-place.invariant c.in_default.ensures.none

pub returns-clause-none : goal.returns-clause-none
returns-clause-none g c =
    let P : List LineId → Type 0 = λ sources. AreSingleAmong g.A.Algebra.algebra (standing c.args.scope.now) sources in
    subst P (take_all c.loop-place.place c.args.sources.now c.loop-place-test.false) c.loop-place.invariant
