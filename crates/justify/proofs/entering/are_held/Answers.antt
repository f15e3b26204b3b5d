-- Each source that is passed over is held; so all are where none is left.
use Rattle.std.proofs.Common.{subst, List}
use Rattle.std.specs.List.{All}
use Rattle.std.proofs.lemmas.List.{take_all}
use Rattle.std.proofs.lemmas.List.Elements.{All-more}
use Rattle.implication.specs.Scopes.{standing}
use Rattle.justify.specs.declared.trial.Tried.{Tried}
use Rattle.justify.specs.Growths.{IsHeldAt}
use Rattle.justify.proofs.entering.are_held.Goals as goal

pub loop-entry-preserved : goal.loop-entry-preserved
loop-entry-preserved g c =
    All-more (IsHeldAt g.A.Algebra.algebra (standing c.args.scope.now) c.args.place.now) c.args.tried.now c.loop-entry.entry-index _
    c.loop-entry-test.true c.loop-entry.invariant (c.is_held.ensures c.if-not-is_held.false)

pub returns : goal.returns
returns g c = λ yes.
    let P : List Tried → Type 0 = λ xs. All (IsHeldAt g.A.Algebra.algebra (standing c.args.scope.now) c.args.place.now) xs in
    subst P (take_all c.loop-entry.entry-index c.args.tried.now c.loop-entry-test.false) c.loop-entry.invariant
