-- Each entry that is passed over has the least state of its source; so all can be tried where none is left.
use Rattle.std.proofs.Common.{subst, List, arith}
use Rattle.std.proofs.lemmas.Grind.{common_steps}
use Rattle.std.specs.List.{All}
use Rattle.std.proofs.lemmas.List.{take_all}
use Rattle.std.proofs.lemmas.List.Elements.{All-more}
use Rattle.pd_base.specs.Links.{LinkList}
use Rattle.netlist.specs.LinkedPairs.{IsSupported}
use Rattle.netlist.specs.Paths.{end_of}
use Rattle.implication.specs.Scopes.{standing}
use Rattle.justify.specs.declared.trial.Tried.{Tried}
use Rattle.pair_judging.specs.Targets.{seen_target}
use Rattle.justify.specs.Trying.{CanTry}
use Rattle.justify.proofs.TriedSources.{tried_again}
use Rattle.justify.proofs.trying.can_try.Goals as goal

pub loop-entry-preserved : goal.loop-entry-preserved
loop-entry-preserved g c =
    let target = seen_target c.args.target.now in let now = standing c.args.scope.now in
    All-more (CanTry g.A.Algebra.algebra target now) c.args.tried.now c.loop-entry.entry-index _ c.loop-entry-test.true c.loop-entry.invariant
    (tried_again g.A.Algebra.algebra target now c.marks.result.now _
    (λ line marked.
    let P : LinkList → Type 0 = λ links. IsSupported now.net links (end_of now.net target.path) line in
    subst P c.requires.desk.made.links ((c.requires.desk.cone.lines line).0 ((c.marks.ensures.exactly line).0 marked)))
    (c.has_least.ensures c.if-not-has_least.false))

pub returns : goal.returns
returns g c = λ yes.
    let P : List Tried → Type 0 = λ xs. All (CanTry g.A.Algebra.algebra (seen_target c.args.target.now) (standing c.args.scope.now)) xs in
    subst P (take_all c.loop-entry.entry-index c.args.tried.now c.loop-entry-test.false)
    c.loop-entry.invariant

pub has_least-requires-clause-marks : goal.has_least-requires-clause-marks
has_least-requires-clause-marks g c = grind (arith, common_steps)

pub loop-entry-init : goal.loop-entry-init
loop-entry-init g c = grind (arith, common_steps)
