-- One source more can be tried, in its least state.
use Rattle.std.proofs.Common.{List, sym, subst}
use Rattle.std.specs.List.{All}
use Rattle.std.proofs.lemmas.List.Elements.{All-push}
use Rattle.pd_base.specs.Links.{LinkList}
use Rattle.netlist.specs.LinkedPairs.{IsSupported}
use Rattle.netlist.specs.Paths.{end_of}
use Rattle.implication.specs.Scopes.{standing}
use Rattle.justify.specs.declared.trial.Tried.{Tried}
use Rattle.pair_judging.specs.Targets.{seen_target}
use Rattle.justify.specs.Trying.{CanTry}
use Rattle.justify.proofs.TriedSources.{tried_again}
use Rattle.justify.proofs.trying.renew.Goals as goal

pub returns-in_ok-push-clause-renewed : goal.returns-in_ok-push-clause-renewed
returns-in_ok-push-clause-renewed g c =
    let target = seen_target c.args.target.now in let now = standing c.args.scope.now in
    let P : List Tried → Type 0 = λ xs. All (CanTry g.A.Algebra.algebra target now) xs in
    subst P (sym c.in_ok-push.ensures.items)
    (All-push (CanTry g.A.Algebra.algebra target now) c.args.desk.now.renewed.items _ c.requires.renewed
    (tried_again g.A.Algebra.algebra target now c.marks.result.now _
    (λ line marked.
    let Q : LinkList → Type 0 = λ links. IsSupported now.net links (end_of now.net target.path) line in
    subst Q c.requires.desk.made.links ((c.requires.desk.cone.lines line).0 ((c.marks.ensures.exactly line).0 marked)))
    (c.has_least.ensures c.if-has_least.true)))
