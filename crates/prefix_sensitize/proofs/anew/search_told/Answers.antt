-- All sources of the support are told, so that the search ends decided.
use Rattle.std.proofs.Common.{sym, subst}
use Rattle.pd_base.specs.Links.{links_of}
use Rattle.pd_base.specs.Target.{Target}
use Rattle.netlist.specs.Paths.{end_of}
use Rattle.implication.specs.Scopes.{standing}
use Rattle.implication.proofs.Told.{told_support}
use Rattle.justify.specs.declared.answer.Unfinished.{Unfinished}
use Rattle.justify.specs.Scoping.{CanBegin, MayEndBy, TellsSupport}
use Rattle.pair_judging.specs.Targets.{seen_target}
use Rattle.prefix_sensitize.proofs.anew.search_told.Goals as goal

pub search_at-requires-clause-can : goal.search_at-requires-clause-can
search_at-requires-clause-can g c =
    let P : Target → Type 0 = λ target. CanBegin target c.args.aim.budget (standing c.args.scope.now) in
    subst P (sym c.target_along-target.ensures) c.requires.can

pub unreachable-requires : goal.unreachable-requires
unreachable-requires g c =
    let old = standing c.args.scope.now in
    let P : Unfinished → Type 0 = λ error. MayEndBy (seen_target c.target_along-target.result) old error in
    let Q : Target → Type 0 = λ target. TellsSupport target old in
    let all : Q (seen_target c.target_along-target.result) = subst Q (sym c.target_along-target.ensures) (λ source support.
    told_support old.net (links_of old.rules) old.ends c.requires.follows (end_of old.net c.args.path.now) source c.requires.told
    support.supported) in
    subst P c.in-Err-Undecided.field-0-is c.in-Err-Undecided.ensures.unfinished all
