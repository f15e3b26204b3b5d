-- The desk is made for the scope's netlist and rules, which have no links.
use Rattle.std.proofs.Common.{subst}
use Rattle.pd_base.specs.Target.{target_of}
use Rattle.implication.specs.Scopes.{standing}
use Rattle.justify.specs.declared.answer.Unfinished.{Unfinished}
use Rattle.justify.specs.Scoping.{MayEndBy}
use Rattle.justify.proofs.Suiting.{made_for, unlinked_tells}
use Rattle.justify.proofs.searching.search.Goals as goal

pub search_at-requires-clause-desk : goal.search_at-requires-clause-desk
search_at-requires-clause-desk g c = made_for c.net.ensures c.rules.ensures c.in_ok-desk.ensures

pub search_at-requires-clause-can : goal.search_at-requires-clause-can
search_at-requires-clause-can g c = c.requires.can

pub unreachable-requires : goal.unreachable-requires
unreachable-requires g c =
    let old = standing c.args.scope.now in let target = target_of c.args.path.now c.args.dir c.args.kind in
    let P : Unfinished → Type 0 = λ error. MayEndBy target old error in
    absurd (subst P c.in-Err-Undecided.field-0-is c.in-Err-Undecided.ensures.unfinished (unlinked_tells target old c.requires.unlinked))
