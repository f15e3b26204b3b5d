-- What is found on either engine is found of the path; a search that ends undecided leaves the scope as it was.
use Rattle.std.proofs.Common.{◌<◌, sym, ap, subst, subst₂, ◌∙◌}
use Rattle.std.specs.Prelude.{is_some}
use Rattle.pd_base.specs.Target.{Target}
use Rattle.pd_base.specs.declared.rules.Rules.{Rules}
use Rattle.netlist.specs.Circuit.{Circuit, line_count}
use Rattle.netlist.specs.Paths.{end_of}
use Rattle.implication.specs.Scopes.{standing}
use Rattle.justify.specs.Desks.{IsDeskFor}
use Rattle.justify.specs.Scoping.{CanBegin}
use Rattle.prefix_sensitize.specs.Outcomes.{target_for}
use Rattle.prefix_sensitize.proofs.SearchedAnew.{entered_there, last_at_start, start_again}
use Rattle.prefix_sensitize.proofs.anew.decide.Goals as goal

pub search_at-requires-clause-can : goal.search_at-requires-clause-can
search_at-requires-clause-can g c =
    let P : Target → Type 0 = λ target. CanBegin target c.args.aim.budget (standing c.args.scope.now) in
    subst P (sym c.target_along-target.ensures) c.requires.can

pub search_anew-requires-clause-enter : goal.search_anew-requires-clause-enter
search_anew-requires-clause-enter g c =
    let old = standing c.args.scope.now in let restored = c.search_at.ensures.restored in
    entered_there old.net _ old.rules _ c.args.aim c.args.path.now (sym (c.net.ensures ∙ restored.net)) (sym (c.rules.ensures ∙ restored.rules))
    c.requires.enter

pub search_anew-requires-clause-budget : goal.search_anew-requires-clause-budget
search_anew-requires-clause-budget g c = record { positive = c.requires.can.positive; within = c.requires.can.within }

pub search_anew-requires-clause-end : goal.search_anew-requires-clause-end
search_anew-requires-clause-end g c =
    let old = standing c.args.scope.now in let new = standing c.search_at.new.scope in
    let start = start_again (target_for c.args.aim c.args.path.now) old new c.search_at.ensures.restored c.requires.can.start in
    c.last_line.ensures.end ∙ last_at_start (target_for c.args.aim c.args.path.now) new start
    ∙ ap (λ (n : Circuit). end_of n c.args.path.now) (sym c.net.ensures)

pub search_anew-requires-clause-line : goal.search_anew-requires-clause-line
search_anew-requires-clause-line g c =
    let P : Circuit → Type 0 = λ n. c.last_line.result.0 < line_count n in
    subst P (sym c.net.ensures)
    (c.last_line.ensures.in_circuit (ap is_some (c.search_at.ensures.restored.beginning ∙ c.requires.can.start.beginning)))

pub search_anew-requires-clause-desk : goal.search_anew-requires-clause-desk
search_anew-requires-clause-desk g c =
    let restored = c.search_at.ensures.restored in
    let P : Circuit → Rules → Type 0 = λ n r. IsDeskFor g.A.Algebra.algebra n r c.search_at.new.desk in
    subst₂ P (sym (c.net.ensures ∙ restored.net)) (sym (c.rules.ensures ∙ restored.rules)) c.search_at.ensures.desk
