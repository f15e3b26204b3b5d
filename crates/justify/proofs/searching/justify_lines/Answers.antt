-- The desk is the path's before and after its justifier is asked, and then as the sources of the cone take states of what it came to.
use Rattle.std.proofs.Common.{refl, sym, ap, ◌∙◌, subst, length}
use Rattle.std.proofs.lemmas.List.{with_items_is}
use Rattle.netlist.specs.Circuit.{Circuit, line_count}
use Rattle.netlist.specs.Paths.{IsPrefix, end_of}
use Rattle.implication.specs.Scopes.{standing}
use Rattle.pair_judging.specs.ConeStates.{AreStates}
use Rattle.cones.specs.KeptCones.{IsConeAt, IsConeFor}
use Rattle.search_hints.specs.Drafts.{IsJustifierOf}
use Rattle.justify.proofs.TriedSources.{read_within, desk_again, desk_asked}
use Rattle.justify.proofs.searching.justify_lines.Goals as goal

pub take_least-requires-clause-labels : goal.take_least-requires-clause-labels
take_least-requires-clause-labels g c =
    read_within g.A.Algebra.algebra (standing c.args.scope.now).net (standing c.args.scope.now).rules c.args.target.now.path.now
    c.args.desk.now c.requires.desk c.sources.result.now c.sources.ensures
    (length c.labels-2.result.now) (c.labels-2.ensures ∙ c.propose.ensures.sizes.lines ∙ ap line_count c.net.ensures)

pub take_least-requires-clause-places : goal.take_least-requires-clause-places
take_least-requires-clause-places g c =
    read_within g.A.Algebra.algebra (standing c.args.scope.now).net (standing c.args.scope.now).rules c.args.target.now.path.now
    c.args.desk.now c.requires.desk c.sources.result.now c.sources.ensures
    (length c.as_mut_slice.result.now) (ap length c.as_mut_slice.ensures.value ∙ c.requires.desk.made.states)

pub judge_proposal-requires-clause-desk : goal.judge_proposal-requires-clause-desk
judge_proposal-requires-clause-desk g c =
    let long = c.take_least.ensures.places ∙ ap length c.as_mut_slice.ensures.value in
    let P : Circuit → Type 0 = λ n. IsJustifierOf n c.propose.new.self in
    desk_again g.A.Algebra.algebra (standing c.args.scope.now).net (standing c.args.scope.now).rules c.args.target.now.path.now c.args.desk.now _ c.take_least.new.states c.requires.desk
    refl refl refl refl
    (with_items_is c.args.desk.now.states c.take_least.new.states (long ∙ sym c.args.desk.now.states.ok.0))
    c.take_least.ensures.states long (subst P c.net.ensures c.propose.ensures)

pub invariant_of-sight : goal.invariant_of-sight
invariant_of-sight g c = record {
  one_each = c.labels.ensures.one_each ∙ sym (ap line_count c.net.ensures);
  liked_each = ap length c.as_slice.ensures.value ∙ c.requires.desk.made.liked ∙ sym (ap line_count c.net.ensures);
}

pub propose-requires-clause-of : goal.propose-requires-clause-of
propose-requires-clause-of g c =
    let P : Circuit → Type 0 = λ n. IsJustifierOf n c.args.desk.now.justifier in subst P (sym c.net.ensures) c.requires.desk.made.justifier

pub propose-requires-clause-cone_for : goal.propose-requires-clause-cone_for
propose-requires-clause-cone_for g c =
    let P : Circuit → Type 0 = λ n. IsConeFor n c.args.desk.now.cone in subst P (sym c.net.ensures) c.requires.desk.made.cone

pub propose-requires-clause-cone_at : goal.propose-requires-clause-cone_at
propose-requires-clause-cone_at g c =
    let P : Circuit → Type 0 = λ n. IsConeAt n (end_of n c.args.target.now.path.now) c.args.desk.now.cone in
    subst P (sym c.net.ensures) c.requires.desk.cone

pub propose-requires-clause-prefix : goal.propose-requires-clause-prefix
propose-requires-clause-prefix g c =
    let P : Circuit → Type 0 = λ n. IsPrefix n c.args.target.now.path.now in subst P (sym c.net.ensures) c.requires.prefix

pub returns-in_err-is_justified-clause-desk : goal.returns-in_err-is_justified-clause-desk
returns-in_err-is_justified-clause-desk g c =
    desk_asked g.A.Algebra.algebra c.net.result.now (standing c.args.scope.now).net c.net.ensures (standing c.args.scope.now).rules c.args.target.now.path.now c.args.desk.now c.requires.desk
    c.propose.new.self c.propose.ensures

pub returns-then-not-is_justified-clause-desk : goal.returns-then-not-is_justified-clause-desk
returns-then-not-is_justified-clause-desk g c =
    desk_asked g.A.Algebra.algebra c.net.result.now (standing c.args.scope.now).net c.net.ensures (standing c.args.scope.now).rules c.args.target.now.path.now c.args.desk.now c.requires.desk
    c.propose.new.self c.propose.ensures

pub take_least-requires-clause-states : goal.take_least-requires-clause-states
take_least-requires-clause-states g c = subst (AreStates g.A.Algebra.algebra.count) (sym c.as_mut_slice.ensures.value) c.requires.desk.made.within

pub judge_proposal-requires-clause-prefix : goal.judge_proposal-requires-clause-prefix
judge_proposal-requires-clause-prefix g c = c.requires.prefix
