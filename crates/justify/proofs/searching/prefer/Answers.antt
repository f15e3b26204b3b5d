-- The desk is the path's where the sources of the cone take the states that the justifier completed.
use Rattle.std.proofs.Common.{refl, sym, ap, ◌∙◌, subst, length}
use Rattle.std.proofs.lemmas.List.{with_items_is}
use Rattle.netlist.specs.Circuit.{Circuit, line_count}
use Rattle.netlist.specs.Paths.{end_of}
use Rattle.implication.specs.Scopes.{standing}
use Rattle.pair_judging.specs.ConeStates.{AreStates}
use Rattle.cones.specs.KeptCones.{IsConeAt, IsConeFor}
use Rattle.search_hints.specs.Drafts.{IsJustifierOf}
use Rattle.justify.proofs.TriedSources.{read_within, desk_again, desk_asked}
use Rattle.justify.proofs.searching.prefer.Goals as goal

pub take_least-requires-clause-labels : goal.take_least-requires-clause-labels
take_least-requires-clause-labels g c =
    read_within g.A.Algebra.algebra (standing c.args.scope.now).net (standing c.args.scope.now).rules c.args.target.now.path.now
    c.args.desk.now c.requires c.sources.result.now c.sources.ensures
    (length c.labels-2.result.now) (c.labels-2.ensures ∙ c.prefer.ensures.sizes.lines ∙ ap line_count c.net.ensures)

pub take_least-requires-clause-places : goal.take_least-requires-clause-places
take_least-requires-clause-places g c =
    read_within g.A.Algebra.algebra (standing c.args.scope.now).net (standing c.args.scope.now).rules c.args.target.now.path.now
    c.args.desk.now c.requires c.sources.result.now c.sources.ensures
    (length c.as_mut_slice.result.now) (ap length c.as_mut_slice.ensures.value ∙ c.requires.made.states)

pub returns : goal.returns
returns g c =
    let long = c.take_least.ensures.places ∙ ap length c.as_mut_slice.ensures.value in
    let P : Circuit → Type 0 = λ n. IsJustifierOf n c.prefer.new.self in
    desk_again g.A.Algebra.algebra (standing c.args.scope.now).net (standing c.args.scope.now).rules c.args.target.now.path.now c.args.desk.now _ c.take_least.new.states c.requires
    refl refl refl refl
    (with_items_is c.args.desk.now.states c.take_least.new.states (long ∙ sym c.args.desk.now.states.ok.0))
    c.take_least.ensures.states long (subst P c.net.ensures c.prefer.ensures)

pub returns-in_err-is_likely : goal.returns-in_err-is_likely
returns-in_err-is_likely g c =
    desk_asked g.A.Algebra.algebra c.net.result.now (standing c.args.scope.now).net c.net.ensures (standing c.args.scope.now).rules c.args.target.now.path.now c.args.desk.now c.requires
    c.prefer.new.self c.prefer.ensures

pub invariant_of-sight : goal.invariant_of-sight
invariant_of-sight g c = record {
  one_each = c.labels.ensures.one_each ∙ sym (ap line_count c.net.ensures);
  liked_each = ap length c.as_slice.ensures.value ∙ c.requires.made.liked ∙ sym (ap line_count c.net.ensures);
}

pub prefer-requires-clause-of : goal.prefer-requires-clause-of
prefer-requires-clause-of g c =
    let P : Circuit → Type 0 = λ n. IsJustifierOf n c.args.desk.now.justifier in subst P (sym c.net.ensures) c.requires.made.justifier

pub prefer-requires-clause-cone_for : goal.prefer-requires-clause-cone_for
prefer-requires-clause-cone_for g c =
    let P : Circuit → Type 0 = λ n. IsConeFor n c.args.desk.now.cone in subst P (sym c.net.ensures) c.requires.made.cone

pub prefer-requires-clause-cone_at : goal.prefer-requires-clause-cone_at
prefer-requires-clause-cone_at g c =
    let P : Circuit → Type 0 = λ n. IsConeAt n (end_of n c.args.target.now.path.now) c.args.desk.now.cone in
    subst P (sym c.net.ensures) c.requires.cone

pub take_least-requires-clause-states : goal.take_least-requires-clause-states
take_least-requires-clause-states g c = subst (AreStates g.A.Algebra.algebra.count) (sym c.as_mut_slice.ensures.value) c.requires.made.within
