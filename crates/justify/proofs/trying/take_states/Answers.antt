-- The desk is the path's as its sources take other states, and those are the least ones of the labels.
use Rattle.std.proofs.Common.{refl, sym, ap, ◌∙◌, subst, length, List}
use Rattle.std.proofs.lemmas.List.{with_items_is}
use Rattle.state_sets.specs.declared.state.State.{State}
use Rattle.implication.specs.Scopes.{standing}
use Rattle.pair_judging.specs.ConeStates.{AreStates}
use Rattle.pair_judging.specs.Targets.{seen_target}
use Rattle.justify.specs.Trying.{HasLeast}
use Rattle.justify.proofs.TriedSources.{read_within, desk_again, taken_least}
use Rattle.justify.proofs.trying.take_states.Goals as goal

pub take_least-requires-clause-labels : goal.take_least-requires-clause-labels
take_least-requires-clause-labels g c =
    read_within g.A.Algebra.algebra (standing c.args.scope.now).net (standing c.args.scope.now).rules c.args.target.now.path.now
    c.args.desk.now c.requires.desk c.sources.result.now c.sources.ensures
    (length c.labels.result.now) c.labels.ensures.one_each

pub take_least-requires-clause-places : goal.take_least-requires-clause-places
take_least-requires-clause-places g c =
    read_within g.A.Algebra.algebra (standing c.args.scope.now).net (standing c.args.scope.now).rules c.args.target.now.path.now
    c.args.desk.now c.requires.desk c.sources.result.now c.sources.ensures
    (length c.as_mut_slice.result.now) (ap length c.as_mut_slice.ensures.value ∙ c.requires.desk.made.states)

pub take_least-requires-clause-states : goal.take_least-requires-clause-states
take_least-requires-clause-states g c = subst (AreStates g.A.Algebra.algebra.count) (sym c.as_mut_slice.ensures.value) c.requires.desk.made.within

pub returns-clause-desk : goal.returns-clause-desk
returns-clause-desk g c =
    let long = c.take_least.ensures.places ∙ ap length c.as_mut_slice.ensures.value in
    desk_again g.A.Algebra.algebra (standing c.args.scope.now).net (standing c.args.scope.now).rules c.args.target.now.path.now c.args.desk.now _
    c.take_least.new.states c.requires.desk refl refl refl refl
    (with_items_is c.args.desk.now.states c.take_least.new.states (long ∙ sym c.args.desk.now.states.ok.0))
    c.take_least.ensures.states long c.requires.desk.made.justifier

pub returns-clause-least : goal.returns-clause-least
returns-clause-least g c =
    let now = standing c.args.scope.now in let target = seen_target c.args.target.now in
    let long = c.take_least.ensures.places ∙ ap length c.as_mut_slice.ensures.value ∙ sym c.args.desk.now.states.ok.0 in
    let P : List State → Type 0 = λ xs. HasLeast g.A.Algebra.algebra target now xs in
    subst P (sym (with_items_is c.args.desk.now.states c.take_least.new.states long))
    (taken_least g.A.Algebra.algebra target now c.requires.node c.args.desk.now c.requires.desk c.sources.result.now c.sources.ensures
    c.labels.result.now (c.labels.ensures.told c.requires.node.free) c.take_least.new.states c.take_least.ensures.taken)
