-- Judging leaves the states at the sources as they were taken, and so does blaming.
use Rattle.std.proofs.Common.{sym, ap, ◌∙◌, subst, length, List}
use Rattle.pd_base.specs.declared.ids.LineId.{LineId}
use Rattle.state_sets.specs.declared.state.State.{State}
use Rattle.implication.specs.Scopes.{standing}
use Rattle.pair_judging.specs.ConeStates.{AreStates, AreSourceStates}
use Rattle.pair_judging.specs.Targets.{seen_target}
use Rattle.justify.specs.Trying.{HasLeast}
use Rattle.justify.proofs.TriedSources.{read_within, kept_least}
use Rattle.justify.proofs.trying.judge_least.Goals as goal

pub are_source_states-requires-clause-places : goal.are_source_states-requires-clause-places
are_source_states-requires-clause-places g c =
    let desk = c.take_states.ensures.desk in
    read_within g.A.Algebra.algebra (standing c.args.scope.now).net (standing c.args.scope.now).rules c.args.target.now.path.now
    c.take_states.new.desk desk c.sources.result.now c.sources.ensures
    (length c.as_slice.result.now) (ap length c.as_slice.ensures.value ∙ desk.made.states)

pub are_source_states-requires-clause-states : goal.are_source_states-requires-clause-states
are_source_states-requires-clause-states g c =
    subst (AreStates g.A.Algebra.algebra.count) (sym c.as_slice.ensures.value) c.take_states.ensures.desk.made.within

pub judge_states-requires-clause-sources : goal.judge_states-requires-clause-sources
judge_states-requires-clause-sources g c =
    let P : List LineId → Type 0 = λ xs. AreSourceStates g.A.Algebra.algebra xs c.take_states.new.desk.states.items in
    let Q : List State → Type 0 = λ xs. AreSourceStates g.A.Algebra.algebra c.sources.result.now xs in
    subst P c.sources.ensures (subst Q c.as_slice.ensures.value (c.are_source_states.ensures c.if-are_source_states.true))

pub judge_states-requires-clause-prefix : goal.judge_states-requires-clause-prefix
judge_states-requires-clause-prefix g c = c.requires.suits.prefix

pub judge_states-requires-clause-desk : goal.judge_states-requires-clause-desk
judge_states-requires-clause-desk g c = c.take_states.ensures.desk

pub returns-then-are_source_states-clause-least : goal.returns-then-are_source_states-clause-least
returns-then-are_source_states-clause-least g c =
    kept_least g.A.Algebra.algebra (seen_target c.args.target.now) (standing c.args.scope.now) c.take_states.new.desk.states.items
    c.judge_states.new.desk.states.items c.judge_states.ensures.kept.states c.take_states.ensures.least

pub returns-else-are_source_states-clause-least : goal.returns-else-are_source_states-clause-least
returns-else-are_source_states-clause-least g c =
    let P : List State → Type 0 = λ xs. HasLeast g.A.Algebra.algebra (seen_target c.args.target.now) (standing c.args.scope.now) xs in
    subst P (sym c.blame_source.ensures.kept) c.take_states.ensures.least
