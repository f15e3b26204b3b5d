-- The sources of the cone are lines, and there is a state for each; those that are judged are states of a source.
use Rattle.std.proofs.Common.{List, length, sym, ap, subst, ◌∙◌}
use Rattle.pd_base.specs.declared.ids.LineId.{LineId}
use Rattle.state_sets.specs.declared.state.State.{State}
use Rattle.implication.specs.Scopes.{standing}
use Rattle.pair_judging.specs.ConeStates.{AreStates, AreSourceStates}
use Rattle.justify.proofs.TriedSources.{read_within}
use Rattle.justify.proofs.judging.judge_proposal.Goals as goal

pub are_source_states-requires-clause-places : goal.are_source_states-requires-clause-places
are_source_states-requires-clause-places g c =
    read_within g.A.Algebra.algebra (standing c.args.scope.now).net (standing c.args.scope.now).rules c.args.target.now.path.now
    c.args.desk.now c.requires.desk c.sources.result.now c.sources.ensures
    (length c.as_slice.result.now) (ap length c.as_slice.ensures.value ∙ c.requires.desk.made.states)

pub are_source_states-requires-clause-states : goal.are_source_states-requires-clause-states
are_source_states-requires-clause-states g c =
    subst (AreStates g.A.Algebra.algebra.count) (sym c.as_slice.ensures.value) c.requires.desk.made.within

pub judge_states-requires-clause-sources : goal.judge_states-requires-clause-sources
judge_states-requires-clause-sources g c =
    let P : List LineId → Type 0 = λ xs. AreSourceStates g.A.Algebra.algebra xs c.args.desk.now.states.items in
    let Q : List State → Type 0 = λ xs. AreSourceStates g.A.Algebra.algebra c.sources.result.now xs in
    subst P c.sources.ensures (subst Q c.as_slice.ensures.value (c.are_source_states.ensures c.if-not-are_source_states.false))

pub judge_pair-requires-clause-sources : goal.judge_pair-requires-clause-sources
judge_pair-requires-clause-sources g c =
    let P : List LineId → Type 0 = λ xs. AreSourceStates g.A.Algebra.algebra xs c.args.desk.now.states.items in
    let Q : List State → Type 0 = λ xs. AreSourceStates g.A.Algebra.algebra c.sources.result.now xs in
    subst P c.sources.ensures (subst Q c.as_slice.ensures.value (c.are_source_states.ensures c.if-not-are_source_states.false))
