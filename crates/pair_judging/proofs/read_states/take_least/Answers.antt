-- One source more is in the state that is due there.
use Rattle.std.proofs.Common.{◌<◌, ℕ, get_or, ◌∙◌, arith}
use Rattle.std.proofs.lemmas.List.{length-set}
use Rattle.std.proofs.lemmas.List.Elements.{All-set}
use Rattle.state_sets.specs.declared.state.State.{State}
use Rattle.state_sets.specs.Labellings.{label_at}
use Rattle.pair_judging.specs.LeastStates.{IsTakenOf}
use Rattle.cones.proofs.Spreading.{no_line}
use Rattle.pair_judging.proofs.Taking.{no_state, due_more, due_all}
use Rattle.pair_judging.proofs.read_states.take_least.Goals as goal

pub loop-source-preserved : goal.loop-source-preserved
loop-source-preserved g c =
    let sources = c.args.sources.now in
    let place = c.loop-source.source-index in
    let states = c.loop-source.states in
    let at = (get_or sources place no_line).0 in
    let state = c.least.result in
    let before = c.loop-source.invariant in
    let Due : ℕ → State → Type 0 = λ source taken. IsTakenOf g.A.Algebra.algebra.count (label_at c.args.labels.now source) taken in
    record {
      places = length-set states at state ∙ before.places;
      below = All-set (λ (s : State). s.0 < g.A.Algebra.algebra.count) states at state c.least.ensures.in_range before.below;
      due = due_more no_state Due sources place states state c.loop-source-test.true
          (omega (arith, before.places, c.requires.places place no_line c.loop-source-test.true)) c.least.ensures before.due;
    }

pub returns-clause-taken : goal.returns-clause-taken
returns-clause-taken g c =
    due_all no_state (λ source taken. IsTakenOf g.A.Algebra.algebra.count (label_at c.args.labels.now source) taken) c.args.sources.now c.loop-source.source-index c.loop-source.states
    c.loop-source-test.false c.loop-source.invariant.due
