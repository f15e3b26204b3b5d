-- A source that is passed over is in such a state; where none is left, all are.
use Rattle.std.proofs.Common.{◌≡◌, get_or, List, subst}
use Rattle.std.specs.Int.{bit_at}
use Rattle.std.specs.List.{All}
use Rattle.std.proofs.lemmas.List.{take_all}
use Rattle.std.proofs.lemmas.List.Elements.{All-more, All-contains}
use Rattle.pd_base.specs.declared.ids.LineId.{LineId}
use Rattle.state_sets.specs.declared.state.State.{State}
use Rattle.state_sets.specs.declared.state.StateSet.{StateSet}
use Rattle.state_sets.specs.States.{Has}
use Rattle.pair_judging.specs.ConeStates.{state_in}
use Rattle.justify.proofs.judging.are_source_states.Goals as goal

pub loop-source-preserved : goal.loop-source-preserved
loop-source-preserved g c =
    let a = g.A.Algebra.algebra in
    let place = c.loop-source.source-index in
    let source : LineId = get_or c.args.sources.now place (record { 0 = 0 }) in
    let state : State = state_in c.args.states.now source.0 in
    let P : LineId → Type 0 = λ l. Has a.count a.sources (state_in c.args.states.now l.0) in
    All-more P c.args.sources.now place (record { 0 = 0 }) c.loop-source-test.true c.loop-source.invariant (record {
      in_range = c.requires.states source.0 (record { 0 = 0 }) (c.requires.places place (record { 0 = 0 }) c.loop-source-test.true);
      bit = subst (λ (set : StateSet). bit_at set.0 state.0 ≡ 1) c.source_states-allowed.ensures (c.holds.ensures.0 c.if-not-holds.false);
    })

pub returns : goal.returns
returns g c = λ yes source among.
    let a = g.A.Algebra.algebra in
    let P : LineId → Type 0 = λ l. Has a.count a.sources (state_in c.args.states.now l.0) in
    let Q : List LineId → Type 0 = λ xs. All P xs in
    All-contains P c.args.sources.now (record { 0 = source })
    (subst Q (take_all c.loop-source.source-index c.args.sources.now c.loop-source-test.false) c.loop-source.invariant) among
