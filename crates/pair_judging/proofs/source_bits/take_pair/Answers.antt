-- One source more is in the state of its bits, which is its own under the pair.
use Rattle.std.proofs.Common.{◌≡◌, ◌<◌, ℕ, Bool, List, get_or, sym, ap₂, ◌∙◌, arith}
use Rattle.std.proofs.lemmas.List.{length-set}
use Rattle.std.proofs.lemmas.List.Elements.{All-set}
use Rattle.netlist.specs.Values.{bit_of}
use Rattle.state_sets.specs.declared.state.State.{State}
use Rattle.state_sets.specs.StateAlgebra.{same_bit}
use Rattle.state_laws.proofs.SourceStates.{source_state}
use Rattle.cones.proofs.Spreading.{no_line}
use Rattle.pair_judging.proofs.Taking.{no_state, due_more, due_all}
use Rattle.pair_judging.proofs.source_bits.take_pair.Goals as goal

pub loop-source-preserved : goal.loop-source-preserved
loop-source-preserved g c =
    let sources = c.args.sources.now in
    let place = c.loop-source.source-index in
    let states = c.loop-source.states in
    let at = (get_or sources place no_line).0 in
    let state = c.state_of_bits.result in
    let before = c.loop-source.invariant in
    let due : ℕ → State = λ source. g.A.Algebra.algebra.of (same_bit (bit_of c.args.pair.now.first source) (bit_of c.args.pair.now.second source)) (bit_of c.args.pair.now.first source) (bit_of c.args.pair.now.second source) in
    record {
      places = length-set states at state ∙ before.places;
      below = All-set (λ (s : State). s.0 < g.A.Algebra.algebra.count) states at state c.state_of_bits.ensures.in_range before.below;
      due = due_more no_state (λ source taken. taken ≡ due source) sources place states state c.loop-source-test.true
          (omega (arith, before.places, c.requires.places place no_line c.loop-source-test.true))
          (c.state_of_bits.ensures.state
          ∙ ap₂ (λ (first second : List Bool). g.A.Algebra.algebra.of (same_bit (bit_of first at) (bit_of second at)) (bit_of first at) (bit_of second at))
          c.first-first.ensures.bits c.second-second.ensures.bits) before.due;
    }

pub returns-clause-taken : goal.returns-clause-taken
returns-clause-taken g k = λ c source within among.
    let due : ℕ → State = λ source. g.A.Algebra.algebra.of (same_bit (bit_of k.args.pair.now.first source) (bit_of k.args.pair.now.second source)) (bit_of k.args.pair.now.first source) (bit_of k.args.pair.now.second source) in
    source_state g.A.Algebra.algebra g.met.A.Algebra.laws c k.args.pair.now source within
    ∙ sym (due_all no_state (λ source taken. taken ≡ due source) k.args.sources.now k.loop-source.source-index k.loop-source.states k.loop-source-test.false k.loop-source.invariant.due source among)
