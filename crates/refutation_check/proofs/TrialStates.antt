-- States of all lines that are kept from trial to trial. Where no gate of a cone is stale, they are the states of its lines under each pair
-- that has them at its sources. After a write the lines of the gates that do not read the line are in the states that these make, as before.
use Rattle.std.proofs.Common.{◌≡◌, ◌≢◌, ⊎_elim, ℕ, ◌+◌, ◌<◌, ◌≤◌, Bool, true, false, List, length, get_or, get_or-set_same, get_or-set_other, map, set, take, Some, slice_get, refl, sym, ap, subst, ◌∙◌, arith}
use Rattle.std.specs.List.{All, Contains}
use Rattle.std.proofs.lemmas.Bool.{cases_eq, cases_lt, false≢true}
use Rattle.std.proofs.lemmas.List.{length-set}
use Rattle.std.proofs.lemmas.List.Elements.{All-contains, All-more, Contains-get_or}
use Rattle.std.proofs.lemmas.Option.{slice_get-get_or}
use Rattle.pd_base.specs.Links.{LinkList}
use Rattle.pd_base.specs.declared.ids.GateId.{GateId}
use Rattle.pd_base.specs.declared.ids.LineId.{LineId}
use Rattle.pd_base.specs.declared.ids.PinRef.{PinRef}
use Rattle.netlist.specs.Circuit.{Circuit, source_count, gate_count, gate_line, kind_at, pins_at}
use Rattle.netlist.specs.Lawful.{IsCircuit}
use Rattle.netlist.specs.Levels.{level}
use Rattle.netlist.specs.LinkedPairs.{IsSupported}
use Rattle.netlist.specs.Pins.{IsFanout}
use Rattle.netlist.proofs.Evaluation.{map_agree, line_induction, all_at_place}
use Rattle.path_laws.proofs.StepCounts.{step_raises}
use Rattle.state_sets.specs.declared.state.State.{State}
use Rattle.state_sets.specs.declared.state.StateSet.{StateSet}
use Rattle.state_sets.specs.StateAlgebra.{StateAlgebra, HasLaws}
use Rattle.state_sets.specs.Labellings.{label_at}
use Rattle.state_sets.specs.LineStates.{state_under}
use Rattle.state_sets.specs.Narrowing.{gate_state}
use Rattle.state_laws.proofs.PairStates.{gate_state_under}
use Rattle.state_laws.proofs.Supports.{pin_supported}
use Rattle.pair_judging.specs.ConeStates.{state_in}
use Rattle.pair_judging.specs.Judged.{AreComputed}
use Rattle.cones.specs.KeptCones.{AreConeGates}
use Rattle.pair_judging.specs.LeastStates.{IsTakenOf}
use Rattle.cones.proofs.RankedCones.{never_after}
use Rattle.cones.proofs.Spreading.{no_line}
use Rattle.refutation_check.specs.declared.trial_states.TrialStates.{TrialStates}
use Rattle.refutation_check.specs.TrialStates.{is_stale, AreTrialStates, IsPutAt}

-- the gates of the pins before a place are stale, and no others but those that were
pub record IsStaleTo (pins : List PinRef) (place : ℕ) (old now : List Bool) : Type 0 where
  pub places : length now ≡ length old
  pub stale : All (λ pin. get_or now pin.gate.0 true ≡ true) (take place pins)
  pub stay : (gate : ℕ) → get_or now gate true ≡ false → get_or old gate true ≡ false
  pub others : (gate : ℕ) → get_or old gate true ≡ false → All (λ pin. pin.gate.0 ≢ gate) pins → get_or now gate true ≡ false

-- what is read where there is no gate
abbrev pub no_gate : GateId
no_gate = record { 0 = 0 }

-- where no gate of a cone is stale, its lines are in their states under each pair that has them at its sources
pub are_computed : (a : StateAlgebra) → HasLaws a → (c : Circuit) → IsCircuit c → (gates : List GateId) (kept : TrialStates)
    → AreTrialStates a c kept → All (λ gate. is_stale kept gate.0 ≡ false) gates → AreComputed a c gates kept.states.items kept.states.items
are_computed a laws c circuit gates kept is none links end are pair has line within further =
    line_induction c circuit.reads_lines Same sources at_gate circuit.loop_free line within further
  where
    Same : ℕ → Type 0
    Same line = IsSupported c links end line → state_under a c pair line ≡ state_in kept.states.items line

    sources : (source : ℕ) → source < source_count c → Same source
    sources source inside behind = has source inside behind

    at_gate : (gate : ℕ) → gate < gate_count c → All (λ pin. Same pin.0) (pins_at c gate) → Same (gate_line c gate)
    at_gate gate inside pins behind =
        let among : Contains gates (record { 0 = gate }) = (are.exactly gate).1 (inside, behind) in
        gate_state_under a laws c circuit pair gate inside
        ∙ ap (gate_state a (kind_at c gate))
        (map_agree (λ (pin : LineId). state_under a c pair pin.0) (λ (pin : LineId). state_in kept.states.items pin.0) (pins_at c gate)
        (λ pin d at. pins pin d at (pin_supported c links end gate inside behind pin d at)))
        ∙ sym (is.made gate inside (All-contains (λ (g : GateId). is_stale kept g.0 ≡ false) gates (record { 0 = gate }) none among))

-- a gate of a cone reads neither its own line nor that of a gate behind it
pub reads_no_later : (c : Circuit) → IsCircuit c → (links : LinkList) (end : ℕ) (gates : List GateId) → AreConeGates c links end gates
    → (place later : ℕ) → place ≤ later → later < length gates
    → All (λ pin. pin.0 ≢ gate_line c (get_or gates later no_gate).0) (pins_at c (get_or gates place no_gate).0)
reads_no_later c circuit links end gates are place later before within pin d inside same =
    let first = get_or gates place no_gate in let last = get_or gates later no_gate in
    let own = (are.exactly first.0).0 (Contains-get_or gates place no_gate (omega (arith, before, within))) in
    let raises : level c (get_or (pins_at c first.0) pin d).0 < level c (gate_line c first.0) =
    step_raises c circuit (get_or (pins_at c first.0) pin d).0 (record { gate = first; pin = pin })
    (record { in_circuit = own.0; reads = slice_get-get_or (pins_at c first.0) pin d inside }) in
    let lower : level c (gate_line c last.0) < level c (gate_line c first.0) =
    subst (λ line. level c line < level c (gate_line c first.0)) same raises in
    ⊎_elim (λ (earlier : place < later). never_after c first last lower (are.rising place later no_gate earlier within))
    (λ (here : later ≤ place).
    let one : later ≡ place = omega (arith, here, before) in
    let level_at : level c (gate_line c last.0) ≡ level c (gate_line c first.0) =
    ap (λ k. level c (gate_line c (get_or gates k no_gate).0)) one in
    absurd (omega (arith, lower, level_at)))
    (cases_lt place later)

-- a gate that does not read its own line makes its state still once it was written
pub made_own : (a : StateAlgebra) (c : Circuit) (gate : ℕ) (old new : List State) (state : State) → IsPutAt (gate_line c gate) state old new
    → state ≡ gate_state a (kind_at c gate) (map (λ pin. state_in old pin.0) (pins_at c gate))
    → All (λ pin. pin.0 ≢ gate_line c gate) (pins_at c gate)
    → state_in new (gate_line c gate) ≡ gate_state a (kind_at c gate) (map (λ pin. state_in new pin.0) (pins_at c gate))
made_own a c gate old new state written made reads =
    written.here ∙ made
    ∙ ap (gate_state a (kind_at c gate))
    (map_agree (λ (pin : LineId). state_in old pin.0) (λ (pin : LineId). state_in new pin.0) (pins_at c gate)
    (λ pin d inside. sym (written.elsewhere (get_or (pins_at c gate) pin d).0 (reads pin d inside))))

-- where a gate neither reads a line nor drives it, its own line is after a write in the state that the gate makes, as before
pub made_stays : (a : StateAlgebra) (c : Circuit) (line : ℕ) (state : State) (old new : List State) → IsPutAt line state old new
    → (gate : ℕ) → gate_line c gate ≢ line → All (λ pin. pin.0 ≢ line) (pins_at c gate)
    → state_in old (gate_line c gate)
    ≡ gate_state a (kind_at c gate) (map (λ pin. state_in old pin.0) (pins_at c gate))
    → state_in new (gate_line c gate)
    ≡ gate_state a (kind_at c gate) (map (λ pin. state_in new pin.0) (pins_at c gate))
made_stays a c line state old new written gate apart reads made =
    written.elsewhere (gate_line c gate) apart ∙ made
    ∙ ap (gate_state a (kind_at c gate))
    (map_agree (λ (pin : LineId). state_in old pin.0) (λ (pin : LineId). state_in new pin.0) (pins_at c gate)
    (λ pin d inside. sym (written.elsewhere (get_or (pins_at c gate) pin d).0 (reads pin d inside))))

module _ (c : Circuit) (line : ℕ) (readers : List PinRef) (fanout : IsFanout c line readers) where
  -- where the gates that read a line are stale, one that is not reads no such pin
  pub fresh_reads_not : (stale : List Bool) → All (λ pin. get_or stale pin.gate.0 true ≡ true) readers → (gate : ℕ) → gate < gate_count c
      → get_or stale gate true ≡ false → All (λ pin. pin.0 ≢ line) (pins_at c gate)
  fresh_reads_not stale all gate within not pin d inside same =
      let this : PinRef = record { gate = record { 0 = gate }; pin = pin } in
      let reads : slice_get (pins_at c gate) pin ≡ Some (record { 0 = line }) =
      slice_get-get_or (pins_at c gate) pin d inside ∙ ap (λ n. Some (record { 0 = n })) same in
      let IsStale : PinRef → Type 0 = λ p. get_or stale p.gate.0 true ≡ true in
      false≢true (sym not ∙ All-contains IsStale readers this all (fanout.whole this (record { in_circuit = within; reads = reads })))

  -- and no pin that reads the line is of a gate none of whose pins does
  pub reads_not_apart : (gate : ℕ) → All (λ pin. pin.0 ≢ line) (pins_at c gate) → All (λ pin. pin.gate.0 ≢ gate) readers
  reads_not_apart gate none k d inside same =
      let pin = get_or readers k d in
      let P : ℕ → Type 0 = λ g. slice_get (pins_at c g) pin.pin ≡ Some (record { 0 = line }) in
      all_at_place (λ (read : LineId). read.0 ≢ line) (pins_at c gate) pin.pin (record { 0 = line }) none
      (subst P same (fanout.on_line k d inside).reads) refl

-- one gate more is stale
pub one_more_stale : (pins : List PinRef) (place : ℕ) (old now : List Bool) → place < length pins → (d : PinRef)
    → (get_or pins place d).gate.0 < length now → IsStaleTo pins place old now
    → IsStaleTo pins (place + 1) old (set now (get_or pins place d).gate.0 true)
one_more_stale pins place old now inside d within are =
    let next = (get_or pins place d).gate.0 in
    record {
      places = length-set now next true ∙ are.places;
      stale = All-more (λ pin. get_or (set now next true) pin.gate.0 true ≡ true) pins place d inside
          (λ k e front. ⊎_elim
          (λ (same : (get_or (take place pins) k e).gate.0 ≡ next). ap (λ n. get_or (set now next true) n true) same ∙ get_or-set_same now next true true within)
          (λ (away : (get_or (take place pins) k e).gate.0 ≢ next).
          get_or-set_other now next (get_or (take place pins) k e).gate.0 true true away ∙ are.stale k e front)
          (cases_eq (get_or (take place pins) k e).gate.0 next))
          (get_or-set_same now next true true within);
      stay = λ gate not. ⊎_elim
          (λ (same : gate ≡ next).
          absurd (false≢true (sym not ∙ ap (λ n. get_or (set now next true) n true) same ∙ get_or-set_same now next true true within)))
          (λ (away : gate ≢ next). are.stay gate (sym (get_or-set_other now next gate true true away) ∙ not))
          (cases_eq gate next);
      others = λ gate not apart.
          get_or-set_other now next gate true true (λ same. apart place d inside (sym same)) ∙ are.others gate not apart;
    }

-- a write at a line of the list
pub written_here : (states : List State) (line : ℕ) (state : State) → line < length states → IsPutAt line state states (set states line state)
written_here states line state within = record {
  here = get_or-set_same states line state (record { 0 = 0 }) within;
  elsewhere = λ other away. get_or-set_other states line other state (record { 0 = 0 }) away;
}

-- one source more is in the state that is taken of its label
pub taken_more : (count : ℕ) (sources : List LineId) (place : ℕ) (labels : List StateSet) (old new : List State) → place < length sources
    → (state : State) → IsPutAt (get_or sources place no_line).0 state old new → IsTakenOf count (label_at labels (get_or sources place no_line).0) state
    → All (λ source. IsTakenOf count (label_at labels source.0) (state_in old source.0)) (take place sources)
    → All (λ source. IsTakenOf count (label_at labels source.0) (state_in new source.0)) (take (place + 1) sources)
taken_more count sources place labels old new inside state written taken before =
    let next = get_or sources place no_line in
    let P : LineId → Type 0 = λ source. IsTakenOf count (label_at labels source.0) (state_in new source.0) in
    let here : P next = subst (IsTakenOf count (label_at labels next.0)) (sym written.here) taken in
    All-more P sources place no_line inside
    (λ k d front.
    let source = get_or (take place sources) k d in
    ⊎_elim (λ (same : source.0 ≡ next.0). subst (λ n. IsTakenOf count (label_at labels n) (state_in new n)) (sym same) here)
    (λ (away : source.0 ≢ next.0). subst (IsTakenOf count (label_at labels source.0)) (sym (written.elsewhere source.0 away)) (before k d front))
    (cases_eq source.0 next.0))
    here
