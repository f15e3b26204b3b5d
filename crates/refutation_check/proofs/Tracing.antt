-- The lines that are to blame for a failure. Each line of a gate among them is in its state where those of them are that the gate reads, so
-- all are where the sources among them are.
use Rattle.std.proofs.Common.{◌≡◌, ⊎_elim, ℕ, zero, suc, ◌+◌, ◌<◌, ◌≤◌, ◌↔◌, Bool, true, false, List, [], ◌∷◌, length, get_or, map, refl, sym, ap, subst, ◌∙◌, arith}
use Rattle.std.specs.List.{All, Contains}
use Rattle.std.specs.Prelude.{slice_index_or}
use Rattle.std.proofs.lemmas.Bool.{cases_lt}
use Rattle.std.proofs.lemmas.List.{get_or_append_left, get_or_default, get_or_read}
use Rattle.std.proofs.lemmas.List.Elements.{All-contains, Contains-append_left, Contains-get_or}
use Rattle.pd_base.specs.Links.{LinkList}
use Rattle.pd_base.specs.Pair.{Vectors}
use Rattle.pd_base.specs.Target.{Target}
use Rattle.pd_base.specs.declared.ids.LineId.{LineId}
use Rattle.netlist.specs.Circuit.{Circuit, source_count, gate_count, gate_line, kind_at, line_count, pins_at}
use Rattle.netlist.specs.Gates.{op_of, is_inverting}
use Rattle.netlist.specs.Lawful.{IsCircuit}
use Rattle.netlist.specs.LinkedPairs.{IsSupported}
use Rattle.netlist.specs.Paths.{end_of}
use Rattle.netlist.specs.declared.op.Op.{Op}
use Rattle.netlist.proofs.Evaluation.{map_agree, line_induction}
use Rattle.state_sets.specs.declared.state.State.{State}
use Rattle.state_sets.specs.StateAlgebra.{StateAlgebra, HasLaws, joined}
use Rattle.state_sets.specs.LineStates.{state_under}
use Rattle.state_sets.specs.Narrowing.{gate_state, inverted_if}
use Rattle.state_laws.proofs.PairStates.{gate_state_under}
use Rattle.state_laws.proofs.SourceStates.{state_below}
use Rattle.cones.specs.FoundLines.{HasMark, FoundSet}
use Rattle.cones.specs.KeptCones.{KeptCone, IsConeAt, AreConeSources}
use Rattle.cones.proofs.Spreading.{no_line}
use Rattle.pair_judging.specs.ConeStates.{state_in}
use Rattle.refutation_check.specs.declared.blaming.Failure.{Failure}
use Rattle.refutation_check.specs.Blames.{Absorbs, IsAsIn, IsBlamed, IsDeciding, IsFailure, RestsOn, TracesMore}
use Rattle.refutation_check.specs.declared.trial_states.TrialStates.{TrialStates}
use Rattle.refutation_check.specs.TrialStates.{AreTrialStates}
use Rattle.refutation_check.specs.Trials.{EachFails}

module _ (a : StateAlgebra) (c : Circuit) (states : List State) (links : LinkList) (target : Target) (failure : Failure) where
  -- The two lines of the failure were found. Those before this place are lines of the support, and rest on lines that were found.
  pub record AreTraced (lines : List LineId) (place : ℕ) : Type 0 where
    pub has_first : Contains lines failure.first
    pub has_second : Contains lines failure.second
    pub supported : (k : ℕ) → k < place → k < length lines → IsSupported c links (end_of c target.path) (get_or lines k no_line).0
    pub rests : (k : ℕ) → k < place → k < length lines → RestsOn a c states (get_or lines k no_line).0 lines

-- the line of a gate that is not stale is in the state that the gate makes
pub made_at : (a : StateAlgebra) (c : Circuit) (kept : TrialStates) (gate : ℕ) → gate < gate_count c → AreTrialStates a c kept → (read : Bool)
    → read ≡ slice_index_or kept.stale.items gate read → read ≡ false
    → state_in kept.states.items (gate_line c gate) ≡ gate_state a (kind_at c gate) (map (λ pin. state_in kept.states.items pin.0) (pins_at c gate))
made_at a c kept gate within are read at fresh =
    are.made gate within (sym (get_or_read kept.stale.items gate read (omega (arith, within, are.room.stale)) at true) ∙ fresh)

-- those of its pins are in states of the kind
pub states_below : (a : StateAlgebra) (c : Circuit) (kept : TrialStates) (gate : ℕ) → gate < gate_count c → IsCircuit c → AreTrialStates a c kept
    → All (λ pin. (state_in kept.states.items pin.0).0 < a.count) (pins_at c gate)
states_below a c kept gate within circuit are pin d inside =
    let read = (get_or (pins_at c gate) pin d).0 in
    let there : read < line_count c = circuit.reads_lines gate within pin d inside in
    are.room.states.below read (record { 0 = 0 }) (omega (arith, there, are.room.states.places))

module _ (a : StateAlgebra) (laws : HasLaws a) where
  module _ (op : Op) (f : LineId → State) where
    -- what is made of states of lines is one of the states
    joined_within : (pins : List LineId) → All (λ pin. (f pin).0 < a.count) pins → (joined a op (map f pins)).0 < a.count
    joined_within [] below = laws.unit_within op
    joined_within (pin ∷ pins) below =
        laws.join_within op (f pin) (joined a op (map f pins)) (below 0 no_line (omega arith))
        (joined_within pins (λ k d inside. below (suc k) d (omega (arith, inside))))

    -- and where one of them absorbs the others, it is that one
    pub joined_absorbed : (pins : List LineId) → All (λ pin. (f pin).0 < a.count) pins → (pin : LineId) → Contains pins pin
        → Absorbs a op (f pin) → joined a op (map f pins) ≡ f pin
    joined_absorbed [] below pin (k, inside, is) absorbs = absurd (omega (arith, inside))
    joined_absorbed (first ∷ pins) below pin (zero, inside, is) absorbs =
        let rest = joined a op (map f pins) in
        ap (λ (l : LineId). a.join op (f l) rest) is
        ∙ absorbs rest (joined_within pins (λ k d within. below (suc k) d (omega (arith, within))))
    joined_absorbed (first ∷ pins) below pin (suc k, inside, is) absorbs =
        let among : Contains pins pin = (k, (let i = inside in omega arith), is) in
        let own : (f first).0 < a.count = below 0 no_line (omega arith) in
        let later : All (λ (p : LineId). (f p).0 < a.count) pins = λ j d within. below (suc j) d (omega (arith, within)) in
        let there : (f pin).0 < a.count = All-contains (λ (p : LineId). (f p).0 < a.count) pins pin later among in
        ap (a.join op (f first)) (joined_absorbed pins later pin among absorbs) ∙ laws.commutative op (f first) (f pin) own there
        ∙ absorbs (f first) own

  module _ (c : Circuit) (circuit : IsCircuit c) (states : List State) where
    -- a line rests on more lines, too
    pub rests_more : (line : ℕ) (lines more : List LineId) → ((other : LineId) → Contains lines other → Contains more other)
        → RestsOn a c states line lines → RestsOn a c states line more
    rests_more line lines more wider rests gate within is pair pins =
        rests gate within is pair (λ k d inside among. pins k d inside (wider (get_or (pins_at c gate) k d) among))

    -- a source rests on none
    pub source_rests : (line : ℕ) (lines : List LineId) → line < source_count c → RestsOn a c states line lines
    source_rests line lines source gate within is = absurd (omega (arith, source, is))

    module _ (gate : ℕ) (within : gate < gate_count c)
        (made : state_in states (gate_line c gate) ≡ gate_state a (kind_at c gate) (map (λ pin. state_in states pin.0) (pins_at c gate))) where
      -- the line of a gate is in its state where what the gate joins is what it joins of the states of its pins
      by_joined : (pair : Vectors)
          → joined a (op_of (kind_at c gate)) (map (λ pin. state_under a c pair pin.0) (pins_at c gate))
          ≡ joined a (op_of (kind_at c gate)) (map (λ pin. state_in states pin.0) (pins_at c gate)) → IsAsIn a c states pair (gate_line c gate)
      by_joined pair same =
          gate_state_under a laws c circuit pair gate within ∙ ap (inverted_if a (is_inverting (kind_at c gate))) same ∙ sym made

      -- so it is by all pins
      all_pins : (pair : Vectors) → All (λ pin. IsAsIn a c states pair pin.0) (pins_at c gate) → IsAsIn a c states pair (gate_line c gate)
      all_pins pair pins =
          by_joined pair
          (ap (joined a (op_of (kind_at c gate)))
          (map_agree (λ (pin : LineId). state_under a c pair pin.0) (λ (pin : LineId). state_in states pin.0) (pins_at c gate) pins))

      -- and by one that decides alone
      one_pin : (pair : Vectors) (pin : LineId) → IsDeciding a (op_of (kind_at c gate)) states (pins_at c gate) pin
          → All (λ pin. (state_in states pin.0).0 < a.count) (pins_at c gate) → IsAsIn a c states pair pin.0
          → IsAsIn a c states pair (gate_line c gate)
      one_pin pair pin decides below is =
          let op = op_of (kind_at c gate) in
          by_joined pair
          (joined_absorbed op (λ p. state_under a c pair p.0) (pins_at c gate)
          (λ k d inside. state_below a laws c pair (get_or (pins_at c gate) k d).0) pin decides.among
          (subst (Absorbs a op) (sym is) decides.absorbs)
          ∙ is
          ∙ sym (joined_absorbed op (λ p. state_in states p.0) (pins_at c gate) below pin decides.among decides.absorbs))

      one_line : (line other : ℕ) → line ≡ gate_line c gate → line ≡ gate_line c other → other ≡ gate
      one_line line other is also = omega (arith, is, also)

      -- where all pins are found, the line rests on them
      pub rests_on_all : (line : ℕ) → line ≡ gate_line c gate → (lines : List LineId) → ((pin : LineId) → Contains (pins_at c gate) pin → Contains lines pin)
          → RestsOn a c states line lines
      rests_on_all line is lines found other inside also pair pins =
          let Q : ℕ → Type 0 = λ g. All (λ (pin : LineId). Contains lines pin → IsAsIn a c states pair pin.0) (pins_at c g) in
          let own = subst Q (one_line line other is also) pins in
          subst (IsAsIn a c states pair) (sym is)
          (all_pins pair (λ k d within. own k d within (found (get_or (pins_at c gate) k d) (Contains-get_or (pins_at c gate) k d within))))

      -- and where one is that decides
      pub rests_on_one : (line : ℕ) → line ≡ gate_line c gate → (lines : List LineId) (pin : LineId)
          → IsDeciding a (op_of (kind_at c gate)) states (pins_at c gate) pin
          → All (λ pin. (state_in states pin.0).0 < a.count) (pins_at c gate) → Contains lines pin → RestsOn a c states line lines
      rests_on_one line is lines pin decides below found other inside also pair pins =
          let P : LineId → Type 0 = λ p. Contains lines p → IsAsIn a c states pair p.0 in
          let Q : ℕ → Type 0 = λ g. All P (pins_at c g) in
          let own = subst Q (one_line line other is also) pins in
          subst (IsAsIn a c states pair) (sym is)
          (one_pin pair pin decides below (All-contains P (pins_at c gate) pin own decides.among found))

    module _ (links : LinkList) (target : Target) (failure : Failure) where
      -- so it is at first
      pub traced_none : (lines : List LineId) → Contains lines failure.first → Contains lines failure.second → AreTraced a c states links target failure lines 0
      traced_none lines first second = record {
        has_first = first;
        has_second = second;
        supported = λ k early. absurd (omega (arith, early));
        rests = λ k early. absurd (omega (arith, early));
      }

      -- and so it stays as one line more is traced
      pub traced_more : (line : LineId) (place : ℕ) (old new : FoundSet) → place < length old.lines → get_or old.lines place no_line ≡ line
          → IsSupported c links (end_of c target.path) line.0 → TracesMore a c states line.0 old new → AreTraced a c states links target failure old.lines place
          → AreTraced a c states links target failure new.lines (place + 1)
      traced_more line place old new inside at supported more traced = record {
        has_first = wider failure.first traced.has_first;
        has_second = wider failure.second traced.has_second;
        supported = λ k early longer. ⊎_elim
            (λ (earlier : k < place). let within : k < length old.lines = omega (arith, earlier, inside) in
            subst (λ (l : LineId). IsSupported c links (end_of c target.path) l.0) (sym (same k within)) (traced.supported k earlier within))
            (λ (from : place ≤ k).
            subst (λ (l : LineId). IsSupported c links (end_of c target.path) l.0) (sym (own k (omega (arith, from, early)))) supported)
            (cases_lt k place);
        rests = λ k early longer. ⊎_elim
            (λ (earlier : k < place). let within : k < length old.lines = omega (arith, earlier, inside) in
            subst (λ (l : LineId). RestsOn a c states l.0 new.lines) (sym (same k within))
            (rests_more (get_or old.lines k no_line).0 old.lines new.lines wider (traced.rests k earlier within)))
            (λ (from : place ≤ k).
            subst (λ (l : LineId). RestsOn a c states l.0 new.lines) (sym (own k (omega (arith, from, early)))) more.rests)
            (cases_lt k place);
      }
        where
          wider : (other : LineId) → Contains old.lines other → Contains new.lines other
          wider other has =
              subst (λ (ls : List LineId). Contains ls other) (sym more.behind) (Contains-append_left old.lines more.more other has)

          same : (k : ℕ) → k < length old.lines → get_or new.lines k no_line ≡ get_or old.lines k no_line
          same k within =
              ap (λ (ls : List LineId). get_or ls k no_line) more.behind ∙ get_or_append_left old.lines more.more no_line k within

          own : (k : ℕ) → k ≡ place → get_or new.lines k no_line ≡ line
          own k here = ap (λ j. get_or new.lines j no_line) here ∙ same place inside ∙ at

      module _ (lines : List LineId) (place : ℕ) (last : length lines ≤ place) (traced : AreTraced a c states links target failure lines place)
          (fails : IsFailure a c links target states failure) where
        rests_there : (line : LineId) → Contains lines line → RestsOn a c states line.0 lines
        rests_there line has =
            subst (λ (l : LineId). RestsOn a c states l.0 lines) (get_or_default lines has.0 no_line line has.1 ∙ has.2)
            (traced.rests has.0 (let i = has.1 in omega (arith, last, i)) has.1)

        all_as_in : (pair : Vectors)
            → ((source : ℕ) → source < source_count c → Contains lines (record { 0 = source }) → IsAsIn a c states pair source) → (line : ℕ)
            → line < line_count c → Contains lines (record { 0 = line }) → IsAsIn a c states pair line
        all_as_in pair sources line within =
            line_induction c circuit.reads_lines (λ l. Contains lines (record { 0 = l }) → IsAsIn a c states pair l) sources
            (λ gate inside pins has. rests_there (record { 0 = gate_line c gate }) has gate inside refl pair pins) circuit.loop_free line within

        -- after the last line, those that were found are to blame
        pub traced_blamed : IsBlamed a c links target states lines
        traced_blamed = record {
          supported = λ line has.
              subst (λ (l : LineId). IsSupported c links (end_of c target.path) l.0) (get_or_default lines has.0 no_line (record { 0 = line }) has.1 ∙ has.2)
              (traced.supported has.0 (let i = has.1 in omega (arith, last, i)) has.1);
          fails = λ labels pair sources.
              fails.fails labels pair (all_as_in pair sources failure.first.0 fails.first traced.has_first)
              (all_as_in pair sources failure.second.0 fails.second traced.has_second);
        }

-- a line of a cone that has its mark is in the support
pub marked_supported : (c : Circuit) (end : ℕ) (cone : KeptCone) (marks : List Bool) (line : ℕ) → IsConeAt c end cone
    → ((other : ℕ) → HasMark marks other ↔ Contains cone.found.lines (record { 0 = other })) → slice_index_or marks line false ≡ true
    → IsSupported c cone.links end line
marked_supported c end cone marks line at exactly marked = (at.lines line).0 ((exactly line).0 marked)

-- where each pair fails, all sources of the cone are to blame
pub sources_blamed : (a : StateAlgebra) (c : Circuit) (states : List State) (links : LinkList) (target : Target) (sources lines : List LineId) → AreConeSources c links (end_of c target.path) sources
    → ((source : ℕ) → Contains lines (record { 0 = source }) ↔ Contains sources (record { 0 = source }))
    → EachFails a c links target states → IsBlamed a c links target states lines
sources_blamed a c states links target sources lines are exactly each = record {
  supported = λ line has. ((are.exactly line).0 ((exactly line).0 has)).1;
  fails = λ labels pair has.
      each labels pair (λ source within supported. has source within ((exactly source).1 ((are.exactly source).1 (within, supported))));
}
