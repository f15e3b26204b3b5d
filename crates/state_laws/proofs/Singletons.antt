-- A labelling that gives each line one state alone. Where these states agree at each gate it is at rest, so that each hull of what
-- lines may be in has them. For every kind of states.
use Rattle.std.proofs.Common.{◌≡◌, ⊎_elim, ℕ, ◌<◌, ◌≤◌, ◌^◌, List, map, Option, IsTrue, refl, sym, ap, subst, arith}
use Rattle.std.specs.List.{All, range_with_len}
use Rattle.std.proofs.lemmas.Bool.{cases_eq, cases_lt}
use Rattle.std.proofs.lemmas.List.{get_or_past}
use Rattle.std.proofs.lemmas.List.Elements.{All-push, All-from_get_or}
use Rattle.std.proofs.lemmas.List.FromFn.{get_or-map-range_with_len, length-map-range_with_len}
use Rattle.std.proofs.lemmas.Nat.{pow_below}
use Rattle.std.proofs.lemmas.Nat.Bits.{bit_at-pow_same, bit_at-pow_other}
use Rattle.pd_base.specs.Links.{LinkList, IsLink}
use Rattle.pd_base.specs.declared.ids.LineId.{LineId}
use Rattle.pd_base.specs.declared.ids.PinRef.{PinRef}
use Rattle.pd_base.specs.declared.fault.Kind.{Kind}
use Rattle.netlist.specs.Circuit.{Circuit, line_count, gate_count, gate_line, pins_at}
use Rattle.netlist.specs.Lawful.{ReadsLines}
use Rattle.state_sets.specs.declared.state.State.{State}
use Rattle.state_sets.specs.declared.state.StateSet.{StateSet}
use Rattle.state_sets.specs.declared.condition.Condition.{Condition}
use Rattle.state_sets.specs.States.{Has, no_states}
use Rattle.state_sets.specs.StateAlgebra.{StateAlgebra}
use Rattle.state_sets.specs.Labellings.{label_at, IsLabelling}
use Rattle.state_sets.specs.Narrowing.{AgreesAt, IsKept, IsNarrowing, IsLinkNarrowing, IsKeptByLink, gate_lines}
use Rattle.state_sets.specs.Hulls.{condition_at, IsNarrowingOf, IsAtRest, IsRestAmong, IsHull, Closes}
use Rattle.state_sets.specs.Hulls.Narrowing.{at_gate, along_link}
use Rattle.state_laws.proofs.Narrowing.{agreeing_kept}
use Rattle.state_laws.proofs.Steps.{agreeing_kept_by_link}
use Rattle.state_laws.proofs.Sets.{none_has}

-- the set of one state alone
abbrev pub only : State → StateSet
only state = record { 0 = 2 ^ state.0 }

-- it has this state
pub only_has : (count : ℕ) (state : State) → state.0 < count → Has count (only state) state
only_has count state within = record { in_range = within; bit = bit_at-pow_same state.0 }

-- and no other
pub only_this : (count : ℕ) (state other : State) → Has count (only state) other → other ≡ state
only_this count state other has =
    ⊎_elim (λ (same : other.0 ≡ state.0). ap (λ n. record { 0 = n }) same)
    (λ (differ : other.0 ≡ state.0 → ⊥). absurd (omega (arith, bit_at-pow_other state.0 other.0 differ, has.bit)))
    (cases_eq other.0 state.0)

-- what holds of all lines of a circuit holds of the lines of a gate
pub at_gate_lines : (c : Circuit) → ReadsLines c → (P : ℕ → Type 0) → ((line : ℕ) → line < line_count c → P line)
    → (gate : ℕ) → gate < gate_count c → All (λ line. P line.0) (gate_lines c gate)
at_gate_lines c reads P holds gate within =
    All-push (λ (line : LineId). P line.0) (pins_at c gate) (record { 0 = gate_line c gate })
    (λ pin d inside. holds _ (reads gate within pin d inside))
    (holds (gate_line c gate) (omega arith))

module _ (c : Circuit) (states : ℕ → State) where
  -- each line of the circuit has its own state alone
  abbrev pub singletons : List StateSet
  singletons = map (λ line. only (states line)) (range_with_len 0 (line_count c))

  pub single_at : (line : ℕ) → line < line_count c → label_at singletons line ≡ only (states line)
  single_at line within =
      get_or-map-range_with_len (λ l. only (states l)) 0 (line_count c) line line no_states within (omega arith)

  -- what such a labelling has is the state of a line of the circuit
  pub only_states : (count line : ℕ) (state : State) → Has count (label_at singletons line) state
      → (line < line_count c) × (state ≡ states line)
  only_states count line state has =
      ⊎_elim
      (λ within. (within, only_this count (states line) state (subst (λ set. Has count set state) (single_at line within) has)))
      (λ past. absurd (none_has count state (subst (λ set. Has count set state) (outside past) has)))
      (cases_lt line (line_count c))
    where
      outside : line_count c ≤ line → label_at singletons line ≡ no_states
      outside past =
          let long = length-map-range_with_len (λ l. only (states l)) 0 (line_count c) in
          get_or_past singletons line no_states (omega arith)

module _ (a : StateAlgebra) (c : Circuit) (reads : ReadsLines c) (states : ℕ → State)
    (below : (line : ℕ) → line < line_count c → (states line).0 < a.count) where
  -- it has each line's state
  pub has_own : (line : ℕ) → line < line_count c → Has a.count (label_at (singletons c states) line) (states line)
  has_own line within =
      subst (λ set. Has a.count set (states line)) (sym (single_at c states line within))
      (only_has a.count (states line) (below line within))

  pub singletons_labelling : IsLabelling a.count c (singletons c states)
  singletons_labelling = record {
    one_each = length-map-range_with_len (λ l. only (states l)) 0 (line_count c);
    within = All-from_get_or (λ (set : StateSet). set.0 < 2 ^ a.count) (singletons c states) no_states (λ line inside.
        let here : line < line_count c = omega (arith, length-map-range_with_len (λ l. only (states l)) 0 (line_count c)) in
        subst (λ (set : StateSet). set.0 < 2 ^ a.count) (sym (single_at c states line here))
        (pow_below (states line).0 a.count (below line here)));
  }

  -- where the states agree at a gate, its narrowing changes nothing
  pub singletons_narrow : (gate : ℕ) → gate < gate_count c → (condition : Option Condition) → AgreesAt a c gate condition states
      → IsNarrowing a c gate condition (singletons c states) (singletons c states)
  singletons_narrow gate within condition agrees = record {
    lines = refl;
    exactly = λ line state. (
      λ has. let own = (only_states c states a.count line state has).1 in
          subst (IsKept a c gate condition (singletons c states) line) (sym own)
          (agreeing_kept a c gate condition (singletons c states) states agrees
          (at_gate_lines c reads (λ l. Has a.count (label_at (singletons c states) l) (states l)) has_own gate within) line
          (subst (Has a.count (label_at (singletons c states) line)) own has)),
      λ kept. kept.had,
    );
  }

  -- where the state of a source may be linked to that of a line, the narrowing along that link changes nothing
  pub singletons_linked : (source line : ℕ) → source < line_count c → line < line_count c → IsTrue (a.link (states source) (states line))
      → IsLinkNarrowing a source line (singletons c states) (singletons c states)
  singletons_linked source line is_source is_line linked = record {
    lines = refl;
    exactly = λ at state. (
      λ has. let own = (only_states c states a.count at state has).1 in
          subst (IsKeptByLink a source line (singletons c states) at) (sym own)
          (agreeing_kept_by_link a source line (singletons c states) states linked (has_own source is_source) (has_own line is_line) at
          (subst (Has a.count (label_at (singletons c states) at)) own has)),
      λ kept. kept.had,
    );
  }

  module _ (links : LinkList) (kind : Kind) (steps : List PinRef)
      (agree : (gate : ℕ) → gate < gate_count c → AgreesAt a c gate (condition_at kind steps gate) states)
      (linked : (source line : ℕ) → IsLink links source line
      → (source < line_count c) × (line < line_count c) × IsTrue (a.link (states source) (states line))) where
    -- where they agree at each gate under the conditions of steps, and along each link, the labelling is at rest
    pub singletons_rest : IsAtRest a c (IsNarrowingOf c links kind steps) (singletons c states)
    singletons_rest (at_gate gate condition) is =
        subst (λ asked. IsNarrowing a c gate asked (singletons c states) (singletons c states)) (sym is.1)
        (singletons_narrow gate is.0 (condition_at kind steps gate) (agree gate is.0))
    singletons_rest (along_link source line) is =
        let tie = linked source line is in
        singletons_linked source line tie.0 tie.1 tie.2

    module _ (May : ℕ → State → Type 0) (may : (line : ℕ) → line < line_count c → May line (states line)) where
      pub singletons_among : IsRestAmong a c (IsNarrowingOf c links kind steps) May (singletons c states)
      singletons_among = record {
        labelling = singletons_labelling;
        rest = singletons_rest;
        among = λ line state has. let own = only_states c states a.count line state has in
            subst (May line) (sym own.1) (may line own.0);
      }

      -- so where lines may be in these states, each hull has them
      pub agreeing_in_hull : (hull : List StateSet) → IsHull a c (IsNarrowingOf c links kind steps) May hull
          → (line : ℕ) → line < line_count c → Has a.count (label_at hull line) (states line)
      agreeing_in_hull hull is line within = is.greatest (singletons c states) singletons_among line (states line) (has_own line within)

      -- and no line is emptied
      pub agreeing_never_close : Closes a c (IsNarrowingOf c links kind steps) May → ⊥
      agreeing_never_close closes =
          none_has a.count (states closes.line)
          (subst (λ set. Has a.count set (states closes.line)) (closes.emptied (singletons c states) singletons_among)
          (has_own closes.line closes.in_circuit))
