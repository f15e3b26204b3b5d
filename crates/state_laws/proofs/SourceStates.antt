-- The state of a source under a pair of vectors: steady where its bits agree, with its bits of both vectors. For every
-- kind of states.
use Rattle.std.proofs.Common.{◌≡◌, ℕ, ◌<◌, Bool, true, false, not, cond, Some, None, is_some, if◌then◌else◌, refl, sym, ap, ap₂, ◌∙◌, subst}
use Rattle.pd_base.specs.Pair.{Vectors}
use Rattle.pd_base.specs.declared.fault.Direction.{Direction}
use Rattle.netlist.specs.Circuit.{Circuit, source_count, kind_at}
use Rattle.netlist.specs.Values.{bit_of, value}
use Rattle.netlist.specs.Steadiness.{agreed_bit, is_known_as, is_steady, known_gate_value}
use Rattle.netlist.specs.Conditions.{Launches, final_bit}
use Rattle.netlist.proofs.Evaluation.{value_at_source}
use Rattle.path_laws.proofs.GateValues.{value_of_source}
use Rattle.state_sets.specs.declared.state.State.{State}
use Rattle.state_sets.specs.States.{Has}
use Rattle.state_sets.specs.StateAlgebra.{StateAlgebra, HasLaws, same_bit}
use Rattle.state_sets.specs.LineStates.{state_under}
use Rattle.state_sets.specs.Starts.{IsLaunching}

-- two bits, of which the first is the second or the other one
same_as_other : (steady last : Bool) → same_bit (cond steady last (not last)) last ≡ steady
same_as_other true true = refl
same_as_other true false = refl
same_as_other false true = refl
same_as_other false false = refl

same_as_not : (bit : Bool) → same_bit (not bit) bit ≡ false
same_as_not true = refl
same_as_not false = refl

not_same : (first second : Bool) → same_bit first second ≡ false → first ≡ not second
not_same true true same = same
not_same true false same = refl
not_same false true same = refl
not_same false false same = absurd cc

-- a source with these bits is steady where they are one
agreed_is_steady : (first second : Bool)
    → is_some (if is_known_as first (Some second) then Some second else None) ≡ same_bit first second
agreed_is_steady true true = refl
agreed_is_steady true false = refl
agreed_is_steady false true = refl
agreed_is_steady false false = refl

module _ (a : StateAlgebra) (laws : HasLaws a) (c : Circuit) (pair : Vectors) where
  -- the state of each line is below the count
  pub state_below : (line : ℕ) → (state_under a c pair line).0 < a.count
  state_below line = laws.of_within (is_steady c pair line) (value c pair.first line) (value c pair.second line)

  pub last_under : (line : ℕ) → a.last (state_under a c pair line) ≡ value c pair.second line
  last_under line = laws.of_last (is_steady c pair line) (value c pair.first line) (value c pair.second line)

  pub steady_under : (line : ℕ) → a.steady (state_under a c pair line) ≡ is_steady c pair line
  steady_under line = laws.of_steady (is_steady c pair line) (value c pair.first line) (value c pair.second line)

  module _ (source : ℕ) (within : source < source_count c) where
    -- a source is steady where its bits are one
    pub source_steady : is_steady c pair source ≡ same_bit (bit_of pair.first source) (bit_of pair.second source)
    source_steady =
        ap is_some (value_at_source c (agreed_bit pair) (λ gate values. known_gate_value (kind_at c gate) values) source within)
        ∙ agreed_is_steady (bit_of pair.first source) (bit_of pair.second source)

    -- the state of a source is that of its bits
    pub source_state : state_under a c pair source
        ≡ a.of (same_bit (bit_of pair.first source) (bit_of pair.second source)) (bit_of pair.first source) (bit_of pair.second source)
    source_state =
        ap (λ steady. a.of steady (value c pair.first source) (value c pair.second source)) source_steady
        ∙ ap₂ (λ first last. a.of (same_bit (bit_of pair.first source) (bit_of pair.second source)) first last)
        (value_of_source c pair.first source within) (value_of_source c pair.second source within)

    -- it is one of the states of a source
    pub source_has : Has a.count a.sources (state_under a c pair source)
    source_has =
        subst (λ (s : State). Has a.count a.sources s) (sym source_state)
        (laws.of_source (bit_of pair.first source) (bit_of pair.second source))

    -- a pair whose bits are read off a state gives the source that state
    pub state_read_off : (state : State) → Has a.count a.sources state
        → bit_of pair.first source ≡ cond (a.steady state) (a.last state) (not (a.last state))
        → bit_of pair.second source ≡ a.last state → state_under a c pair source ≡ state
    state_read_off state has first second =
        source_state
        ∙ ap₂ (λ f l. a.of (same_bit f l) f l) first second
        ∙ ap (λ steady. a.of steady (cond (a.steady state) (a.last state) (not (a.last state))) (a.last state))
        (same_as_other (a.steady state) (a.last state))
        ∙ laws.source_of state has

    -- a pair launches the transition at the source exactly where the source's state does
    pub launching : (direction : Direction) → Launches pair direction source
        → IsLaunching a direction (state_under a c pair source)
    launching direction launches = record {
      moves = steady_under source ∙ source_steady ∙ ap₂ same_bit launches.first launches.second ∙ same_as_not (final_bit direction);
      ends = last_under source ∙ value_of_source c pair.second source within ∙ launches.second;
    }

    pub launched : (direction : Direction) → IsLaunching a direction (state_under a c pair source)
        → Launches pair direction source
    launched direction is =
        let second : bit_of pair.second source ≡ final_bit direction =
        sym (value_of_source c pair.second source within) ∙ sym (last_under source) ∙ is.ends in
        record {
          first = not_same (bit_of pair.first source) (bit_of pair.second source)
              (sym source_steady ∙ sym (steady_under source) ∙ is.moves) ∙ ap not second;
          second = second;
        }
