-- The lines behind a failure, found one after another.
use Rattle.std.proofs.Common.{◌≡◌, ⊎_elim, inl, inr, ◌⊎◌, ℕ, ◌<◌, List, [], ◌∷◌, length, get_or, Option, Some, None, ap, subst, arith}
use Rattle.std.specs.Prelude.{IfSome}
use Rattle.std.specs.List.{All, Contains}
use Rattle.std.proofs.lemmas.List.Elements.{All-contains, Contains-get_or}
use Rattle.pd_base.specs.Links.{LinkList}
use Rattle.pd_base.specs.declared.ids.LineId.{LineId}
use Rattle.netlist.specs.Circuit.{Circuit, HasLines, line_count}
use Rattle.netlist.specs.Lawful.{IsCircuit}
use Rattle.netlist.specs.LinkedPairs.{IsSupported}
use Rattle.netlist.specs.Pins.IsInFanIn.{end_itself}
use Rattle.state_laws.proofs.FanIns.{fan_in_in_circuit}
use Rattle.cones.specs.FoundLines.{FoundSet, FindsMore, reads_of}
use Rattle.search_hints.specs.Blamed.{AreBehind, IsSomeLine}
use Rattle.cones.proofs.Finding.{only_one}
use Rattle.cones.proofs.Spreading.{reads_in_fan_in, next_supported}

-- what a list has, by number
pub all_of_each : (P : ℕ → Type 0) (lines : List LineId) → ((line : ℕ) → Contains lines (record { 0 = line }) → P line) → All (λ line. P line.0) lines
all_of_each P lines each k d inside = each (get_or lines k d).0 (Contains-get_or lines k d inside)

module _ (c : Circuit) (first : List LineId) where
  pub behind_first : HasLines c first → AreBehind c first first
  behind_first within = record { in_circuit = within; supported = λ links end are. are }

  module _ (circuit : IsCircuit c) (line : LineId) (place : ℕ) (old new : FoundSet) (inside : place < length old.lines)
      (at : get_or old.lines place line ≡ line) (finds : FindsMore (reads_of c line.0) old new) (behind : AreBehind c first old.lines) where
    line_within : line.0 < line_count c
    line_within = subst (λ (l : LineId). l.0 < line_count c) at (behind.in_circuit place line inside)

    new_supported : (links : LinkList) (end : ℕ) → All (λ l. IsSupported c links end l.0) first
        → All (λ l. IsSupported c links end l.0) new.lines
    new_supported links end are =
        let before = behind.supported links end are in
        let own : IsSupported c links end line.0 = subst (λ (l : LineId). IsSupported c links end l.0) at (before place line inside) in
        all_of_each (IsSupported c links end) new.lines
        (λ other has. ⊎_elim
        (λ (was : Contains old.lines (record { 0 = other })).
        All-contains (λ (l : LineId). IsSupported c links end l.0) old.lines (record { 0 = other }) before was)
        (λ (read : Contains (reads_of c line.0) (record { 0 = other })).
        next_supported c links end line.0 line_within own other (inl read))
        ((finds.exactly other).0 has))

    -- what is read is behind too
    pub behind_more : AreBehind c first new.lines
    behind_more = record {
      in_circuit = all_of_each (λ l. l < line_count c) new.lines
          (λ other has. ⊎_elim
          (λ (was : Contains old.lines (record { 0 = other })).
          All-contains (λ (l : LineId). l.0 < line_count c) old.lines (record { 0 = other }) behind.in_circuit was)
          (λ (read : Contains (reads_of c line.0) (record { 0 = other })).
          fan_in_in_circuit c line.0 circuit.reads_lines line_within other
          (reads_in_fan_in c line.0 line.0 line_within end_itself other read))
          ((finds.exactly other).0 has));
      supported = new_supported;
    }

-- where one line was found in a set of none, it is the only one
pub first_only : (line : LineId) (old new : FoundSet) → old.lines ≡ [] → FindsMore (line ∷ []) old new → (other : ℕ)
    → Contains new.lines (record { 0 = other }) → line.0 ≡ other
first_only line old new none finds other has = ⊎_elim
    (λ (was : Contains old.lines (record { 0 = other })).
    let nothing : Contains [] (record { 0 = other }) = subst (λ ls. Contains ls (record { 0 = other })) none was in
    absurd (omega (arith, nothing.1)))
    (λ (this : Contains (line ∷ []) (record { 0 = other })). ap (λ (l : LineId). l.0) (only_one line (record { 0 = other }) this))
    ((finds.exactly other).0 has)

-- what holds of the line of a failure, and of the other one if there is one, holds of each of the two
pub failing_all : (P : ℕ → Type 0) (line : LineId) (side : Option LineId) → P line.0 → IfSome side (λ other. P other.0)
    → (other : ℕ) → ((line.0 ≡ other) ⊎ IsSomeLine other side) → P other
failing_all P line side holds holds_too other (inl same) = subst P same holds
failing_all P line None holds holds_too other (inr some) = absurd some
failing_all P line (Some at) holds holds_too other (inr some) = subst P some holds_too
