-- Letting gates wait, one more and at the end all that have the line among theirs.
use Rattle.std.proofs.Common.{◌≡◌, ◌≢◌, ℕ, ◌<◌, ◌+◌, length, sym, ⊎_elim, Bool, true, List, Option, Some, ap, ◌∙◌, subst, arith}
use Rattle.std.specs.List.{All, Contains}
use Rattle.std.proofs.lemmas.List.Elements.{All-contains, All-weaker, Contains-push_cases}
use Rattle.std.proofs.lemmas.Option.{slice_get-get_or}
use Rattle.pd_base.specs.Links.{LinkList}
use Rattle.pd_base.specs.declared.ids.GateId.{GateId}
use Rattle.pd_base.specs.declared.ids.LineId.{LineId}
use Rattle.pd_base.specs.declared.ids.PinRef.{PinRef}
use Rattle.netlist.specs.Circuit.{Circuit, source_count, gate_count, gate_line, pins_at}
use Rattle.netlist.specs.Pins.{IsFanout}
use Rattle.hulls.specs.declared.turn.Turn.{Turn}
use Rattle.hulls.specs.Awaiting.{Awaited, IsMore, is_inside, gate_turn}
use Rattle.hulls.specs.Settling.{AreWaiting, AreLinksWaiting}
use Rattle.hulls.specs.Links.{link_lines}

pub more_on : (old mid new : Awaited) → IsMore old mid → IsMore mid new → IsMore old new
more_on old mid new before after = record {
  inside = after.inside ∙ before.inside;
  stays = λ other waits. after.stays other (before.stays other waits);
  few = λ few. after.few (before.few few);
}

-- a gate waits, if it is inside
abbrev pub WaitsInside : List Bool → List Turn → GateId → Type 0
WaitsInside inside waiting gate = is_inside inside gate.0 ≡ true → Contains waiting (gate_turn gate.0)

-- and where it is not passed by
abbrev pub WaitsIn : List Bool → Option GateId → List Turn → GateId → Type 0
WaitsIn inside passed waiting gate = is_inside inside gate.0 ≡ true → passed ≢ Some gate → Contains waiting (gate_turn gate.0)

module _ (c : Circuit) (line : ℕ) (readers : List PinRef) (fanout : IsFanout c line readers) where
  abbrev this : LineId
  this = record { 0 = line }

  module _ (inside : List Bool) (passed : Option GateId) (waiting : List Turn)
      (all : All (λ (pin : PinRef). WaitsIn inside passed waiting pin.gate) readers) where
    -- a gate that reads the line waits
    reader_waits : (gate : ℕ) → gate < gate_count c → Contains (pins_at c gate) this → WaitsIn inside passed waiting (record { 0 = gate })
    reader_waits gate within among =
        let pin : PinRef = record { gate = record { 0 = gate }; pin = among.0 } in
        All-contains (λ (p : PinRef). WaitsIn inside passed waiting p.gate) readers pin all
        (fanout.whole pin (record {
          in_circuit = within;
          reads = slice_get-get_or (pins_at c gate) among.0 this among.1 ∙ ap (λ (l : LineId). Some l) among.2;
        }))

    -- the line of a source has its readers alone
    pub source_waits : line < source_count c → AreWaiting c inside passed line waiting
    source_waits source gate within here away among = ⊎_elim
        (λ (reads : Contains (pins_at c gate) this). reader_waits gate within reads here away)
        (λ (own : ◌≡◌ {A = LineId} (record { 0 = gate_line c gate }) this).
        absurd (let e = ap (λ (l : LineId). l.0) own in omega arith))
        (Contains-push_cases (pins_at c gate) (record { 0 = gate_line c gate }) this among)

    -- the line of a gate has the gate too
    pub driver_waits : (more : List Turn) → ((turn : Turn) → Contains waiting turn → Contains more turn)
        → (driver : GateId) → line ≡ gate_line c driver.0 → WaitsIn inside passed more driver → AreWaiting c inside passed line more
    driver_waits more stays driver is waits gate within here away among = ⊎_elim
        (λ (reads : Contains (pins_at c gate) this). stays (gate_turn gate) (reader_waits gate within reads here away))
        (λ (own : ◌≡◌ {A = LineId} (record { 0 = gate_line c gate }) this).
        let e : driver.0 ≡ gate = let e = ap (λ (l : LineId). l.0) own in omega arith in
        subst (λ (n : ℕ). WaitsIn inside passed more (record { 0 = n })) e waits here away)
        (Contains-push_cases (pins_at c gate) (record { 0 = gate_line c gate }) this among)

  -- the line of the gate that is passed by needs its readers alone
  pub own_waits : (inside : List Bool) (passed : Option GateId) (waiting : List Turn)
      → All (λ (pin : PinRef). WaitsInside inside waiting pin.gate) readers
      → (driver : GateId) → line ≡ gate_line c driver.0 → passed ≡ Some driver → AreWaiting c inside passed line waiting
  own_waits inside passed waiting all driver is is_passed =
      driver_waits inside passed waiting
      (All-weaker (λ (pin : PinRef). WaitsInside inside waiting pin.gate) (λ (pin : PinRef). WaitsIn inside passed waiting pin.gate)
      (λ pin waits here away. waits here) readers all) waiting (λ turn waits. waits) driver is
      (λ here away. absurd (away is_passed))

-- the links at a line wait, as the code has the links and the number of gates
pub links_as : (c : Circuit) (seen links : LinkList) → seen ≡ links → (gates : ℕ) → gates ≡ gate_count c → (line : LineId) (waiting : List Turn)
    → ((link : ℕ) → link < length seen → Contains (link_lines seen link) line → Contains waiting (record { 0 = gates + link }))
    → AreLinksWaiting c links line.0 waiting
links_as c seen links same gates is line waiting waits link inside among =
    subst (λ (n : ℕ). Contains waiting (record { 0 = n + link })) is
    (waits link (subst (λ (ls : LinkList). link < length ls) (sym same) inside)
    (subst (λ (ls : LinkList). Contains (link_lines ls link) line) (sym same) among))
