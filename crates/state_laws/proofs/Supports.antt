-- What stands behind an end under links: what a pin reads behind a line that does, and the line to which such a source is linked.
use Rattle.std.proofs.Common.{◌≡◌, ℕ, ◌<◌, length, get_or, refl, subst}
use Rattle.std.proofs.lemmas.List.Elements.{All-contains}
use Rattle.std.proofs.lemmas.Option.{slice_get-get_or}
use Rattle.pd_base.specs.Links.{LinkList, IsLink}
use Rattle.pd_base.specs.declared.ids.LineId.{LineId}
use Rattle.pd_base.specs.declared.ids.PinRef.{PinRef}
use Rattle.netlist.specs.Circuit.{Circuit, gate_count, gate_line, line_count, pins_at}
use Rattle.netlist.specs.Lawful.{ReadsLines}
use Rattle.netlist.specs.LinkedPairs.{AreLinksOf, IsSupported}
use Rattle.netlist.specs.LinkedPairs.IsSupported.{in_fan_in, behind_link}
use Rattle.netlist.specs.Pins.{IsInFanIn, IsPinOn}
use Rattle.netlist.specs.Pins.IsInFanIn.{end_itself, read_by_pin}
use Rattle.state_laws.proofs.FanIns.{fan_in_in_circuit}

module _ (c : Circuit) (links : LinkList) (end : ℕ) where
  pub end_supported : IsSupported c links end end
  end_supported = in_fan_in end end_itself

  pub linked_supported : (source line : ℕ) → IsSupported c links end source → IsLink links source line → IsSupported c links end line
  linked_supported source line supported link = behind_link source line line supported link end_itself

  pub read_supported : (pin : PinRef) (line : ℕ) → IsPinOn c pin line → (owner : ℕ) → owner ≡ gate_line c pin.gate.0
      → IsSupported c links end owner → IsSupported c links end line
  read_supported pin line on _ own (in_fan_in owner further) =
      in_fan_in line (read_by_pin pin line on (subst (IsInFanIn c end) own further))
  read_supported pin line on _ own (behind_link source other owner supported link further) =
      behind_link source other line supported link (read_by_pin pin line on (subst (IsInFanIn c other) own further))

  pub pin_supported : (gate : ℕ) → gate < gate_count c → IsSupported c links end (gate_line c gate)
      → (pin : ℕ) (d : LineId) → pin < length (pins_at c gate) → IsSupported c links end (get_or (pins_at c gate) pin d).0
  pin_supported gate within supported pin d inside =
      read_supported (record { gate = record { 0 = gate }; pin = pin }) (get_or (pins_at c gate) pin d).0
      (record { in_circuit = within; reads = slice_get-get_or (pins_at c gate) pin d inside }) (gate_line c gate) refl supported

  -- only lines of the circuit do
  pub supported_in_circuit : ReadsLines c → AreLinksOf c links → end < line_count c → (line : ℕ) → IsSupported c links end line
      → line < line_count c
  supported_in_circuit reads fit within _ (in_fan_in line further) = fan_in_in_circuit c end reads within line further
  supported_in_circuit reads fit within _ (behind_link source other line supported link further) =
      fan_in_in_circuit c other reads
      (All-contains (λ (l : LineId × LineId). l.1.0 < line_count c) links (record { 0 = source }, record { 0 = other }) fit.lines link) line further
