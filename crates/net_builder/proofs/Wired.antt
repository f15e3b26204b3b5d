-- A circuit and the lines that its pins read: what the one says in words of the other.
use Rattle.std.proofs.Common.{◌≡◌, ℕ, zero, suc, ◌<◌, List, [], ◌∷◌, length, map, get_or, slice_index_or, refl, sym, ap, subst, ◌∙◌, arith}
use Rattle.std.specs.List.{All}
use Rattle.std.proofs.lemmas.List.{length-map}
use Rattle.pd_base.specs.declared.ids.LineId.{LineId}
use Rattle.netlist.specs.Circuit.{Circuit, gate_count, line_count, no_gate, pins_at}
use Rattle.netlist.specs.Lawful.{ReadsLines}
use Rattle.net_builder.specs.Wiring.{FitsLines, IsWired}

-- an element of a mapped list, also past its end
map-get_or : {X Y : Type 0} (f : X → Y) (xs : List X) (i : ℕ) (d : X) → get_or (map f xs) i (f d) ≡ f (get_or xs i d)
map-get_or f [] i d = refl
map-get_or f (x ∷ xs) zero d = refl
map-get_or f (x ∷ xs) (suc i) d = map-get_or f xs i d

module _ (c : Circuit) (lines : ℕ) (pins : List (List LineId)) (wired : IsWired c lines pins) where
  -- there is a list of pins for each gate
  pub gates_are : gate_count c ≡ length pins
  gates_are = sym (length-map c.gates (λ gate. gate.pins)) ∙ ap length wired.gate_pins

  -- it has what the pins of the gate read
  pub pins_are : (gate : ℕ) → pins_at c gate ≡ slice_index_or pins gate []
  pins_are gate = sym (map-get_or (λ gate. gate.pins) c.gates gate no_gate) ∙ ap (λ l. get_or l gate []) wired.gate_pins

  -- so the pins read lines of the circuit
  pub reads_lines : FitsLines lines pins → ReadsLines c
  reads_lines fits gate within =
      subst (λ l. All (λ line. line.0 < line_count c) l) (sym (pins_are gate))
      (subst (λ n. All (λ line. line.0 < n) (slice_index_or pins gate [])) (sym wired.line_total)
      (fits.reads gate [] (omega (arith, gates_are))))
