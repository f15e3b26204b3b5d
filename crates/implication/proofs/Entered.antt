-- The pins of a path are entered one by one: the next one is on the line that was reached, and lines may then be in the states of the start
-- of the prefix so far.
use Rattle.std.proofs.Common.{◌≡◌, ℕ, zero, suc, ◌+◌, ◌<◌, List, [], ◌∷◌, ◌++◌, length, map, take, get_or, refl, sym, ap, ◌∙◌, arith}
use Rattle.std.proofs.lemmas.List.{map_push, take_more}
use Rattle.std.proofs.lemmas.List.Elements.{All-nil, All-map}
use Rattle.pd_base.specs.declared.ids.PinRef.{PinRef}
use Rattle.pd_base.specs.Target.{Target}
use Rattle.pd_base.specs.declared.rules.Rules.{Rules}
use Rattle.netlist.specs.Circuit.{Circuit, gate_line}
use Rattle.netlist.specs.Pins.{IsPinOn}
use Rattle.netlist.specs.Paths.{Connects, line_after}
use Rattle.state_sets.specs.StateAlgebra.{StateAlgebra}
use Rattle.state_laws.specs.Nodes.{IsCut}
use Rattle.implication.specs.declared.assumption.Assumption.{Assumption}
use Rattle.implication.specs.declared.assumption.Assumption.TheVariants.{Entered}
use Rattle.implication.specs.Assumptions.{entered_pins, IsLetBy}
use Rattle.implication.specs.NodeScopes.{AllowAsNode}

-- the pins of entries that are all pins
pub pins_of_entered : (steps : List PinRef) → entered_pins (map Entered steps) ≡ steps
pins_of_entered [] = refl
pins_of_entered (step ∷ steps) = ap (λ rest. step ∷ rest) (pins_of_entered steps)

-- of steps that connect, the one behind these first ones is on their last line
pub step_on : (c : Circuit) (line : ℕ) (steps : List PinRef) (place : ℕ) (d : PinRef) → Connects c line steps → place < length steps
    → IsPinOn c (get_or steps place d) (line_after c line (take place steps))
step_on c line [] place d connects within = absurd (omega arith)
step_on c line (step ∷ steps) zero d connects within = connects.0
step_on c line (step ∷ steps) (suc place) d connects within =
    step_on c (gate_line c step.gate.0) steps place d connects.1 (omega arith)

-- the entries of the first pins, one more
pub entries_more : (entries : List Assumption) (steps : List PinRef) (count : ℕ) (pin : PinRef) → entries ≡ map Entered (take count steps)
    → count < length steps → pin ≡ get_or steps count pin → entries ++ Entered pin ∷ [] ≡ map Entered (take (count + 1) steps)
entries_more entries steps count pin first within is =
    ap (λ (list : List Assumption). list ++ Entered pin ∷ []) first
    ∙ sym (map_push Entered (take count steps) pin)
    ∙ ap (map Entered) (ap (λ (p : PinRef). take count steps ++ p ∷ []) is ∙ sym (take_more steps count pin within))

-- where pins alone were entered, lines may be in what they may be in at the start
pub start_allows : (a : StateAlgebra) (c : Circuit) (rules : Rules) (target : Target) (steps : List PinRef) → AllowAsNode a c rules target (map Entered steps) []
start_allows a c rules target steps line state in_circuit in_range = (
  λ under. record { start = under.start; cut = All-nil (IsCut a line state) },
  λ be. record {
    start = be.start;
    assumed = All-map (IsLetBy a.count line state) Entered steps (λ place d within. tt);
  },
)
