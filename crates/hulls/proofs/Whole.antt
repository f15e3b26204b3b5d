-- Once all kept sets are known, the cuts of the lines of a gate are its narrowing.
use Rattle.std.proofs.Common.{◌≡◌, ℕ, ◌<◌, List, ◌++◌, map, take, drop, length, Option, refl, sym, ap, ◌∙◌, subst, arith}
use Rattle.std.proofs.lemmas.Grind.{common_steps}
use Rattle.std.proofs.Math.ListN.{set}
use Rattle.std.proofs.lemmas.List.{length-set}
use Rattle.std.proofs.lemmas.Option.{slice_get_within}
use Rattle.pd_base.specs.declared.ids.LineId.{LineId}
use Rattle.netlist.specs.declared.kind.GateKind.{GateKind}
use Rattle.netlist.specs.Circuit.{Circuit, kind_at, pins_at, gate_line}
use Rattle.state_sets.specs.declared.state.StateSet.{StateSet}
use Rattle.state_sets.specs.declared.condition.Condition.{Condition}
use Rattle.state_sets.specs.States.{both_sets}
use Rattle.state_sets.specs.StateAlgebra.{StateAlgebra}
use Rattle.state_sets.specs.Labellings.{label_at}
use Rattle.state_sets.specs.Narrowing.{IsNarrowing, GivesAtGate, GivesAtPin, GateSets, gate_sets}
use Rattle.hulls.specs.Sets.{Means, set_at}
use Rattle.hulls.specs.Changes.{HasPinsKept}
use Rattle.hulls.proofs.Cuts.{has_after_cut, had_before_cut, kept_by_cut}

module _ (a : StateAlgebra) (c : Circuit) (gate : ℕ) (condition : Option Condition) (old mid kept : List StateSet) (given : StateSet)
    (same_length : length mid ≡ length old) (own_within : gate_line c gate < length old)
    (at_pins : (pin : ℕ) → pin < length (pins_at c gate)
    → Means a.count (set_at kept pin) (GivesAtPin a (gate_sets c gate old) condition pin))
    (at_gate : Means a.count given (GivesAtGate a (gate_sets c gate old) condition))
    (cut : HasPinsKept a.count (pins_at c gate) kept (length (pins_at c gate)) old mid) where
  abbrev own : ℕ
  own = gate_line c gate

  own_in_mid : own < length mid
  own_in_mid = omega arith

  pub gate_narrowed : IsNarrowing a c gate condition old (set mid own (both_sets (label_at mid own) given))
  gate_narrowed = record {
    lines = length-set mid own (both_sets (label_at mid own) given) ∙ same_length;
    exactly = λ line state. (
      (λ has.
          let before = (cut line state).0
          (had_before_cut mid own own_in_mid (both_sets (label_at mid own) given) a.count given refl line state has) in
          record {
            had = before.0;
            at_gate = λ here. (at_gate state).0
                (kept_by_cut mid own own_in_mid (both_sets (label_at mid own) given) a.count given refl line state has here);
            at_pins = λ pin reads. let within = slice_get_within (pins_at c gate) pin (record { 0 = line }) reads in
                (at_pins pin within state).0 (before.1 pin within reads);
          }),
      λ is_kept. has_after_cut mid own own_in_mid (both_sets (label_at mid own) given) a.count given refl line state
          ((cut line state).1 (is_kept.had, λ pin below reads. (at_pins pin below state).1 (is_kept.at_pins pin reads)))
          (λ here. (at_gate state).1 (is_kept.at_gate here)),
    );
  }

-- what is seen at a gate, as the code has its kind, its pins and its line, is what a labelling has there
pub sees : (c : Circuit) (gate : ℕ) (labels : List StateSet) (kind : GateKind) (pins : List LineId) (line : ℕ)
    → kind ≡ kind_at c gate → pins ≡ pins_at c gate → line ≡ gate_line c gate
    → (let s : GateSets = record { kind = kind; pins = map (λ l. label_at labels l.0) pins; own = label_at labels line } in s)
    ≡ gate_sets c gate labels
sees c gate labels kind pins line is_kind is_pins is_line =
    ap (λ (k : GateKind). let s : GateSets = record { kind = k; pins = map (λ l. label_at labels l.0) pins; own = label_at labels line } in s) is_kind
    ∙ ap (λ (p : List LineId). let s : GateSets = record { kind = kind_at c gate; pins = map (λ l. label_at labels l.0) p; own = label_at labels line } in s) is_pins
    ∙ ap (λ (l : ℕ). let s : GateSets = record { kind = kind_at c gate; pins = map (λ m. label_at labels m.0) (pins_at c gate); own = label_at labels l } in s) is_line

-- the cuts are a narrowing, as the code has the pins and the line of the gate
pub narrowed_as : (a : StateAlgebra) (c : Circuit) (gate : ℕ) (condition : Option Condition) (old mid kept new : List StateSet)
    (given : StateSet) (pins : List LineId) (line : ℕ) → pins ≡ pins_at c gate → line ≡ gate_line c gate
    → length mid ≡ length old → line < length old
    → ((pin : ℕ) → pin < length (pins_at c gate) → Means a.count (set_at kept pin) (GivesAtPin a (gate_sets c gate old) condition pin))
    → Means a.count given (GivesAtGate a (gate_sets c gate old) condition)
    → HasPinsKept a.count pins kept (length pins) old mid
    → new ≡ set mid line (both_sets (label_at mid line) given) → IsNarrowing a c gate condition old new
narrowed_as a c gate condition old mid kept new given pins line is_pins is_line same_length within at_pins at_gate cut is =
    subst (IsNarrowing a c gate condition old) (sym (is ∙ ap (λ (l : ℕ). set mid l (both_sets (label_at mid l) given)) is_line))
    (gate_narrowed a c gate condition old mid kept given same_length (subst (λ l. l < length old) is_line within) at_pins at_gate
    (subst (λ (p : List LineId). HasPinsKept a.count p kept (length p) old mid) is_pins cut))

-- what is written through a lent list of the same length is the list afterwards
pub lent_back : {X : Type 0} (old new : List X) → length new ≡ length old → take (length old) (new ++ drop (length new) old) ≡ new
lent_back old new same = grind (arith, common_steps)
