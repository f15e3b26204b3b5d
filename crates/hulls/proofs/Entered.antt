-- A step more: only its gate is narrowed otherwise than before.
use Rattle.std.proofs.Common.{◌≡◌, ◌≢◌, ℕ, ◌<◌, length, inl, inr, ⊎_elim, Bool, true, List, [], ◌∷◌, ◌++◌, Option, Some, None, if◌then◌else◌, ◌==◌, sym, ap, ◌∙◌, subst}
use Rattle.std.specs.List.{Contains}
use Rattle.std.proofs.lemmas.Bool.{cases_eq, ne_eqb}
use Rattle.pd_base.specs.declared.ids.PinRef.{PinRef}
use Rattle.pd_base.specs.declared.fault.Kind.{Kind}
use Rattle.netlist.specs.Circuit.{Circuit}
use Rattle.state_sets.specs.declared.state.StateSet.{StateSet}
use Rattle.state_sets.specs.declared.condition.Condition.{Condition}
use Rattle.state_sets.specs.StateAlgebra.{StateAlgebra}
use Rattle.state_sets.specs.Narrowing.{IsNarrowing}
use Rattle.state_sets.specs.Hulls.{condition_at}
use Rattle.hulls.specs.declared.turn.Turn.{Turn}
use Rattle.hulls.specs.Awaiting.{is_inside, gate_turn}
use Rattle.hulls.specs.Boards.{OnBoard, link_turn}
use Rattle.hulls.specs.Settling.{RestsAt, RestsAlong, IsAwake}

-- what a step leaves of the conditions of the steps behind it
abbrev behind_step : Kind → PinRef → Bool → Option Condition → Option Condition
behind_step kind step here rest = if here then Some (record { pin = step.pin; kind = kind }) else rest

condition_elsewhere : (kind : Kind) (steps : List PinRef) (step : PinRef) (gate : ℕ) → gate ≢ step.gate.0
    → condition_at kind (steps ++ step ∷ []) gate ≡ condition_at kind steps gate
condition_elsewhere kind [] step gate away =
    ap (λ (b : Bool). behind_step kind step b None) (ne_eqb step.gate.0 gate (λ same. away (sym same)))
condition_elsewhere kind (first ∷ steps) step gate away =
    ap (behind_step kind first (first.gate.0 == gate)) (condition_elsewhere kind steps step gate away)

-- once the gate of a further step waits, each gate waits or rests under the conditions of all
pub awake_entered : (a : StateAlgebra) (c : Circuit) (kind : Kind) (steps : List PinRef) (step : PinRef) (old new : OnBoard)
    → new ≡ record old { waiting = new.waiting } → ((turn : Turn) → Contains old.waiting turn → Contains new.waiting turn)
    → (is_inside old.inside step.gate.0 ≡ true → Contains new.waiting (gate_turn step.gate.0))
    → IsAwake a c kind steps old → IsAwake a c kind (steps ++ step ∷ []) new
awake_entered a c kind steps step old new same stays waits awake = record {
  gates = λ gate within here_new.
      let inside : is_inside old.inside gate ≡ true = ap (λ (b : OnBoard). is_inside b.inside gate) (sym same) ∙ here_new in
      ⊎_elim
      (λ (here : gate ≡ step.gate.0).
      inl (subst (λ (n : ℕ). Contains new.waiting (gate_turn n)) (sym here)
      (waits (subst (λ (n : ℕ). is_inside old.inside n ≡ true) here inside))))
      (λ (away : gate ≢ step.gate.0). ⊎_elim
      (λ (queued : Contains old.waiting (gate_turn gate)). inl (stays (gate_turn gate) queued))
      (λ (rests : RestsAt a c kind steps old.labels gate).
      inr (subst (λ (l : List StateSet). RestsAt a c kind (steps ++ step ∷ []) l gate) (sym (ap (λ (b : OnBoard). b.labels) same))
      (subst (λ o. IsNarrowing a c gate o old.labels old.labels) (sym (condition_elsewhere kind steps step gate away)) rests)))
      (awake.gates gate within inside))
      (cases_eq gate step.gate.0);
  links = λ link inside. ⊎_elim
      (λ (queued : Contains old.waiting (link_turn c link)). inl (stays (link_turn c link) queued))
      (λ (rests : RestsAlong a old.links old.labels link).
      inr (subst (λ (b : OnBoard). RestsAlong a b.links b.labels link) (sym same) rests))
      (awake.links link (subst (λ (b : OnBoard). link < length b.links) same inside));
}
