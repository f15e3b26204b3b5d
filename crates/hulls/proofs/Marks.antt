-- Marks of gates, as steps are entered and left, and the conditions that they stand for.
use Rattle.std.proofs.Common.{◌≡◌, ◌≢◌, ℕ, ◌+◌, ◌-◌, ◌<◌, ◌↔◌, ⊎_elim, ◌==◌, Bool, true, false, not, IsTrue, List, [], ◌∷◌, ◌++◌, length, get_or, Option, Some, None, if◌then◌else◌, refl, sym, ap, ◌∙◌, subst, arith}
use Rattle.std.specs.List.{All, AllPairs}
use Rattle.std.specs.Option.{IfSome}
use Rattle.std.proofs.Math.ListN.{set}
use Rattle.std.proofs.lemmas.Bool.{cases_eq, ne_eqb, eq-eqb, false≢true}
use Rattle.std.proofs.lemmas.List.{get_or-set_same, get_or-set_other, length-set, length_push, get_or_append_left, get_or_push}
use Rattle.std.proofs.lemmas.List.Elements.{All-head, All-tail, All-cons, All-push, All-pop}
use Rattle.std.proofs.lemmas.List.Quantifiers.{all_pairs_push}
use Rattle.pd_base.specs.declared.ids.PinRef.{PinRef}
use Rattle.pd_base.specs.declared.fault.Kind.{Kind}
use Rattle.netlist.specs.Circuit.{Circuit, pins_at}
use Rattle.netlist.specs.Pins.{IsPin}
use Rattle.state_sets.specs.declared.condition.Condition.{Condition}
use Rattle.state_sets.specs.Hulls.{condition_at}
use Rattle.hulls.specs.Marks.{mark_at, marked_condition}
use Rattle.hulls.specs.Conditions.{IsMarked}

-- none of these steps goes through the gate
abbrev pub PassBy : List PinRef → ℕ → Type 0
PassBy steps gate = All (λ step. step.gate.0 ≢ gate) steps

abbrev PassesBy : ℕ → PinRef → Type 0
PassesBy gate step = step.gate.0 ≢ gate

-- a step behind the others marks no other gate
mark_push_other : (steps : List PinRef) (step : PinRef) (gate : ℕ) → step.gate.0 ≢ gate
    → mark_at (steps ++ step ∷ []) gate ≡ mark_at steps gate
mark_push_other [] step gate away = ap (λ (b : Bool). if b then step.pin + 1 else 0) (ne_eqb step.gate.0 gate away)
mark_push_other (first ∷ steps) step gate away =
    ap (λ (n : ℕ). if first.gate.0 == gate then first.pin + 1 else n) (mark_push_other steps step gate away)

-- and it marks its own gate where the others pass by
mark_push_same : (steps : List PinRef) (step : PinRef) (gate : ℕ) → PassBy steps gate → step.gate.0 ≡ gate
    → mark_at (steps ++ step ∷ []) gate ≡ step.pin + 1
mark_push_same [] step gate pass here = ap (λ (b : Bool). if b then step.pin + 1 else 0) (eq-eqb step.gate.0 gate here)
mark_push_same (first ∷ steps) step gate pass here =
    ap (λ (b : Bool). if b then first.pin + 1 else mark_at (steps ++ step ∷ []) gate)
    (ne_eqb first.gate.0 gate (All-head (PassesBy gate) first steps pass))
    ∙ mark_push_same steps step gate (All-tail (PassesBy gate) first steps pass) here

-- where all steps pass by there is no mark
pub mark_none : (steps : List PinRef) (gate : ℕ) → PassBy steps gate → mark_at steps gate ≡ 0
mark_none [] gate pass = refl
mark_none (first ∷ steps) gate pass =
    ap (λ (b : Bool). if b then first.pin + 1 else mark_at steps gate)
    (ne_eqb first.gate.0 gate (All-head (PassesBy gate) first steps pass))
    ∙ mark_none steps gate (All-tail (PassesBy gate) first steps pass)

chosen_if : (b : Bool) (condition : Condition) → IsTrue (not b) ↔ ((if b then None else Some condition) ≢ None)
chosen_if true condition = (λ never. absurd (false≢true never), λ some. absurd (some refl))
chosen_if false condition = (λ sure none. absurd (let n = none in cc), λ some. refl)

-- a mark stands for some condition if it is not 0
pub some_marked : (kind : Kind) (mark : ℕ) → IsTrue (not (mark == 0)) ↔ (marked_condition kind mark ≢ None)
some_marked kind mark = chosen_if (mark == 0) (record { pin = mark - 1; kind = kind })

module _ (kind : Kind) where
  -- the mark of a pin stands for its condition
  marked_pin : (pin : ℕ) → marked_condition kind (pin + 1) ≡ Some (record { pin = pin; kind = kind })
  marked_pin pin =
      ap (λ (b : Bool). if b then None else (let c : Condition = record { pin = pin + 1 - 1; kind = kind } in Some c))
      (ne_eqb (pin + 1) 0 (λ none. absurd (omega arith)))
      ∙ ap (λ (n : ℕ). let c : Condition = record { pin = n; kind = kind } in Some c)
      (let e : pin + 1 - 1 ≡ pin = omega arith in e)

  one_more : (pin mark : ℕ) (here : Bool) (rest : Option Condition) → rest ≡ marked_condition kind mark
      → (if here then Some (record { pin = pin; kind = kind }) else rest) ≡ marked_condition kind (if here then pin + 1 else mark)
  one_more pin mark true rest is = sym (marked_pin pin)
  one_more pin mark false rest is = is

  -- the mark of a gate stands for its condition
  pub condition_marked : (steps : List PinRef) (gate : ℕ) → condition_at kind steps gate ≡ marked_condition kind (mark_at steps gate)
  condition_marked [] gate = refl
  condition_marked (step ∷ steps) gate =
      one_more step.pin (mark_at steps gate) (step.gate.0 == gate) (condition_at kind steps gate) (condition_marked steps gate)

  -- where there is no condition, all steps pass by
  pub pass_by : (steps : List PinRef) (gate : ℕ) → condition_at kind steps gate ≡ None → PassBy steps gate
  pass_by [] gate none = λ k d inside. absurd (omega arith)
  pass_by (step ∷ steps) gate none =
      let seen = λ (b : Bool). if b then (let c : Condition = record { pin = step.pin; kind = kind } in Some c) else condition_at kind steps gate in
      ⊎_elim
      (λ (here : step.gate.0 ≡ gate). absurd (let e = sym (ap seen (eq-eqb step.gate.0 gate here)) ∙ none in cc))
      (λ (away : step.gate.0 ≢ gate).
      All-cons (PassesBy gate) step steps away
      (pass_by steps gate (sym (ap seen (ne_eqb step.gate.0 gate away)) ∙ none)))
      (cases_eq step.gate.0 gate)

  -- the pin of a condition is one of the gate
  pub condition_pin : (c : Circuit) (steps : List PinRef) → All (IsPin c) steps → (gate : ℕ)
      → IfSome (condition_at kind steps gate) (λ condition. condition.pin < length (pins_at c gate))
  condition_pin c [] all gate = tt
  condition_pin c (step ∷ steps) all gate =
      let seen = λ (b : Bool). if b then (let c : Condition = record { pin = step.pin; kind = kind } in Some c) else condition_at kind steps gate in
      let holds = λ (o : Option Condition). IfSome o (λ condition. condition.pin < length (pins_at c gate)) in
      ⊎_elim
      (λ (here : step.gate.0 ≡ gate).
      subst holds (sym (ap seen (eq-eqb step.gate.0 gate here)))
      (subst (λ (g : ℕ). step.pin < length (pins_at c g)) here (All-head (IsPin c) step steps all).in_gate))
      (λ (away : step.gate.0 ≢ gate).
      subst holds (sym (ap seen (ne_eqb step.gate.0 gate away)))
      (condition_pin c steps (All-tail (IsPin c) step steps all) gate))
      (cases_eq step.gate.0 gate)

-- of steps through different gates, and a last one: the others pass by its gate
module _ (steps : List PinRef) (step : PinRef) (once : AllPairs (λ a b. a.gate.0 ≢ b.gate.0) (steps ++ step ∷ [])) where
  at_front : (k : ℕ) (d : PinRef) → k < length steps → get_or (steps ++ step ∷ []) k d ≡ get_or steps k d
  at_front k d inside = get_or_append_left steps (step ∷ []) d k inside

  others_pass_by : PassBy steps step.gate.0
  others_pass_by k d inside same =
      once k (length steps) d inside (let e = length_push steps step in omega arith)
      (ap (λ (s : PinRef). s.gate.0) (at_front k d inside) ∙ same
      ∙ sym (ap (λ (s : PinRef). s.gate.0) (get_or_push steps step d (length steps) refl)))

  front_once : AllPairs (λ a b. a.gate.0 ≢ b.gate.0) steps
  front_once i j d less inside same =
      once i j d less (let e = length_push steps step in omega arith)
      (ap (λ (s : PinRef). s.gate.0) (at_front i d (omega arith)) ∙ same ∙ sym (ap (λ (s : PinRef). s.gate.0) (at_front j d inside)))

module _ (marks : List ℕ) (room capacity : ℕ) (steps : List PinRef) (step : PinRef) where
  -- the marks once a step is entered
  pub marks_entered : IsMarked marks room capacity steps → PassBy steps step.gate.0 → step.gate.0 < length marks → length steps < room
      → IsMarked (set marks step.gate.0 (step.pin + 1)) room capacity (steps ++ step ∷ [])
  marks_entered is pass inside fits = record {
    each = λ gate within. ⊎_elim
        (λ (here : step.gate.0 ≡ gate).
        subst (λ (g : ℕ). get_or (set marks step.gate.0 (step.pin + 1)) g 0 ≡ mark_at (steps ++ step ∷ []) g) here
        (get_or-set_same marks step.gate.0 (step.pin + 1) 0 inside ∙ sym (mark_push_same steps step step.gate.0 pass refl)))
        (λ (away : step.gate.0 ≢ gate).
        get_or-set_other marks step.gate.0 gate (step.pin + 1) 0 (λ same. away (sym same))
        ∙ is.each gate (let e = length-set marks step.gate.0 (step.pin + 1) in omega arith)
        ∙ sym (mark_push_other steps step gate away))
        (cases_eq step.gate.0 gate);
    gates = subst (λ (n : ℕ). All (λ (s : PinRef). s.gate.0 < n) (steps ++ step ∷ [])) (sym (length-set marks step.gate.0 (step.pin + 1)))
        (All-push (λ (s : PinRef). s.gate.0 < length marks) steps step is.gates inside);
    once = all_pairs_push (λ (a b : PinRef). a.gate.0 ≢ b.gate.0) steps step is.once (λ k d within. pass k d within);
    few = let e = length_push steps step in omega arith;
    reserved = is.reserved;
  }

  -- the marks once the last step is left
  pub marks_left : IsMarked marks room capacity (steps ++ step ∷ []) → IsMarked (set marks step.gate.0 0) room capacity steps
  marks_left is =
      let parts = All-pop (λ (s : PinRef). s.gate.0 < length marks) (steps ++ step ∷ []) steps (Some step) refl is.gates in
      record {
        each = λ gate within. ⊎_elim
            (λ (here : step.gate.0 ≡ gate).
            subst (λ (g : ℕ). get_or (set marks step.gate.0 0) g 0 ≡ mark_at steps g) here
            (get_or-set_same marks step.gate.0 0 0 parts.1 ∙ sym (mark_none steps step.gate.0 (others_pass_by steps step is.once))))
            (λ (away : step.gate.0 ≢ gate).
            get_or-set_other marks step.gate.0 gate 0 0 (λ same. away (sym same))
            ∙ is.each gate (let e = length-set marks step.gate.0 0 in omega arith)
            ∙ mark_push_other steps step gate away)
            (cases_eq step.gate.0 gate);
        gates = subst (λ (n : ℕ). All (λ (s : PinRef). s.gate.0 < n) steps) (sym (length-set marks step.gate.0 0)) parts.0;
        once = front_once steps step is.once;
        few = let e = length_push steps step in let f = is.few in omega arith;
        reserved = is.reserved;
      }
