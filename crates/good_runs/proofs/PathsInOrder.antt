-- The order in which paths are listed is a total one.
use Rattle.std.proofs.Common.{◌≡◌, ◌⊎◌, ⊎_elim, inl, inr, ℕ, ◌<◌, ◌≤◌, List, [], ◌∷◌, refl, sym, ap, subst, ◌∙◌, arith}
use Rattle.std.proofs.lemmas.Bool.{cases_lt}
use Rattle.pd_base.specs.declared.ids.PinRef.{PinRef}
use Rattle.pd_base.specs.Route.{Route}
use Rattle.netlist.specs.Pins.{IsPinBefore}
use Rattle.netlist.specs.Pins.IsPinBefore.{lesser_gate, lesser_pin}
use Rattle.netlist.specs.Order.{AreStepsBefore, IsBefore}
use Rattle.netlist.specs.Order.AreStepsBefore.{shorter_list, lesser_step, same_step}
use Rattle.netlist.specs.Order.IsBefore.{longer, lesser_source, lesser_steps}
use Rattle.netlist.specs.Paths.{length_of}
use Rattle.netlist.specs.Waves.{Delays}

-- of two numbers one is less, or they are the same
one_is_less : (a b : ℕ) → (a ≡ b) ⊎ ((a < b) ⊎ (b < a))
one_is_less a b =
    ⊎_elim (λ (less : a < b). inr (inl less))
    (λ (most : b ≤ a). ⊎_elim (λ (more : b < a). inr (inr more)) (λ (least : a ≤ b). inl (omega arith)) (cases_lt b a)) (cases_lt a b)

pin_transitive : (a b c : PinRef) → IsPinBefore a b → IsPinBefore b c → IsPinBefore a c
pin_transitive a b c (lesser_gate less) (lesser_gate next) = lesser_gate (omega arith)
pin_transitive a b c (lesser_gate less) (lesser_pin same next) =
    let e = ap (λ g. g.0) same in lesser_gate (omega (arith, less, e))
pin_transitive a b c (lesser_pin same less) (lesser_gate next) =
    let e = ap (λ g. g.0) same in lesser_gate (omega (arith, next, e))
pin_transitive a b c (lesser_pin same less) (lesser_pin more next) = lesser_pin (same ∙ more) (omega arith)

pin_irreflexive : (a : PinRef) → IsPinBefore a a → ⊥
pin_irreflexive a (lesser_gate less) = absurd (omega arith)
pin_irreflexive a (lesser_pin same less) = absurd (omega arith)

one_pin_before : (a b : PinRef) → (a ≡ b) ⊎ (IsPinBefore a b ⊎ IsPinBefore b a)
one_pin_before a b =
    ⊎_elim
    (λ (gate : a.gate.0 ≡ b.gate.0).
    ⊎_elim
    (λ (pin : a.pin ≡ b.pin). inl (λ i. record { gate = record { 0 = gate i }; pin = pin i }))
    (λ (differ : (a.pin < b.pin) ⊎ (b.pin < a.pin)).
    inr (⊎_elim (λ less. inl (lesser_pin (λ i. record { 0 = gate i }) less))
    (λ more. inr (lesser_pin (λ i. record { 0 = sym gate i }) more)) differ))
    (one_is_less a.pin b.pin))
    (λ (differ : (a.gate.0 < b.gate.0) ⊎ (b.gate.0 < a.gate.0)).
    inr (⊎_elim (λ less. inl (lesser_gate less)) (λ more. inr (lesser_gate more)) differ))
    (one_is_less a.gate.0 b.gate.0)

steps_transitive : {p q r : List PinRef} → AreStepsBefore p q → AreStepsBefore q r → AreStepsBefore p r
steps_transitive shorter_list (lesser_step less) = shorter_list
steps_transitive shorter_list (same_step same rest) = shorter_list
steps_transitive (lesser_step {a} {b} less) (lesser_step {a = b'} {b = c} next) = lesser_step (pin_transitive a b c less next)
steps_transitive (lesser_step {a} less) (same_step same rest) = lesser_step (subst (IsPinBefore a) same less)
steps_transitive (same_step same rest) (lesser_step {b = c} next) =
    lesser_step (subst (λ (pin : PinRef). IsPinBefore pin c) (sym same) next)
steps_transitive (same_step same rest) (same_step more next) = same_step (same ∙ more) (steps_transitive rest next)

steps_irreflexive : (p : List PinRef) → AreStepsBefore p p → ⊥
steps_irreflexive [] before = elim before [ ]
steps_irreflexive (a ∷ p) (lesser_step less) = pin_irreflexive a less
steps_irreflexive (a ∷ p) (same_step same rest) = steps_irreflexive p rest

one_before : (p q : List PinRef) → (p ≡ q) ⊎ (AreStepsBefore p q ⊎ AreStepsBefore q p)
one_before [] [] = inl refl
one_before [] (b ∷ q) = inr (inl shorter_list)
one_before (a ∷ p) [] = inr (inr shorter_list)
one_before (a ∷ p) (b ∷ q) =
    ⊎_elim
    (λ (pin : a ≡ b).
    ⊎_elim (λ (steps : p ≡ q). inl (λ i. pin i ∷ steps i))
    (λ (differ : AreStepsBefore p q ⊎ AreStepsBefore q p).
    inr (⊎_elim (λ less. inl (same_step pin less)) (λ more. inr (same_step (sym pin) more)) differ))
    (one_before p q))
    (λ (differ : IsPinBefore a b ⊎ IsPinBefore b a).
    inr (⊎_elim (λ less. inl (lesser_step less)) (λ more. inr (lesser_step more)) differ))
    (one_pin_before a b)

module _ (delays : Delays) where
  -- what stands before a route that stands before another stands before that
  pub stands_before : (p q r : Route) → IsBefore delays p q → IsBefore delays q r → IsBefore delays p r
  stands_before p q r (longer more) (longer next) = longer (omega arith)
  stands_before p q r (longer more) (lesser_source same next) = longer (omega (arith, same, more))
  stands_before p q r (longer more) (lesser_steps same source next) = longer (omega (arith, same, more))
  stands_before p q r (lesser_source same less) (longer next) = longer (omega (arith, same, next))
  stands_before p q r (lesser_source same less) (lesser_source too next) = lesser_source (same ∙ too) (omega arith)
  stands_before p q r (lesser_source same less) (lesser_steps too source next) =
      let e = ap (λ line. line.0) source in lesser_source (same ∙ too) (omega (arith, less, e))
  stands_before p q r (lesser_steps same source less) (longer next) = longer (omega (arith, same, next))
  stands_before p q r (lesser_steps same source less) (lesser_source too next) =
      let e = ap (λ line. line.0) source in lesser_source (same ∙ too) (omega (arith, next, e))
  stands_before p q r (lesser_steps same source less) (lesser_steps too more next) =
      lesser_steps (same ∙ too) (source ∙ more) (steps_transitive less next)

  -- none stands before itself
  pub not_before_itself : (p : Route) → IsBefore delays p p → ⊥
  not_before_itself p (longer more) = absurd (omega arith)
  not_before_itself p (lesser_source same less) = absurd (omega arith)
  not_before_itself p (lesser_steps same source less) = steps_irreflexive p.steps less

  -- of two routes one stands before the other, or they are the same
  pub one_stands_before : (p q : Route) → (p ≡ q) ⊎ (IsBefore delays p q ⊎ IsBefore delays q p)
  one_stands_before p q =
      ⊎_elim
      (λ (long : length_of delays p ≡ length_of delays q).
      ⊎_elim (λ (source : p.source.0 ≡ q.source.0). with_source long source (one_before p.steps q.steps))
      (λ (differ : (p.source.0 < q.source.0) ⊎ (q.source.0 < p.source.0)).
      inr (⊎_elim (λ less. inl (lesser_source long less)) (λ more. inr (lesser_source (sym long) more)) differ))
      (one_is_less p.source.0 q.source.0))
      (λ (differ : (length_of delays p < length_of delays q) ⊎ (length_of delays q < length_of delays p)).
      inr (⊎_elim (λ less. inr (longer less)) (λ more. inl (longer more)) differ))
      (one_is_less (length_of delays p) (length_of delays q))
    where
      with_source : length_of delays p ≡ length_of delays q → p.source.0 ≡ q.source.0
          → (p.steps ≡ q.steps) ⊎ (AreStepsBefore p.steps q.steps ⊎ AreStepsBefore q.steps p.steps)
          → (p ≡ q) ⊎ (IsBefore delays p q ⊎ IsBefore delays q p)
      with_source long source (inl steps) = inl (λ i. record { source = record { 0 = source i }; steps = steps i })
      with_source long source (inr (inl less)) = inr (inl (lesser_steps long (λ i. record { 0 = source i }) less))
      with_source long source (inr (inr more)) = inr (inr (lesser_steps (sym long) (λ i. record { 0 = sym source i }) more))
