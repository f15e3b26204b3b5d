-- The rise and fall delays of the pins of a circuit, in two lists like that of one delay (this project's own).
use Rattle.std.specs.Prelude.{ℕ, Bool, List, if◌then◌else◌}
use Rattle.pd_base.specs.declared.ids.PinRef.{PinRef}
use Rattle.netlist.specs.Circuit.{Circuit}
use Rattle.delay_annotation.specs.Annotation.{Fits, delays_of}

-- the rise delays of all pins, and the fall delays
pub record RisesAndFalls : Type 0 where
  pub rises : List ℕ
  pub falls : List ℕ

-- what a pin of the circuit takes to show that its line is 1 (`true`: its rise delay), and that it is 0 (its fall delay)
abbrev pub rise_fall_of : Circuit → RisesAndFalls → PinRef → Bool → ℕ
rise_fall_of c kept pin risen = if risen then delays_of c kept.rises pin else delays_of c kept.falls pin

-- both lists have a delay for each pin of the circuit
pub record BothFit (c : Circuit) (kept : RisesAndFalls) : Type 0 where
  pub of_rises : Fits c kept.rises
  pub of_falls : Fits c kept.falls
