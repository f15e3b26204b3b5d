-- The marks to which a scope can go back, one before each pin that it entered, in words that are spoken inside this crate
-- alone (this project's own).
use Rattle.std.specs.Prelude.{◌≡◌, ℕ, List, length, slice_get, Some}
use Rattle.pd_base.specs.declared.ids.PinRef.{PinRef}
use Rattle.implication.specs.declared.scope.ScopeMark.{ScopeMark}

-- there is one mark for each of these pins, and it is of the number of pins before
pub record AreMarksOf (pins : List PinRef) (marks : List ScopeMark) : Type 0 where
  pub one_each : length marks ≡ length pins
  pub each : (place : ℕ) (mark : ScopeMark) → slice_get marks place ≡ Some mark → mark.at ≡ place
