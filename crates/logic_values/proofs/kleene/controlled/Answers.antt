-- The tests of the pins' steadiness are those that the definition makes of the list of what is known at the pins.
use Rattle.std.proofs.lemmas.List.Folds.{list_all-map}
use Rattle.logic_values.proofs.PinTests.{list_any-map}
use Rattle.logic_values.proofs.kleene.controlled.Goals as goal

pub returns-then-some_pin_at : goal.returns-then-some_pin_at
returns-then-some_pin_at c = rw (list_any-map, ← c.if-some_pin_at.ensures) c.steady_at.ensures

pub returns-then-all_pins_at : goal.returns-then-all_pins_at
returns-then-all_pins_at c =
    rw (list_any-map, ← c.if-some_pin_at.ensures, list_all-map, ← c.if-all_pins_at.ensures) c.steady_at-then-all_pins_at.ensures

pub returns-else-all_pins_at : goal.returns-else-all_pins_at
returns-else-all_pins_at c = rw (list_any-map, ← c.if-some_pin_at.ensures, list_all-map, ← c.if-all_pins_at.ensures)
