-- The test of the pins' steadiness is the one that the definition makes of the list of what is known at the pins.
use Rattle.std.proofs.Common.{Some, ap, ◌∙◌}
use Rattle.std.proofs.lemmas.List.Folds.{list_all-map}
use Rattle.logic_values.proofs.kleene.parity.Goals as goal

pub returns-then-all_pins_steady : goal.returns-then-all_pins_steady
returns-then-all_pins_steady c =
    rw (list_all-map, ← c.if-all_pins_steady.ensures) (c.steady_at.ensures ∙ ap Some c.parity_of_ones.ensures)

pub returns-else-all_pins_steady : goal.returns-else-all_pins_steady
returns-else-all_pins_steady c = rw (list_all-map, ← c.if-all_pins_steady.ensures)
