-- What is asked of the values is asked of the pins.
use Rattle.std.proofs.Common.{rules, tests}
use Rattle.std.proofs.lemmas.Iterator.{YieldsList-from_slice}
use Rattle.std.proofs.lemmas.Iterator.Search.{any_from_yields_List}
use Rattle.pd_base.specs.declared.ids.LineId.{LineId}
use Rattle.logic_values.specs.Known.{bit_at}
use Rattle.logic_values.proofs.PinTests.{list_any-map}
use Rattle.logic_values.proofs.boolean.any_true.Goals as goal

pub returns : goal.returns
returns c =
    rw list_any-map
    (any_from_yields_List (λ (pin : LineId). bit_at c.args.values.now pin.0) _ _ _ c.any.ensures.ran (YieldsList-from_slice c.args.pins.now cc)
    (λ x b q k. search (rules, tests)))
