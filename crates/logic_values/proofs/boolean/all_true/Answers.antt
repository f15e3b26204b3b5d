-- What is asked of the values is asked of the pins.
use Rattle.std.proofs.Common.{rules, tests}
use Rattle.std.proofs.lemmas.List.Folds.{list_all-map}
use Rattle.std.proofs.lemmas.Iterator.{YieldsList-from_slice}
use Rattle.std.proofs.lemmas.Iterator.Search.{all_from_yields_List}
use Rattle.pd_base.specs.declared.ids.LineId.{LineId}
use Rattle.logic_values.specs.Known.{bit_at}
use Rattle.logic_values.proofs.boolean.all_true.Goals as goal

pub returns : goal.returns
returns c =
    rw list_all-map
    (all_from_yields_List (λ (pin : LineId). bit_at c.args.values.now pin.0) _ _ _ c.all.ensures.ran (YieldsList-from_slice c.args.pins.now cc)
    (λ x b q k. search (rules, tests)))
