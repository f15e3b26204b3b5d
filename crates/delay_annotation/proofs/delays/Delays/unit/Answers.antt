-- Each pin on a line has the one delay.
use Rattle.delay_annotation.specs.declared.delays.TheConstants.{UNIT_DELAY}
use Rattle.delay_annotation.proofs.Changing.{all_alike}
use Rattle.delay_annotation.proofs.delays.Delays.unit.Goals as goal

pub returns-clause-unit : goal.returns-clause-unit
returns-clause-unit c =
    all_alike c.args.net.now _ UNIT_DELAY c.pin_total.result c.pin_total.ensures
    (c.in_ok-by_place.ensures.items_if_clones_equal (λ y same. same))
