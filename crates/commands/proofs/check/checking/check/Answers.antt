-- The word was printed, or not; or the call ended before.
use Rattle.calls.specs.Calls as calls
use Rattle.calls.proofs.Outputs.{none_whole, printed}
use Rattle.commands.specs.Check.{good_products}
use Rattle.commands.proofs.check.checking.check.Goals as goal

pub returns-in-Ok : goal.returns-in-Ok
returns-in-Ok g c =
    calls.wrote c.in-Ok.ensures.inputs good_products _ c.in-Ok.ensures.passed c.in-Ok.ensures.gives
    (printed good_products _ _ _ (none_whole _) c.print.ensures)
