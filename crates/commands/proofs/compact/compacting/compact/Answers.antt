-- The products were written, or not.
use Rattle.calls.specs.Calls as calls
use Rattle.commands.proofs.compact.compacting.compact.Goals as goal

pub returns-in-Ok : goal.returns-in-Ok
returns-in-Ok g c =
    calls.wrote c.in-Ok.ensures.prepares.inputs _ _ c.in-Ok.ensures.prepares.passed c.in-Ok.ensures.prepares.gives c.write_kept.ensures
