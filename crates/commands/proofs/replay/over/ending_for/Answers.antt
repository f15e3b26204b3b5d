-- The test and the name of its line are named.
use Rattle.std.proofs.Common.{ap, ◌∙◌}
use Rattle.calls.specs.declared.ending.Ending.TheVariants as ended
use Rattle.commands.specs.TestChanges.{changes_too_often}
use Rattle.commands.specs.Inside.ReplayEndings as endings
use Rattle.commands.proofs.replay.over.ending_for.Goals as goal

pub returns-in-Ok : goal.returns-in-Ok
returns-in-Ok c =
    let number = c.in-TooManyChanges.number in
    endings.told number c.in-TooManyChanges.line.0 c.in-TooManyChanges.is
    (ap ended.Refused (c.changes_too_often.ensures ∙ ap (changes_too_often number) (c.in-Ok.ensures ∙ c.name.ensures)))
