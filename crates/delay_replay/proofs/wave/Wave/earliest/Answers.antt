-- Before all changes none has come.
use Rattle.std.proofs.Common.{sym, ap, ◌∙◌}
use Rattle.delay_replay.specs.Changes.{Changes}
use Rattle.delay_replay.proofs.Turning.{at_earliest}
use Rattle.delay_replay.proofs.wave.Wave.earliest.Goals as goal

pub returns-clause-always : goal.returns-clause-always
returns-clause-always c =
    λ time later. at_earliest c.args.self.now time later ∙ ap (λ (w : Changes). w.before) (sym c.self.view_is)
