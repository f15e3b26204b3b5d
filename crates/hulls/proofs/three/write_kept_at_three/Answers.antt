-- What is found is written pin by pin.
use Rattle.std.proofs.Common.{length, None}
use Rattle.state_sets.specs.Narrowing.{GivesAtPin}
use Rattle.hulls.specs.Sets.{Means}
use Rattle.hulls.specs.GateViews.{sets_seen}
use Rattle.hulls.proofs.OneToThree.{kept_three}
use Rattle.hulls.proofs.three.write_kept_at_three.Goals as goal

pub returns-clause-at_pins : goal.returns-clause-at_pins
returns-clause-at_pins g c =
    let a = g.A.Algebra.algebra in let view = c.args.gate.now in let found = c.keep_three_freely-found.result in
    kept_three (λ pin kept. Means a.count kept (GivesAtPin a (sets_seen view) None pin))
    c.args.kept.now found.first found.second found.third (length view.pins.now) c.requires.three c.requires.kept
    c.keep_three_freely-found.ensures.first c.keep_three_freely-found.ensures.second
    c.keep_three_freely-found.ensures.third
