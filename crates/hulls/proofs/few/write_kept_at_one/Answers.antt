-- What is found is written.
use Rattle.std.proofs.Common.{length}
use Rattle.state_sets.specs.Narrowing.{GivesAtPin}
use Rattle.hulls.specs.Sets.{Means}
use Rattle.hulls.specs.GateViews.{sets_seen}
use Rattle.hulls.proofs.OneToThree.{kept_one}
use Rattle.hulls.proofs.few.write_kept_at_one.Goals as goal

pub returns-clause-at_pins : goal.returns-clause-at_pins
returns-clause-at_pins g c =
    let a = g.A.Algebra.algebra in let view = c.args.gate.now in
    kept_one (λ pin kept. Means a.count kept (GivesAtPin a (sets_seen view) c.args.condition pin))
    c.args.kept.now c.keep_one-found.result.first (length view.pins.now) c.requires.one c.requires.kept c.keep_one-found.ensures.first

pub returns-clause-at_gate : goal.returns-clause-at_gate
returns-clause-at_gate g c = c.keep_one-found.ensures.given
