-- What is found is written pin by pin.
use Rattle.std.proofs.Common.{length}
use Rattle.state_sets.specs.Narrowing.{GivesAtPin}
use Rattle.hulls.specs.Sets.{Means}
use Rattle.hulls.specs.GateViews.{sets_seen}
use Rattle.hulls.proofs.OneToThree.{kept_two}
use Rattle.hulls.proofs.few.write_kept_at_two.Goals as goal

pub returns-clause-at_pins : goal.returns-clause-at_pins
returns-clause-at_pins g c =
    let a = g.A.Algebra.algebra in let view = c.args.gate.now in let found = c.keep_two-found.result in
    kept_two (λ pin kept. Means a.count kept (GivesAtPin a (sets_seen view) c.args.condition pin))
    c.args.kept.now found.first found.second (length view.pins.now) c.requires.two c.requires.kept
    c.keep_two-found.ensures.first c.keep_two-found.ensures.second

pub returns-clause-at_gate : goal.returns-clause-at_gate
returns-clause-at_gate g c = c.keep_two-found.ensures.given
