-- By whether there is a condition.
use Rattle.std.proofs.Common.{sym, subst}
use Rattle.hulls.specs.GateViews.{AreKeptAtPins}
use Rattle.hulls.proofs.collecting.collect_kept.Goals as goal

pub returns-in-None-clause-at_pins : goal.returns-in-None-clause-at_pins
returns-in-None-clause-at_pins g c =
    subst (λ condition. AreKeptAtPins g.A.Algebra.algebra c.args.gate.now condition c.collect_freely.new.kept)
    (sym c.in-None.is) c.collect_freely.ensures.at_pins

pub returns-in-Some-clause-at_pins : goal.returns-in-Some-clause-at_pins
returns-in-Some-clause-at_pins g c =
    subst (λ condition. AreKeptAtPins g.A.Algebra.algebra c.args.gate.now condition c.collect_at_step.new.kept)
    (sym c.in-Some.is) c.collect_at_step.ensures.at_pins
