-- What is seen at the gate is what a labelling has there.
use Rattle.std.proofs.Common.{◌<◌, List, length, sym, subst}
use Rattle.pd_base.specs.declared.ids.LineId.{LineId}
use Rattle.state_sets.specs.Narrowing.{GateSets, GivesAtGate, GivesAtPin}
use Rattle.hulls.specs.Sets.{Means, set_at}
use Rattle.hulls.proofs.gate.kept_at.Goals as goal

pub returns-clause-at_pins : goal.returns-clause-at_pins
returns-clause-at_pins g c =
    let a = g.A.Algebra.algebra in let view = c.view_of.result in
    λ pin inside.
    let within : pin < length view.pins.now = subst (λ (p : List LineId). pin < length p) (sym c.view_of.ensures.pins) inside in
    subst (λ (s : GateSets). Means a.count (set_at c.keep.new.scratch pin) (GivesAtPin a s c.args.condition pin)) c.view_of.ensures.sets
    (c.keep.ensures.at_pins pin within)

pub returns-clause-at_gate : goal.returns-clause-at_gate
returns-clause-at_gate g c =
    let a = g.A.Algebra.algebra in
    subst (λ (s : GateSets). Means a.count c.keep.result (GivesAtGate a s c.args.condition)) c.view_of.ensures.sets c.keep.ensures.at_gate
