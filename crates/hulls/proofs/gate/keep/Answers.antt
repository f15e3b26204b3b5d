-- Three pins without a condition are told so.
use Rattle.std.proofs.Common.{sym, subst}
use Rattle.hulls.specs.GateViews.{AreKeptAtPins, IsGivenAtGate}
use Rattle.hulls.proofs.FewPins.{none_there}
use Rattle.hulls.proofs.gate.keep.Goals as goal

pub returns-in-3-clause-at_pins : goal.returns-in-3-clause-at_pins
returns-in-3-clause-at_pins g c =
    subst (λ condition. AreKeptAtPins g.A.Algebra.algebra c.args.gate.now condition c.write_kept_at_three.new.kept)
    (sym (none_there c.args.condition c.is_none.result c.is_none.ensures c.if-is_none.true)) c.write_kept_at_three.ensures.at_pins

pub returns-in-3-clause-at_gate : goal.returns-in-3-clause-at_gate
returns-in-3-clause-at_gate g c =
    subst (λ condition. IsGivenAtGate g.A.Algebra.algebra c.args.gate.now condition c.write_kept_at_three.result)
    (sym (none_there c.args.condition c.is_none.result c.is_none.ensures c.if-is_none.true)) c.write_kept_at_three.ensures.at_gate
