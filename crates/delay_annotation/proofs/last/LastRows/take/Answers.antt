-- The setting is kept at the place of its form.
use Rattle.std.proofs.Common.{refl, subst}
use Rattle.delay_annotation.specs.LastRows.{AreOfCircuit}
use Rattle.delay_annotation.proofs.Keeping.{keeps_all, keeps_gate, keeps_number, keeps_pin}
use Rattle.delay_annotation.proofs.last.LastRows.take.Goals as goal

pub returns-in-All-clause-takes : goal.returns-in-All-clause-takes
returns-in-All-clause-takes c =
    keeps_all c.args.net.now c.args.self.now _ c.args.row c.args.setting c.in-All.is refl refl refl refl

pub returns-in-OfGate-clause-takes : goal.returns-in-OfGate-clause-takes
returns-in-OfGate-clause-takes c =
    keeps_gate c.args.net.now c.args.self.now _ c.args.row c.args.setting c.in-OfGate.gate c.requires.places
    (subst (AreOfCircuit c.args.net.now) c.in-OfGate.is c.requires.pins) c.in-OfGate.is refl refl refl refl

pub returns-in-Numbered-clause-takes : goal.returns-in-Numbered-clause-takes
returns-in-Numbered-clause-takes c =
    keeps_number c.args.net.now c.args.self.now _ c.args.row c.args.setting c.in-Numbered.pin c.requires.places
    (subst (AreOfCircuit c.args.net.now) c.in-Numbered.is c.requires.pins) c.in-Numbered.is refl refl refl refl

pub returns-in-One-clause-takes : goal.returns-in-One-clause-takes
returns-in-One-clause-takes c =
    keeps_pin c.args.net.now c.args.self.now _ c.args.row c.args.setting c.in-One.pin c.pin_place-place.result c.requires.places
    (subst (AreOfCircuit c.args.net.now) c.in-One.is c.requires.pins) c.pin_place-place.ensures.place c.in-One.is
    refl refl refl refl
