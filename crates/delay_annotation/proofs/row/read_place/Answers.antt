-- The first of the two fields that means nothing is the reason.
use Rattle.std.proofs.Common.{subst}
use Rattle.delay_annotation.specs.Rows.{MeansGates, MeansPins}
use Rattle.delay_annotation.specs.Rows.RefusesPlace.{no_gates, no_pins}
use Rattle.delay_annotation.specs.declared.setting.Gates.{Gates}
use Rattle.delay_annotation.specs.declared.setting.Pins.{Pins}
use Rattle.delay_annotation.proofs.row.read_place.Goals as goal

pub returns-in_default : goal.returns-in_default
returns-in_default c =
    let net = c.args.net.now in
    no_gates (subst (λ text. (meant : Gates) → ¬ MeansGates net text meant) c.trimmed.ensures c.in_default.ensures)

pub returns-in_default-read_pins : goal.returns-in_default-read_pins
returns-in_default-read_pins c =
    let net = c.args.net.now in
    let meant = c.in-Some.gates in
    no_pins meant (subst (λ text. MeansGates net text meant) c.trimmed.ensures c.in-Some.ensures)
    (subst (λ text. (pins : Pins) → ¬ MeansPins net text meant pins) c.trimmed-2.ensures c.in_default-read_pins.ensures)
