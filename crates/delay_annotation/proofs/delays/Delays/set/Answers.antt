-- One place is written, that of the pin.
use Rattle.std.proofs.Common.{List, ℕ, set, ap}
use Rattle.delay_annotation.proofs.Changing.{set_changes}
use Rattle.delay_annotation.proofs.delays.Delays.set.Goals as goal

pub returns-clause-changes : goal.returns-clause-changes
returns-clause-changes c =
    let place = c.pin_place.result in
    let delays = ap (λ (kept : List ℕ). set kept place c.args.delay) c.self.view_is in
    set_changes c.args.net.now c.args.self.now _ c.args.pin c.args.delay place c.requires.fits
    (record { in_circuit = c.requires.gate; in_gate = c.requires.pin }) c.pin_place.ensures.place delays
