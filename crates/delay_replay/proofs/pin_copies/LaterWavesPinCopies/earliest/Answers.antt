-- A pin begins as its line.
use Rattle.std.proofs.Common.{sym, ap, ◌∙◌, arith}
use Rattle.delay_replay.specs.Changes.{Changes}
use Rattle.delay_replay.proofs.LaterCopies.{copy_of_read, line_inside, pin_inside}
use Rattle.delay_replay.proofs.pin_copies.LaterWavesPinCopies.earliest.Goals as goal

pub offset_bounds-self-pin : goal.offset_bounds-self-pin
offset_bounds-self-pin c = omega (arith, pin_inside c.args.self.now.delays.now c.args.self.now.lines.now c.args.self.now.waves.now c.requires.can c.args.pin c.requires.pin, c.requires.can.few)

pub bounds-self-pin : goal.bounds-self-pin
bounds-self-pin c = pin_inside c.args.self.now.delays.now c.args.self.now.lines.now c.args.self.now.waves.now c.requires.can c.args.pin c.requires.pin

pub bounds-self-self : goal.bounds-self-self
bounds-self-self c = line_inside c.args.self.now.delays.now c.args.self.now.lines.now c.args.self.now.waves.now c.requires.can c.args.pin c.requires.pin

pub returns : goal.returns
returns c =
    let seen =
    copy_of_read c.args.self.now.delays.now c.args.self.now.lines.now c.args.self.now.waves.now c.requires.can.one_each c.args.pin
    (pin_inside c.args.self.now.delays.now c.args.self.now.lines.now c.args.self.now.waves.now c.requires.can c.args.pin c.requires.pin)
    (line_inside c.args.self.now.delays.now c.args.self.now.lines.now c.args.self.now.waves.now c.requires.can c.args.pin c.requires.pin)
    c.index-self-self.result c.index-self-self.is in
    c.earliest.ensures.before
    ∙ ap (λ (wave : Changes). wave.before) (sym c.index-self-self.is)
    ∙ ap (λ (wave : Changes). wave.before) (sym seen)
