-- There is a copy for each pin.
use Rattle.std.proofs.Common.{sym}
use Rattle.delay_replay.proofs.LaterCopies.{length-copies}
use Rattle.delay_replay.proofs.pin_copies.LaterWavesPinCopies.pins.Goals as goal

pub returns : goal.returns
returns c =
    let s = c.args.self.now in
    sym (length-copies s.delays.now s.lines.now s.waves.now c.requires.one_each)
