-- Where the changes are too many with those counted before, they are those of the gate's wave.
use Rattle.std.proofs.Common.{◌+◌, ◌<◌, length, ap, arith}
use Rattle.std.proofs.lemmas.Bool.Decides.{nat_tests}
use Rattle.pd_base.specs.declared.ids.LineId.{LineId}
use Rattle.delay_replay.specs.declared.line_waves.TheConstants.{MOST_CHANGES_OF_ALL}
use Rattle.delay_replay.specs.ReplayTurns.IsOver.{together}
use Rattle.delay_replay.proofs.line_waves.next_wave.Goals as goal

pub returns-then-over-clause-refused : goal.returns-then-over-clause-refused
returns-then-over-clause-refused g c =
    let same = ap length c.changes.ensures.times in
    let test = c.if-over.true in
    let more : MOST_CHANGES_OF_ALL < c.args.total + length c.changes.result.now = grind (arith, nat_tests) in
    (ap (λ (l : LineId). l.0) c.line_of-line.ensures.line, together c.in-Ok.wave c.in-Ok.ensures.wave (omega arith))
