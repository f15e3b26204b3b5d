use Rattle.std.proofs.Common.{take}
use Rattle.pd_io.specs.Seen.{sink_seen}
use Rattle.calls.specs.Parts.{parts_text}
use Rattle.calls.specs.Reports.{HasWholeLine}
use Rattle.calls.proofs.telling.write_parts.Given as goal

-- the parts before this one stand on err
abbrev pub invariant-loop-part : goal.invariant-loop-part
invariant-loop-part g l =
    HasWholeLine (parts_text (take l.part-index l.parts)) (sink_seen g.E.Sink l.initial.err) (sink_seen g.E.Sink l.err)
