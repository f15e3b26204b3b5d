-- The last step goes through a gate of the circuit, and leads to its line.
use Rattle.std.proofs.Common.{ap, ◌∙◌}
use Rattle.pd_base.specs.declared.ids.LineId.{LineId}
use Rattle.pd_base.specs.declared.ids.PinRef.{PinRef}
use Rattle.implication.proofs.Entering.{last_gate, last_line}
use Rattle.implication.proofs.engine.line_behind.Goals as goal

abbrev no_step : PinRef
no_step = record { gate = record { 0 = 0 }; pin = 0 }

pub line_of-requires : goal.line_of-requires
line_of-requires c =
    last_gate c.args.net.now c.args.source.0 c.args.steps.now no_step c.requires.connects c.in-len1-up.len_at_least

pub returns-in-len1-up-clause-end : goal.returns-in-len1-up-clause-end
returns-in-len1-up-clause-end c =
    ap (λ (line : LineId). line.0) c.line_of.ensures.line
    ∙ last_line c.args.net.now c.args.source.0 c.args.steps.now no_step c.in-len1-up.len_at_least
