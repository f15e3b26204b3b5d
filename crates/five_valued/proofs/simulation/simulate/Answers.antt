-- Each turn of the loop gives one gate more its value, and after the last turn all lines have theirs. That they hold for
-- every completion is a law of the values.
use Rattle.std.proofs.Common.{ℕ, ◌<◌, List, length, map, ap, ap₂, sym, subst, ◌∙◌, arith}
use Rattle.pd_base.specs.declared.ids.LineId.{LineId}
use Rattle.netlist.specs.Circuit.{kind_at}
use Rattle.state_sets.specs.States.{Has}
use Rattle.state_sets.specs.FourStates.{four_states}
use Rattle.state_sets.specs.LineStates.{state_under}
use Rattle.five_valued.specs.declared.five.Five.{Five}
use Rattle.five_valued.specs.declared.five.Five.TheVariants.{XX}
use Rattle.five_valued.specs.FiveValues.{five_at, gate_five}
use Rattle.five_valued.specs.FiveSets.{states_of}
use Rattle.logic_values.proofs.RankPass.{begun, all_read, one_set}
use Rattle.five_valued.proofs.Completions.{line_holds}
use Rattle.five_valued.proofs.simulation.simulate.Goals as goal

pub loop-gate-init : goal.loop-gate-init
loop-gate-init c =
    let net = c.args.net.now in
    begun net (five_at c.args.partial.now) (λ gate values. gate_five (kind_at net gate) values) (five_at c.set_sources.new.out)
    (λ source inside. c.set_sources.ensures source (omega arith))

pub loop-gate-preserved : goal.loop-gate-preserved
loop-gate-preserved c =
    let net = c.args.net.now in
    let order = c.order-gate-items in
    let out = c.loop-gate.out in
    let value = λ (lines : List LineId). map (λ pin. five_at out pin.0) lines in
    one_set net (five_at c.args.partial.now) (λ gate values. gate_five (kind_at net gate) values)
    c.sources.ensures.circuit order.result.now order.ensures.rank order.ensures.reads
    c.loop-gate.gate-index c.loop-gate-test.true (λ (value : Five). value) XX out _ c.gate_five.result
    (ap (λ (l : LineId). l.0) c.line_of-line.ensures.line) (omega arith)
    (c.gate_five.ensures ∙ ap₂ gate_five c.kind.ensures (ap value c.pins.ensures.pins))
    c.loop-gate.invariant

pub returns : goal.returns
returns c =
    let net = c.args.net.now in
    let partial = c.args.partial.now in
    let out = c.loop-gate.out in
    let order = c.order-gate-items in
    let exactly = λ (line : ℕ) (within : line < length out).
    all_read net (five_at partial) (λ gate values. gate_five (kind_at net gate) values)
    order.result.now order.ensures.rank c.loop-gate.gate-index c.loop-gate-test.false (five_at out)
    c.loop-gate.invariant line (omega arith) in
    record {
      exactly = exactly;
      completions = λ pair sources line within.
          subst (λ v. Has 4 (states_of v) (state_under four_states net pair line)) (sym (exactly line within))
          (line_holds net c.sources.ensures.circuit pair partial
          (λ source inside. sources source (omega arith)) line (omega arith));
    }
