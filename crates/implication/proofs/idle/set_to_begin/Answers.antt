-- The line of a gate begins with what the gate makes of the sets of its pins' lines.
use Rattle.std.proofs.Common.{◌≡◌, ℕ, List, map, subst, arith}
use Rattle.pd_base.specs.declared.ids.LineId.{LineId}
use Rattle.netlist.specs.declared.kind.GateKind.{GateKind}
use Rattle.netlist.specs.Circuit.{kind_at, pins_at}
use Rattle.state_sets.specs.Labellings.{label_at}
use Rattle.implication.specs.Begun.{IsImage}
use Rattle.implication.proofs.idle.set_to_begin.Goals as goal

pub returns-in-Some-clause-begun : goal.returns-in-Some-clause-begun
returns-in-Some-clause-begun g c =
    let a = g.A.Algebra.algebra in let net = c.args.net.now in let labels = c.args.labels.now in let set = c.image.result in
    let at = c.in-Some.ensures.1 in
    let image : IsImage a (kind_at net c.in-Some.gate.0) (map (λ pin. label_at labels pin.0) (pins_at net c.in-Some.gate.0)) set =
    subst (λ (kind : GateKind). IsImage a kind (map (λ pin. label_at labels pin.0) (pins_at net c.in-Some.gate.0)) set) c.kind.ensures
    (subst (λ (pins : List LineId). IsImage a c.kind.result (map (λ pin. label_at labels pin.0) pins) set) c.pins.ensures.pins
    c.image.ensures.image) in
    record {
      source = λ below. absurd (omega arith);
      gate = λ gate within is.
          let one : c.in-Some.gate.0 ≡ gate = omega arith in
          subst (λ (n : ℕ). IsImage a (kind_at net n) (map (λ pin. label_at labels pin.0) (pins_at net n)) set) one image;
    }
