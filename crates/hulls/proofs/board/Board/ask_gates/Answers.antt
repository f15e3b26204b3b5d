-- One gate more.
use Rattle.std.proofs.Common.{◌≡◌, true, get_or, take, ap, ◌∙◌, subst, arith}
use Rattle.std.specs.List.{All, Contains}
use Rattle.std.proofs.lemmas.List.{take_all}
use Rattle.std.proofs.lemmas.List.Elements.{All-more, All-weaker, All-contains}
use Rattle.pd_base.specs.declared.ids.GateId.{GateId}
use Rattle.hulls.specs.Awaiting.{is_inside, gate_turn}
use Rattle.hulls.specs.Boards.{OnBoard}
use Rattle.hulls.proofs.board.Board.ask_gates.Goals as goal

pub loop-gate-preserved : goal.loop-gate-preserved
loop-gate-preserved g c =
    let order = c.order-gate-items.result.now in let at = c.loop-gate.gate-index in let none : GateId = record { 0 = 0 } in
    let inside = c.args.self.now.inside in let old = c.loop-gate.self.waiting in let new = c.ask.new.self.waiting in
    record {
      same = c.ask.ensures.labels ∙ ap (λ (b : OnBoard). let n : OnBoard = record b { waiting = new } in n) c.loop-gate.invariant.same;
      waits = All-more (λ (gate : GateId). is_inside inside gate.0 ≡ true → Contains new (gate_turn gate.0)) order at none (omega arith)
          (All-weaker (λ (gate : GateId). is_inside inside gate.0 ≡ true → Contains old (gate_turn gate.0))
          (λ (gate : GateId). is_inside inside gate.0 ≡ true → Contains new (gate_turn gate.0))
          (λ gate waits here. c.ask.ensures.stays (gate_turn gate.0) (waits here)) (take at order) c.loop-gate.invariant.waits)
          (λ here. c.ask.ensures.waits (ap (λ (b : OnBoard). is_inside b.inside (get_or order at none).0) c.loop-gate.invariant.same ∙ here));
    }

pub returns-clause-waits : goal.returns-clause-waits
returns-clause-waits g c =
    let order = c.order-gate-items.result.now in let inside = c.args.self.now.inside in
    λ gate within. All-contains (λ (g : GateId). is_inside inside g.0 ≡ true → Contains c.loop-gate.self.waiting (gate_turn g.0)) order (record { 0 = gate })
    (subst (All (λ (g : GateId). is_inside inside g.0 ≡ true → Contains c.loop-gate.self.waiting (gate_turn g.0)))
    (take_all c.loop-gate.gate-index order (omega arith)) c.loop-gate.invariant.waits)
    (c.order-gate-items.ensures.rank.whole gate within)
