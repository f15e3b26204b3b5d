-- One gate more is looked at: it is listed where it waits for none.
use Rattle.std.proofs.Common.{◌≡◌, ◌+◌, [], ◌∷◌, ◌++◌, All, refl, sym, subst, ◌∙◌}
use Rattle.std.proofs.lemmas.List.Elements.{All-push}
use Rattle.pd_base.specs.declared.ids.GateId.{GateId}
use Rattle.net_builder.specs.Progress.{WaitsForNone}
use Rattle.net_builder.proofs.Idle.{ListsIdle, idle_listed, idle_passed}
use Rattle.net_builder.proofs.progress.idle_gates.Goals as goal
use Rattle.net_builder.proofs.progress.idle_gates.Goals.{then-left-eq0+in_ok-push, else-left-eq0}

pub loop-gate-preserved : goal.loop-gate-preserved
loop-gate-preserved c =
    let waits = c.args.waits.now in
    let gate = c.loop-gate.gate in
    let ready = c.loop-gate.ready.items in
    let now = c.if-left-eq0.ready.items in
    let here : GateId = record { 0 = gate } in
    let so_far = c.loop-gate.invariant in
    elim c.if-left-eq0.branch [
      | then-left-eq0+in_ok-push w ↦
          let listed : now ≡ ready ++ here ∷ [] = (λ i. (w.ready-is i).items) ∙ w.in_ok-push.ensures.items in
          record {
            idle = subst (All (WaitsForNone waits)) (sym listed)
                (All-push (WaitsForNone waits) ready here so_far.idle (c.loop-gate-test.true, w.if-left-eq0.true));
            whole = subst (λ l. ListsIdle waits l (gate + 1)) (sym listed) (idle_listed waits ready gate so_far.whole here refl);
          }
      | else-left-eq0 w ↦
          let same : now ≡ ready = (λ i. (w.ready-is i).items) in
          record {
            idle = subst (All (WaitsForNone waits)) (sym same) so_far.idle;
            whole = subst (λ l. ListsIdle waits l (gate + 1)) (sym same)
                (idle_passed waits ready gate so_far.whole w.if-left-eq0.false);
          }
    ]
