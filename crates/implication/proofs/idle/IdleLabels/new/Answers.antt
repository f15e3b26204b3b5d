-- The labels of all lines are put back after the changes are undone.
use Rattle.std.proofs.Common.{◌≡◌}
use Rattle.hulls.specs.Boards.{OnBoard, IsBoardOf}
use Rattle.implication.proofs.Idling.{still_of, idle_board}
use Rattle.std.proofs.Common.{ap, length, ◌∙◌, arith}
use Rattle.std.proofs.lemmas.Grind.{common_steps}
use Rattle.undo_trail.proofs.Undoing.{length-undone}
use Rattle.implication.proofs.idle.IdleLabels.new.Goals as goal

pub put_labels-requires-clause-lines : goal.put_labels-requires-clause-lines
put_labels-requires-clause-lines g c =
    ap length c.undo_to.ensures.labels
    ∙ length-undone c.settle_idle.new.board.notes c.settle_idle.new.board.labels
    ∙ c.settle_idle.ensures.forward.labelling.one_each

pub invariant_of-result : goal.invariant_of-result
invariant_of-result g c = grind (arith, common_steps)

pub returns-clause-board : goal.returns-clause-board
returns-clause-board g c = grind (arith, common_steps)

pub returns-clause-idle : goal.returns-clause-idle
returns-clause-idle g c =
    let settled = c.settle_idle.new.board in
    let of : IsBoardOf c.args.net.now c.put_labels.new.board =
    still_of c.args.net.now settled c.put_labels.new.board
    (ap (λ (b : OnBoard). b.inside) c.put_labels.ensures ∙ c.undo_to.ensures.inside)
    (ap (λ (b : OnBoard). b.links) c.put_labels.ensures ∙ c.undo_to.ensures.links)
    (ap (λ (b : OnBoard). length b.labels) c.put_labels.ensures ∙ grind (arith, common_steps)) c.settle_idle.ensures.of in
    let copied : c.in_ok-labels.labels.items ≡ settled.labels = c.in_ok-labels.ensures.items ∙ c.labels.ensures.labels in
    idle_board g.A.Algebra.algebra c.args.net.now c.args.rules.now c.args.board.now c.put_labels.new.board c.idle_set-set.result
    c.idle_set-set.ensures.set c.requires.board.closed settled.labels c.settle_idle.ensures.forward of
    (ap (λ (b : OnBoard). b.inside) c.put_labels.ensures ∙ c.undo_to.ensures.inside ∙ c.settle_idle.ensures.board.inside)
    (ap (λ (b : OnBoard). b.notes) c.put_labels.ensures ∙ c.undo_to.ensures.notes)
    (ap (λ (b : OnBoard). b.waiting) c.put_labels.ensures ∙ c.undo_to.ensures.waiting)
    (ap (λ (b : OnBoard). b.labels) c.put_labels.ensures ∙ c.as_slice.ensures.value ∙ copied)
    (record { labels = c.in_ok-labels.labels.items; reached = c.in_ok-reached.reached.lines }) copied
    (ap (λ (r : _). r.lines) c.in_ok-reached.ensures)

pub put_labels-requires-clause-one_each : goal.put_labels-requires-clause-one_each
put_labels-requires-clause-one_each g c = grind (arith, common_steps)
