-- The lines reached get their idle labels back.
use Rattle.std.proofs.Common.{ap, sym, length, ◌∙◌, arith}
use Rattle.std.proofs.lemmas.Grind.{common_steps}
use Rattle.undo_trail.proofs.Undoing.{length-undone}
use Rattle.implication.specs.Idling.{Idling}
use Rattle.implication.proofs.idle.IdleLabels.end.Goals as goal

pub give_back-requires-clause-one_each : goal.give_back-requires-clause-one_each
give_back-requires-clause-one_each g c =
    let stands = c.requires.stands.2 in
    ap length c.undo_to.ensures.labels
    ∙ length-undone c.args.board.now.notes c.args.board.now.labels ∙ stands.of.lines ∙ sym stands.forward.labelling.one_each
    ∙ sym (ap (λ (i : Idling). length i.labels) c.self.view_is) ∙ sym (ap length c.as_slice.ensures.value)

pub returns-clause-idle : goal.returns-clause-idle
returns-clause-idle g c = grind (arith, common_steps)
