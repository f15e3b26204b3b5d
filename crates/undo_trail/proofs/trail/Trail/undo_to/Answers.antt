-- One write more is undone, and at the end all since the mark.
use Rattle.std.proofs.Common.{◌-◌, ◌<◌, ◌≤◌, List, length, take, drop, sym, ap, ◌∙◌, arith}
use Rattle.std.proofs.lemmas.List.{take-take, drop_all}
use Rattle.undo_trail.specs.declared.trail.Note.{Note}
use Rattle.undo_trail.specs.Noted.{Noted}
use Rattle.undo_trail.specs.Undoing.{undone}
use Rattle.undo_trail.proofs.Undoing.{undone_last, undone_noted}
use Rattle.undo_trail.proofs.trail.Trail.undo_to.Goals as goal

pub loop-self-preserved : goal.loop-self-preserved
loop-self-preserved g c =
    let T = g.row.T.Denot in let mark = c.args.mark in let notes = c.loop-self.self.notes in let n = length notes - 1 in
    let below : mark < length notes = let e = c.mark.ensures in let t = c.loop-self-test.true in omega arith in
    record {
      values = ap (λ (t : Noted T). undone (drop mark t.notes) c.undo_last.new.values) c.undo_last.ensures.notes
          ∙ ap (undone (drop mark (take n notes))) c.undo_last.ensures.values
          ∙ undone_last notes c.loop-self.values mark n (omega arith) (omega arith) ∙ c.loop-self.invariant.values;
      notes = ap (λ (t : Noted T). take mark t.notes) c.undo_last.ensures.notes
          ∙ take-take mark n notes (omega arith) ∙ c.loop-self.invariant.notes;
      room = ap (λ (t : Noted T). t.room) c.undo_last.ensures.notes ∙ c.loop-self.invariant.room;
    }

pub returns-clause-before : goal.returns-clause-before
returns-clause-before g c =
    let T = g.row.T.Denot in let mark = c.args.mark in let notes = c.loop-self.self.notes in
    let done : length notes ≤ mark = let e = c.mark.ensures in let t = c.loop-self-test.false in omega arith in
    λ before noted. sym (ap (λ (ns : List (Note T)). undone ns c.loop-self.values) (drop_all mark notes done))
    ∙ c.loop-self.invariant.values ∙ undone_noted (drop mark c.args.self.now.notes) before c.args.values.now noted
