-- The notes that are left still fall.
use Rattle.std.proofs.Common.{◌≡◌, ◌++◌, length, take, drop, ap, ◌∙◌}
use Rattle.hulls.proofs.Whole.{lent_back}
use Rattle.undo_trail.specs.Undoing.{undone}
use Rattle.undo_trail.proofs.Undoing.{length-undone}
use Rattle.hulls.proofs.BoardCuts.{undone_is}
use Rattle.hulls.proofs.board.Board.undo_to.Goals as goal

pub invariant_of-self : goal.invariant_of-self
invariant_of-self g c =
    let i = c.self.inside in let old = i.labels in let new = c.undo_to.new.values in let mark = c.args.mark in
    let e : new ≡ undone (drop mark i.trail.notes) old =
    c.undo_to.ensures.values ∙ ap (undone (drop mark i.trail.notes)) c.as_mut_slice.ensures.value in
    let same : length new ≡ length old = ap length e ∙ length-undone (drop mark i.trail.notes) old in
    undone_is g.A.Algebra.algebra.count old i.trail.notes i.waiting i.links i.trail.room c.self.invariant mark
    (take (length old) (new ++ drop (length new) old)) (lent_back old new same ∙ e)
    c.undo_to.new.self c.undo_to.ensures.notes c.clear.new.self c.clear.ensures.waiting
