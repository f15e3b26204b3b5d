use Rattle.std.proofs.Common.{◌≡◌, take, drop, length}
use Rattle.undo_trail.specs.Undoing.{undone}
use Rattle.undo_trail.proofs.trail.Trail.undo_to.Given as goal

abbrev pub invariant-loop-self : goal.invariant-loop-self
invariant-loop-self g l = record {
  values : undone (drop l.mark l.self.notes) l.values ≡ undone (drop l.mark l.initial.self.notes) l.initial.values;
  notes : take l.mark l.self.notes ≡ take l.mark l.initial.self.notes;
  room : l.self.room ≡ l.initial.self.room;
}

abbrev pub decreases-loop-self : goal.decreases-loop-self
decreases-loop-self g l = length l.self.notes
