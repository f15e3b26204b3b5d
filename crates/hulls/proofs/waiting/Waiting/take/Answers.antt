-- The flag of the first in the queue goes down.
use Rattle.std.proofs.Common.{false, sym, subst}
use Rattle.std.proofs.Math.ListN.{set}
use Rattle.hulls.specs.Awaiting.{IsFlagged}
use Rattle.hulls.proofs.Flags.{popped}
use Rattle.hulls.proofs.waiting.Waiting.take.Goals as goal

pub invariant_of-self : goal.invariant_of-self
invariant_of-self c = let i = c.self.inside in
    subst (IsFlagged i.inside.items (set i.flags.items c.take-turn.result.0 false) c.take-turn.new.self.turns)
    (sym c.take-turn.ensures.room)
    (popped i.inside.items i.flags.items i.queue.turns i.queue.room c.self.invariant c.take-turn.result c.take-turn.new.self.turns
    c.take-turn.ensures.turns)
