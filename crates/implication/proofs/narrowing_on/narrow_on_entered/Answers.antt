-- The board is ready under the condition of a pin more, once its gate waits.
use Rattle.std.proofs.Common.{ap, ◌∙◌, subst}
use Rattle.hulls.specs.Boards.{OnBoard, Follows}
use Rattle.implication.specs.Kept.{IsSettledFrom}
use Rattle.implication.proofs.NarrowingOn.{ready_entered}
use Rattle.implication.proofs.narrowing_on.narrow_on_entered.Goals as goal

pub settle-requires-clause-ready : goal.settle-requires-clause-ready
settle-requires-clause-ready g c =
    ready_entered g.A.Algebra.algebra c.args.net.now c.args.board.now c.args.conditions.now c.requires.ready c.args.pin c.ask.new.self
    c.enter.new.self c.enter.ensures c.ask.ensures.labels c.ask.ensures.stays c.ask.ensures.waits

pub returns-clause-settled : goal.returns-clause-settled
returns-clause-settled g c =
    let P : OnBoard → Type 0 = λ b. IsSettledFrom g.A.Algebra.algebra c.args.net.now b.inside b.links c.enter.new.self.kind c.enter.new.self.steps
    b.labels c.settle.new.self.labels c.settle.result in
    subst P c.ask.ensures.labels (record {
      hull = c.settle.ensures.hull;
      none_empty = c.settle.ensures.none_empty;
      emptied = c.settle.ensures.emptied;
    })

pub returns-clause-board : goal.returns-clause-board
returns-clause-board g c =
    let P : OnBoard → Type 0 = λ b. Follows b c.settle.new.self in
    let follows = subst P c.ask.ensures.labels c.settle.ensures.narrowed.follows in
    record {
      inside = c.settle.ensures.narrowed.inside ∙ ap (λ (b : OnBoard). b.inside) c.ask.ensures.labels;
      links = c.settle.ensures.narrowed.links ∙ ap (λ (b : OnBoard). b.links) c.ask.ensures.labels;
      follows = record { more = follows.more; notes = follows.notes; back = follows.back };
      at_rest = c.settle.ensures.waiting;
    }
