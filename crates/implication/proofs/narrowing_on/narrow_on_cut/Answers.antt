-- A board that was cut is settled, where the line has some state left.
use Rattle.std.proofs.Common.{refl, sym, ap, ◌∙◌, subst}
use Rattle.hulls.specs.Boards.{OnBoard}
use Rattle.state_sets.specs.Labellings.{label_at}
use Rattle.hulls.proofs.Narrowed.{is_none, is_some}
use Rattle.implication.specs.Kept.{IsNarrowedToRest}
use Rattle.implication.proofs.NarrowingOn.{ready_cut, emptied_cut, settled_cut, narrowed_cut, follows_cut}
use Rattle.implication.proofs.narrowing_on.narrow_on_cut.Goals as goal

pub settle-requires-clause-ready : goal.settle-requires-clause-ready
settle-requires-clause-ready g c =
    ready_cut g.A.Algebra.algebra c.args.net.now c.args.board.now c.args.conditions.now c.requires.ready c.args.line c.args.set
    c.requires.line c.cut.new.self c.cut.ensures.cut
    (is_some c.eq.result c.cut.result (label_at c.cut.new.self.labels c.args.line.0) c.eq.ensures c.if-eq.false c.cut.ensures.left)

pub returns-then-eq-clause-narrowed : goal.returns-then-eq-clause-narrowed
returns-then-eq-clause-narrowed g c =
    let a = g.A.Algebra.algebra in
    narrowed_cut a c.args.net.now c.args.board.now c.args.conditions.now c.requires.ready c.args.line c.args.set
    c.requires.line c.cut.new.self c.cut.ensures.cut c.cut.new.self.labels _
    (emptied_cut a c.args.net.now c.args.board.now c.args.conditions.now c.requires.ready c.args.line c.args.set
    c.requires.line c.cut.new.self c.cut.ensures.cut
    (is_none c.eq.result c.cut.result (label_at c.cut.new.self.labels c.args.line.0) c.eq.ensures c.if-eq.true c.cut.ensures.left)
    c.cut.new.self.labels)
    c.rest.new.self (ap (λ (b : OnBoard). b.labels) c.rest.ensures)

pub returns-clause-narrowed : goal.returns-clause-narrowed
returns-clause-narrowed g c =
    let a = g.A.Algebra.algebra in
    narrowed_cut a c.args.net.now c.args.board.now c.args.conditions.now c.requires.ready c.args.line c.args.set
    c.requires.line c.cut.new.self c.cut.ensures.cut c.settle.new.self.labels c.settle.result
    (settled_cut a c.args.net.now c.args.board.now c.args.conditions.now c.requires.ready c.args.line c.args.set
    c.requires.line c.cut.new.self c.cut.ensures.cut c.settle.new.self c.settle.result c.settle.ensures.hull
    c.settle.ensures.none_empty c.settle.ensures.emptied)
    c.settle.new.self refl

pub returns-then-eq-clause-board : goal.returns-then-eq-clause-board
returns-then-eq-clause-board g c =
    let cut = c.cut.ensures.cut in
    subst (λ (b : OnBoard). IsNarrowedToRest c.args.board.now b) (sym c.rest.ensures) (record {
      inside = cut.inside;
      links = cut.links;
      follows = record { more = cut.follows.more; notes = cut.follows.notes; back = cut.follows.back };
      at_rest = refl;
    })

pub returns-clause-board : goal.returns-clause-board
returns-clause-board g c = record {
  inside = c.settle.ensures.narrowed.inside ∙ c.cut.ensures.cut.inside;
  links = c.settle.ensures.narrowed.links ∙ c.cut.ensures.cut.links;
  follows = follows_cut g.A.Algebra.algebra.count c.args.net.now c.args.line.0 c.args.set c.args.board.now c.cut.new.self c.settle.new.self
      c.cut.ensures.cut c.settle.ensures.narrowed.follows;
  at_rest = c.settle.ensures.waiting;
}
