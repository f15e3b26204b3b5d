-- An assumption more: there is room for it, and what stood stands with it.
use Rattle.std.proofs.Common.{rules, ◌<◌, Some, None, length, vec_capacity, refl}
use Rattle.implication.proofs.Keeping.{add_room, add_befores_room, add_left, add_step, add_ready, add_entered, add_pins, add_line, added}
use Rattle.implication.proofs.Wholes.{open_of, emptied_of}
use Rattle.implication.proofs.engine.Engine.add.Goals as goal

pub push_reserved-requires : goal.push_reserved-requires
push_reserved-requires g c =
    let room : length c.self.inside.lists.befores.items < vec_capacity c.self.inside.lists.befores =
    add_befores_room g.A.Algebra.algebra c.self.invariant.0 c.args.self.now c.self.view_is c.requires.begun c.requires.free c.args.entry
    c.requires.fits in
    search rules

pub push_reserved-requires-2 : goal.push_reserved-requires-2
push_reserved-requires-2 g c =
    let room : length c.self.inside.lists.assumptions.items < vec_capacity c.self.inside.lists.assumptions =
    add_room g.A.Algebra.algebra c.self.invariant.0 c.args.self.now c.self.view_is c.requires.begun c.requires.free c.args.entry
    c.requires.fits in
    search rules

pub take_from-requires : goal.take_from-requires
take_from-requires g c =
    add_left g.A.Algebra.algebra c.self.invariant.0 c.args.self.now c.self.view_is c.requires.begun c.requires.free c.args.entry c.requires.fits

pub narrow_on-emptied-requires-clause-ready : goal.narrow_on-emptied-requires-clause-ready
narrow_on-emptied-requires-clause-ready g c =
    add_ready g.A.Algebra.algebra c.self.invariant.0 c.args.self.now c.self.view_is c.requires.begun c.requires.free c.args.entry c.requires.fits
    c.netlist.result.now c.netlist.ensures

pub narrow_on-emptied-requires-clause-entered : goal.narrow_on-emptied-requires-clause-entered
narrow_on-emptied-requires-clause-entered g c =
    add_entered g.A.Algebra.algebra c.self.invariant.0 c.args.self.now c.self.view_is c.requires.begun c.requires.free c.args.entry
    c.requires.fits c.netlist.result.now c.netlist.ensures

pub narrow_on-emptied-requires-clause-step : goal.narrow_on-emptied-requires-clause-step
narrow_on-emptied-requires-clause-step g c =
    add_step g.A.Algebra.algebra c.self.invariant.0 c.args.self.now c.self.view_is c.requires.begun c.requires.free c.args.entry c.requires.fits

pub narrow_on-emptied-requires-clause-pins : goal.narrow_on-emptied-requires-clause-pins
narrow_on-emptied-requires-clause-pins g c =
    add_pins g.A.Algebra.algebra c.self.invariant.0 c.args.self.now c.self.view_is c.requires.begun c.requires.free c.args.entry c.requires.fits
    c.netlist.result.now c.netlist.ensures

pub narrow_on-emptied-requires-clause-line : goal.narrow_on-emptied-requires-clause-line
narrow_on-emptied-requires-clause-line g c =
    add_line g.A.Algebra.algebra c.self.invariant.0 c.args.self.now c.self.view_is c.requires.begun c.requires.free c.args.entry c.requires.fits
    c.netlist.result.now c.netlist.ensures

pub invariant_of-self : goal.invariant_of-self
invariant_of-self g c = (
  added g.A.Algebra.algebra c.self.invariant.0 c.args.self.now c.self.view_is c.requires.begun c.requires.free c.args.entry c.requires.fits
      c.netlist.result.now c.netlist.ensures (record { changes = c.mark-changes.result; left = c.args.left }) c.mark-changes.ensures
      c.requires.left c.narrow_on-emptied.new.board c.narrow_on-emptied.ensures.board.inside c.narrow_on-emptied.ensures.board.links c.narrow_on-emptied.ensures.board.follows
      c.narrow_on-emptied.ensures.board.at_rest c.narrow_on-emptied.new.conditions c.narrow_on-emptied.ensures.steps c.narrow_on-emptied.result
      c.narrow_on-emptied.ensures.narrowed c.push_reserved-2.new.self.items c.push_reserved-2.ensures.items c.push_reserved.new.self.items
      c.push_reserved.ensures.items c.take_from.new.left.items c.take_from.ensures (vec_capacity c.push_reserved-2.new.self)
      (vec_capacity c.push_reserved.new.self) c.push_reserved-2.ensures.capacity c.push_reserved.ensures.capacity c.self.inside.closings,
  c.self.invariant.1,
)

pub invariant_of-self-in-Some : goal.invariant_of-self-in-Some
invariant_of-self-in-Some g c = (
  added g.A.Algebra.algebra c.self.invariant.0 c.args.self.now c.self.view_is c.requires.begun c.requires.free c.args.entry c.requires.fits
      c.netlist.result.now c.netlist.ensures (record { changes = c.mark-changes.result; left = c.args.left }) c.mark-changes.ensures
      c.requires.left c.narrow_on-emptied.new.board c.narrow_on-emptied.ensures.board.inside c.narrow_on-emptied.ensures.board.links c.narrow_on-emptied.ensures.board.follows
      c.narrow_on-emptied.ensures.board.at_rest c.narrow_on-emptied.new.conditions c.narrow_on-emptied.ensures.steps c.narrow_on-emptied.result
      c.narrow_on-emptied.ensures.narrowed c.push_reserved-2.new.self.items c.push_reserved-2.ensures.items c.push_reserved.new.self.items
      c.push_reserved.ensures.items c.take_from.new.left.items c.take_from.ensures (vec_capacity c.push_reserved-2.new.self)
      (vec_capacity c.push_reserved.new.self) c.push_reserved-2.ensures.capacity c.push_reserved.ensures.capacity
      c.saturating_add-self-inside.result,
  c.self.invariant.1,
)

pub returns-in-None-clause-open : goal.returns-in-None-clause-open
returns-in-None-clause-open g c =
    open_of g.A.Algebra.algebra g.met.A.Algebra.laws (invariant_of-self g c).0 _ refl None c.in-None.is

pub returns-in-Some-clause-emptied : goal.returns-in-Some-clause-emptied
returns-in-Some-clause-emptied g c =
    emptied_of g.A.Algebra.algebra g.met.A.Algebra.laws (invariant_of-self-in-Some g c).0 _ refl (Some c.in-Some.line) c.in-Some.is
