-- Each pin is entered, or leads to a conflict, which then stands.
use Rattle.std.proofs.Common.{◌≡◌, length, get_or, refl, sym, ap, ◌∙◌, subst, arith}
use Rattle.std.specs.Prelude.{is_some}
use Rattle.pd_base.specs.declared.ids.PinRef.{PinRef}
use Rattle.netlist.specs.Circuit.{Circuit}
use Rattle.netlist.specs.Paths.{IsPrefix}
use Rattle.implication.specs.declared.assumption.Conflict.{Conflict}
use Rattle.implication.specs.Moves.{grown, closed_at, with_entered}
use Rattle.implication.specs.Standing.{Standing, IsFree, IsOpenIn, IsEmptiedIn}
use Rattle.implication.proofs.AlongPrefix.{ok_of, err_of, err_both, read_pin, all_entered, next_on, next_told, next_entered, next_closed, tells_open, tells_closed}
use Rattle.implication.proofs.Settings.{same_twice, same_itself, same_of_extended, end_told_there}
use Rattle.implication.proofs.engine.Engine.enter_all.Goals as goal

abbrev no_pin : PinRef
no_pin = record { gate = record { 0 = 0 }; pin = 0 }

pub enter-requires-clause-pin : goal.enter-requires-clause-pin
enter-requires-clause-pin g c =
    let prefix = c.args.prefix.now in let items = c.steps-pin-items.result.now in let place = c.loop-pin.pin-index in
    let inv = c.loop-pin.invariant in
    let P : Circuit → Type 0 = λ n. IsPrefix n prefix in
    next_on g.A.Algebra.algebra prefix c.loop-pin.self place (get_or items place no_pin) inv.entered
    (omega (arith, c.loop-pin-test.true, ap length c.steps-pin-items.ensures))
    (read_pin items prefix.steps place no_pin c.steps-pin-items.ensures (omega (arith, c.loop-pin-test.true)))
    (subst P (sym inv.setting.net) c.requires.prefix)

pub enter-requires-clause-told : goal.enter-requires-clause-told
enter-requires-clause-told g c =
    let prefix = c.args.prefix.now in let items = c.steps-pin-items.result.now in let place = c.loop-pin.pin-index in
    let inv = c.loop-pin.invariant in
    let P : Circuit → Type 0 = λ n. IsPrefix n prefix in
    next_told g.A.Algebra.algebra prefix c.loop-pin.self place (get_or items place no_pin) inv.entered
    (omega (arith, c.loop-pin-test.true, ap length c.steps-pin-items.ensures))
    (read_pin items prefix.steps place no_pin c.steps-pin-items.ensures (omega (arith, c.loop-pin-test.true)))
    (subst P (sym inv.setting.net) c.requires.prefix)
    (end_told_there c.args.self.now c.loop-pin.self inv.setting prefix c.requires.told)

pub loop-pin-init : goal.loop-pin-init
loop-pin-init g c = record {
  setting = same_itself c.args.self.now;
  beginning = refl;
  entered = c.requires.start;
  closings = refl;
}

pub loop-pin-preserved : goal.loop-pin-preserved
loop-pin-preserved g c =
    let prefix = c.args.prefix.now in let items = c.steps-pin-items.result.now in let place = c.loop-pin.pin-index in
    let inv = c.loop-pin.invariant in
    let before = c.loop-pin.self in let after = c.enter.new.self in
    let pin = get_or items place no_pin in
    let grows = ok_of c.enter.result (after ≡ grown before (with_entered before.assumptions pin)) c.is_err.result c.is_err.ensures.value
    c.if-is_err.false c.enter.ensures.ok in
    record {
      setting = same_twice c.args.self.now before after inv.setting (same_of_extended before after c.enter.ensures.extends);
      beginning = c.enter.ensures.extends.beginning ∙ inv.beginning;
      entered = next_entered g.A.Algebra.algebra prefix before place pin inv.entered
          (omega (arith, c.loop-pin-test.true, ap length c.steps-pin-items.ensures))
          (read_pin items prefix.steps place no_pin c.steps-pin-items.ensures (omega (arith, c.loop-pin-test.true)))
          after grows
          (ok_of c.enter.result (IsOpenIn g.A.Algebra.algebra after) c.is_err.result c.is_err.ensures.value c.if-is_err.false c.enter.ensures.open);
      closings = ap (λ (s : Standing). s.closings) grows ∙ inv.closings;
    }

pub returns-then-is_err-clause-along : goal.returns-then-is_err-clause-along
returns-then-is_err-clause-along g c =
    let prefix = c.args.prefix.now in let items = c.steps-pin-items.result.now in let place = c.loop-pin.pin-index in
    let inv = c.loop-pin.invariant in
    let before = c.loop-pin.self in let after = c.enter.new.self in
    let pin = get_or items place no_pin in
    let is_free : IsFree before = record { begun = ap is_some inv.entered.beginning; free = inv.entered.free } in
    let closes = err_of c.enter.result (λ (conflict : Conflict). after ≡ closed_at before (with_entered before.assumptions pin) conflict.0)
    c.is_err.result c.is_err.ensures.value c.if-is_err.true (c.enter.ensures.err is_free) in
    next_closed g.A.Algebra.algebra prefix before place pin inv.entered
    (omega (arith, c.loop-pin-test.true, ap length c.steps-pin-items.ensures))
    (read_pin items prefix.steps place no_pin c.steps-pin-items.ensures (omega (arith, c.loop-pin-test.true)))
    c.args.self.now.closings after closes.0.0 closes.1 inv.closings

pub returns-then-is_err-clause-tells : goal.returns-then-is_err-clause-tells
returns-then-is_err-clause-tells g c =
    let inv = c.loop-pin.invariant in
    let before = c.loop-pin.self in let after = c.enter.new.self in
    let pin = get_or c.steps-pin-items.result.now c.loop-pin.pin-index no_pin in
    let is_free : IsFree before = record { begun = ap is_some inv.entered.beginning; free = inv.entered.free } in
    let both = err_of c.enter.result
    (λ (conflict : Conflict). (after ≡ closed_at before (with_entered before.assumptions pin) conflict.0)
    × IsEmptiedIn g.A.Algebra.algebra after conflict.0.0)
    c.is_err.result c.is_err.ensures.value c.if-is_err.true
    (err_both c.enter.result (λ (conflict : Conflict). after ≡ closed_at before (with_entered before.assumptions pin) conflict.0)
    (λ (conflict : Conflict). IsEmptiedIn g.A.Algebra.algebra after conflict.0.0) (c.enter.ensures.err is_free) c.enter.ensures.emptied) in
    tells_closed g.A.Algebra.algebra after both.0.0 (ap (λ (s : Standing). s.conflict) both.1.0) both.1.1

pub returns-clause-along : goal.returns-clause-along
returns-clause-along g c =
    let inv = c.loop-pin.invariant in
    all_entered g.A.Algebra.algebra c.args.prefix.now c.loop-pin.self c.loop-pin.pin-index c.args.self.now.closings inv.entered
    (omega (arith, c.loop-pin.far-pin-index, ap length c.steps-pin-items.ensures))
    (omega (arith, c.loop-pin-test.false, ap length c.steps-pin-items.ensures)) inv.closings

pub returns-clause-tells : goal.returns-clause-tells
returns-clause-tells g c =
    let entered = c.loop-pin.invariant.entered in
    tells_open g.A.Algebra.algebra c.loop-pin.self entered.free entered.left_open
