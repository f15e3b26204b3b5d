-- The pin is on the line that was reached. A conflict at it closes the start of the path up to it.
use Rattle.std.proofs.Common.{get_or, length, ap, ◌∙◌}
use Rattle.std.proofs.lemmas.List.{length-map}
use Rattle.pd_base.specs.declared.ids.PinRef.{PinRef}
use Rattle.implication.specs.declared.assumption.Assumption.TheVariants.{Entered}
use Rattle.implication.specs.Scopes.{standing}
use Rattle.prefix_sensitize.proofs.AlongPaths.{entered_more, free_along, left_again, pin_on, pin_read, told_on, tried_closes}
use Rattle.prefix_sensitize.proofs.descent.Descent.enter.Goals as goal

abbrev no_pin : PinRef
no_pin = record { gate = record { 0 = 0 }; pin = 0 }

pub enter-requires-clause-pin : goal.enter-requires-clause-pin
enter-requires-clause-pin g c =
    let path = c.args.path.now in
    pin_on g.A.Algebra.algebra (standing c.args.scope.now) c.args.self.now path c.args.count (get_or c.steps.result.now c.args.count no_pin)
    c.requires.along c.requires.at c.requires.more
    (pin_read c.steps.result.now path.steps c.args.count no_pin c.steps.ensures c.requires.more)

pub enter-requires-clause-told : goal.enter-requires-clause-told
enter-requires-clause-told g c =
    let path = c.args.path.now in
    told_on g.A.Algebra.algebra (standing c.args.scope.now) c.args.self.now path c.args.count (get_or c.steps.result.now c.args.count no_pin)
    c.requires.along c.requires.at c.requires.more
    (pin_read c.steps.result.now path.steps c.args.count no_pin c.steps.ensures c.requires.more)

pub returns-in-Err-clause-tried : goal.returns-in-Err-clause-tried
returns-in-Err-clause-tried g c =
    let path = c.args.path.now in
    let before = standing c.args.scope.now in
    let pin = get_or c.steps.result.now c.args.count no_pin in
    let is = pin_read c.steps.result.now path.steps c.args.count no_pin c.steps.ensures c.requires.more in
    let closes = c.in-Err.ensures.tells.err (free_along g.A.Algebra.algebra before path c.requires.along c.requires.at.free) in (
      left_again g.A.Algebra.algebra before c.args.self.now path c.args.count pin c.requires.along c.requires.at c.requires.more is
          (standing c.enter.new.self) c.in-Err.field-0.0 closes (standing c.back_to.new.self) c.mark-mark.result.at c.mark-mark.ensures
          c.back_to.ensures.back,
      tried_closes g.A.Algebra.algebra before c.args.self.now path c.args.count pin c.requires.along c.requires.at c.requires.more is
          (standing c.enter.new.self) c.in-Err.field-0.0 closes c.in-Err.ensures.tells.emptied,
    )

pub note-requires : goal.note-requires
note-requires g c = c.mark-mark.ensures ∙ ap length c.requires.at.entered ∙ length-map c.args.self.now Entered

pub returns-in_ok-note-in-Ok-clause-tried : goal.returns-in_ok-note-in-Ok-clause-tried
returns-in_ok-note-in-Ok-clause-tried g c =
    let path = c.args.path.now in
    entered_more g.A.Algebra.algebra (standing c.args.scope.now) c.args.self.now path c.args.count (get_or c.steps.result.now c.args.count no_pin)
    c.requires.along c.requires.at c.requires.more
    (pin_read c.steps.result.now path.steps c.args.count no_pin c.steps.ensures c.requires.more)
    (standing c.enter.new.self) c.note.new.self c.in-Ok.ensures.tells.ok c.in_ok-note-in-Ok.ensures c.in-Ok.ensures.tells.left_open
