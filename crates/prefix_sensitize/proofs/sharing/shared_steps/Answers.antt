-- The pins differ at the place where the loop is left.
use Rattle.std.proofs.Common.{true≢false, not, get_or, sym, ap, ◌∙◌, arith}
use Rattle.pd_base.specs.declared.ids.PinRef.{PinRef}
use Rattle.prefix_sensitize.proofs.PathOrderShares.{pin_itself, share_up_to}
use Rattle.prefix_sensitize.proofs.sharing.shared_steps.Goals as goal

pub returns-then-ne : goal.returns-then-ne
returns-then-ne c =
    let first = c.args.first.now in
    let second = c.args.second.now in
    let at = c.loop-at.at in
    let none : PinRef = record { gate = record { 0 = 0 }; pin = 0 } in
    share_up_to first second at none (omega arith) (omega arith) c.loop-at.invariant
    (λ same. true≢false
    (sym c.if-ne.true ∙ c.ne.ensures ∙ ap not (pin_itself (get_or first at none) (get_or second at none) same)))
