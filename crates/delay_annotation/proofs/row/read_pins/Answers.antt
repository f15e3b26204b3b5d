-- The star, or the number of a pin, at the gates that are meant.
use Rattle.std.proofs.Common.{◌≡◌, MatchOption, List, length, sym, ap, subst, ◌∙◌, true≢false}
use Rattle.std.proofs.lemmas.Slice.Eq.{bytes_eq-Decides}
use Rattle.pd_base.specs.declared.ids.LineId.{LineId}
use Rattle.delay_annotation.specs.Fields.{star}
use Rattle.delay_annotation.specs.Rows.{MeansPins}
use Rattle.delay_annotation.specs.declared.setting.Pins.{Pins}
use Rattle.delay_annotation.proofs.Meaning.{means_all, means_of_gate, means_numbered, means_one, means_no_pins}
use Rattle.delay_annotation.proofs.row.read_pins.Goals as goal

pub returns-in-All : goal.returns-in-All
returns-in-All c =
    means_all c.args.net.now c.args.text.now c.args.gates c.in-All.is
    ((bytes_eq-Decides c.args.text.now star).0 (sym c.eq.ensures ∙ c.if-eq.true))

pub returns-in-One : goal.returns-in-One
returns-in-One c =
    means_of_gate c.args.net.now c.args.text.now c.args.gates c.in-One.gate c.in-One.is
    ((bytes_eq-Decides c.args.text.now star).0 (sym c.eq.ensures ∙ c.if-eq.true))

pub returns-in_err-pin-in-One-gates : goal.returns-in_err-pin-in-One-gates
returns-in_err-pin-in-One-gates c =
    let net = c.args.net.now in
    let text = c.args.text.now in
    let no_star = λ (same : text ≡ star).
    true≢false (sym ((bytes_eq-Decides text star).1 same) ∙ sym c.eq.ensures ∙ c.if-eq.false) in
    let limit = ap (λ (lines : List LineId). length lines) c.pins.ensures.pins in
    subst (λ o. MatchOption o ((pins : Pins) → ¬ MeansPins net text c.args.gates pins) (MeansPins net text c.args.gates))
    (sym c.from_residual-in_err-pin-in-One-gates.ensures)
    (means_no_pins net text c.args.gates c.in-One-gates.gate _ c.in-One-gates.is limit no_star
    c.in_err-pin-in-One-gates.ensures)

pub returns-in_ok-pin_below-in-All-gates : goal.returns-in_ok-pin_below-in-All-gates
returns-in_ok-pin_below-in-All-gates c =
    means_numbered c.args.net.now c.args.text.now c.args.gates c.in_ok-pin_below-in-All-gates.field-0 c.in-All-gates.is
    c.in_ok-pin_below-in-All-gates.ensures

pub returns-in_ok-pin-in-One-gates : goal.returns-in_ok-pin-in-One-gates
returns-in_ok-pin-in-One-gates c =
    means_one c.args.net.now c.args.text.now c.args.gates c.in-One-gates.gate _ c.in_ok-pin-in-One-gates.pin c.in-One-gates.is
    (ap (λ (lines : List LineId). length lines) c.pins.ensures.pins) c.in_ok-pin-in-One-gates.ensures
