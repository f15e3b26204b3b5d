-- Nothing is kept at first.
use Rattle.std.proofs.Common.{All, length, refl, sym, ap, subst, ◌∙◌, arith}
use Rattle.std.proofs.lemmas.List.{length-replicate}
use Rattle.std.proofs.lemmas.List.Elements.{All-replicate}
use Rattle.netlist.specs.declared.limits.TheConstants.{MOST_FAN_IN}
use Rattle.delay_annotation.specs.declared.last.KeptRow.{KeptRow}
use Rattle.delay_annotation.specs.LastRows.{AreWithin, no_row_yet}
use Rattle.delay_annotation.proofs.Keeping.{nothing_kept}
use Rattle.delay_annotation.proofs.last.LastRows.new.Goals as goal

pub returns-clause-none : goal.returns-clause-none
returns-clause-none c =
    nothing_kept c.args.net.now _ c.gates.result _ c.pin_total.result refl c.gates.ensures c.pin_total.ensures
    refl (c.in_ok-vec.ensures.items_if_clones_equal (λ y same. same))
    (c.in_ok-vec-2.ensures.items_if_clones_equal (λ y same. same))
    (c.in_ok-vec-3.ensures.items_if_clones_equal (λ y same. same))

pub returns-clause-places : goal.returns-clause-places
returns-clause-places c =
    let IsBounded : KeptRow → Type 0 = λ entry. AreWithin entry.delays in
    let one : IsBounded no_row_yet = (omega arith, omega arith) in
    let gates = c.in_ok-vec.ensures.items_if_clones_equal (λ y same. same) in
    let numbers = c.in_ok-vec-2.ensures.items_if_clones_equal (λ y same. same) in
    let pins = c.in_ok-vec-3.ensures.items_if_clones_equal (λ y same. same) in
    record {
      each_gate = ap length gates ∙ length-replicate c.gates.result no_row_yet ∙ c.gates.ensures;
      each_number = ap length numbers ∙ length-replicate MOST_FAN_IN no_row_yet;
      each_pin = ap length pins ∙ length-replicate c.pin_total.result no_row_yet ∙ c.pin_total.ensures;
      all_bounded = one;
      gates_bounded = subst (All IsBounded) (sym gates) (All-replicate IsBounded c.gates.result no_row_yet one);
      numbers_bounded = subst (All IsBounded) (sym numbers) (All-replicate IsBounded MOST_FAN_IN no_row_yet one);
      pins_bounded = subst (All IsBounded) (sym pins) (All-replicate IsBounded c.pin_total.result no_row_yet one);
    }
