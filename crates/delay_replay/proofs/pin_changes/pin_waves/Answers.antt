-- Each turn of the loop adds the next change of one pin more.
use Rattle.std.proofs.Common.{◌≡◌, ◌<◌, ◌+◌, List, [], length, ap, sym, subst, take_all, add-zero, refl, rules, ◌∙◌, arith}
use Rattle.std.specs.BinaryHeap.{heap_items}
use Rattle.delay_replay.specs.Changes.{Changes}
use Rattle.delay_replay.specs.declared.pin_changes.PinChange.{PinChange}
use Rattle.delay_replay.specs.PinChanges.{one, copy_at, copy_values, AreAmong, AreCounted, IsNextOrNone}
use Rattle.delay_replay.proofs.GatePins.{added_among, added_each, added_counted, one_more}
use Rattle.delay_replay.proofs.pin_changes.pin_waves.Goals as goal
use Rattle.delay_replay.proofs.pin_changes.pin_waves.Goals.{then-value, else-value}

pub loop-pin-preserved : goal.loop-pin-preserved
loop-pin-preserved g c =
    let copies = g.P.PinCopies.copies c.args.copies.now in
    let pin = c.loop-pin.pin in
    let next = c.next_change.result in
    let inside : pin < length copies = omega arith in
    let more : c.if-value.ones ≡ c.loop-pin.ones + one (copy_at copies pin).before = elim c.if-value.branch [
      | then-value w ↦ w.ones-is ∙ ap (λ bit. c.loop-pin.ones + one bit) (sym w.if-value.true ∙ c.earliest-value.ensures)
      | else-value w ↦ w.ones-is ∙ sym (add-zero c.loop-pin.ones)
          ∙ ap (λ bit. c.loop-pin.ones + one bit) (sym w.if-value.false ∙ c.earliest-value.ensures)
    ] in
    let is : IsNextOrNone (copy_at copies pin) pin 0 (copy_at copies pin).before next =
    subst (λ value. IsNextOrNone (copy_at copies pin) pin 0 value next) c.earliest-value.ensures c.next_change.ensures in
    let added = c.in_ok-add.ensures.added in record {
      order = c.in_ok-add.ensures.order c.loop-pin.invariant.order;
      among = added_among copies pin next is _ _ added c.loop-pin.ones c.if-value.ones more pin c.loop-pin.invariant.among;
      each = added_each copies pin next is _ _ added inside c.loop-pin.invariant.each;
      counted = λ time. added_counted copies pin next is _ _ added c.loop-pin.ones c.if-value.ones more _ _ time
          (one_more copies pin inside time)
          (c.loop-pin.invariant.counted time);
    }

pub overflow_add-ones : goal.overflow_add-ones
overflow_add-ones g c = omega (arith, c.loop-pin.invariant.among.most, c.requires.few_pins)

pub loop-pin-init : goal.loop-pin-init
loop-pin-init g c =
    let none = c.new-nexts.ensures.items in record {
      order = search rules;
      among = subst (AreAmong 0 0) (sym none) (record { least = omega arith; most = omega arith });
      each = λ k d within. absurd (omega (arith, ap length none, within));
      counted = λ time. subst (λ (nexts : List PinChange). AreCounted (g.P.PinCopies.copies c.args.copies.now) [] 0 nexts time) (sym none) refl;
    }

pub returns-clause-counted : goal.returns-clause-counted
returns-clause-counted g c =
    let copies = g.P.PinCopies.copies c.args.copies.now in
    let all = take_all c.loop-pin.pin copies (omega arith) in
    λ time.
    subst (λ (seen : List Changes). AreCounted copies (copy_values seen time) c.loop-pin.ones (heap_items c.loop-pin.nexts) time) all
    (c.loop-pin.invariant.counted time)

pub returns-clause-among : goal.returns-clause-among
returns-clause-among g c =
    let all : c.loop-pin.pin ≡ length (g.P.PinCopies.copies c.args.copies.now) = omega arith in
    subst (λ n. AreAmong n c.loop-pin.ones (heap_items c.loop-pin.nexts)) all c.loop-pin.invariant.among

pub returns-clause-each : goal.returns-clause-each
returns-clause-each g c = c.loop-pin.invariant.each

pub returns-clause-order : goal.returns-clause-order
returns-clause-order g c = c.loop-pin.invariant.order
