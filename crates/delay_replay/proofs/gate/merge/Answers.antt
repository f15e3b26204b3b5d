-- The pass begins with the pins' first values, each turn of the loop passes one change, and at its end the wave is the gate's.
use Rattle.std.proofs.Common.{◌≡◌, ℕ, ◌<◌, ◌≤◌, ℤ, ◌<ℤ◌, true, not, get_or, length, refl, sum_by, sym, subst, ⊎_elim, ◌∙◌, arith, heap_items, rules, SFits, to_z, of_z, w64}
use Rattle.std.proofs.lemmas.Int.{to_z-of_z}
use Rattle.std.proofs.lemmas.List.Sums.{get_or-le-sum_by}
use Rattle.std.proofs.lemmas.Bool.{cases_lt, false≢true}
use Rattle.std.proofs.lemmas.Result.{err_from_is_err_and}
use Rattle.delay_replay.specs.declared.gate.TheConstants.{MOST_CHANGES}
use Rattle.delay_replay.specs.Changes.{Changes}
use Rattle.delay_replay.specs.PinCopies.{merged_wave}
use Rattle.delay_replay.specs.declared.pin_changes.PinChange.{PinChange}
use Rattle.delay_replay.specs.PinChanges.{one, AreAmong, IsBeforeAll, copy_values}
use Rattle.delay_replay.specs.AddedChanges.{IsTurned}
use Rattle.delay_replay.proofs.ChangeTimes.{not_over}
use Rattle.delay_replay.proofs.GatePins.{value_told}
use Rattle.delay_replay.proofs.LaterCopies.{few_by_fan_in}
use Rattle.delay_replay.proofs.Merging.{IsMerged, begun, ended, passed, turned, refused, no_later}
use Rattle.delay_replay.proofs.NextChanges.{passed_fewer}
use Rattle.delay_replay.proofs.gate.merge.Goals as goal

pub loop-soonest-init : goal.loop-soonest-init
loop-soonest-init g c =
    let copies = g.P.PinCopies.copies c.args.copies.now in
    let pins = c.pins-pins.result in
    let count = c.in_ok-ones.field-0.ones in
    let nexts = heap_items c.in_ok-ones.field-0.nexts in
    let value = c.value_of_count.result in record {
      order = c.in_ok-ones.ensures.order;
      merged = subst (λ (wave : Changes). IsMerged copies (copy_values copies) c.args.kind pins count nexts wave)
          (sym c.constant-wave.ensures)
          (begun copies (copy_values copies) c.args.kind pins count nexts value
          (subst (λ n. AreAmong n count nexts) (sym c.pins-pins.ensures) c.in_ok-ones.ensures.among)
          c.in_ok-ones.ensures.each c.in_ok-ones.ensures.counted
          (value_told c.args.kind copies c.requires.fan_in pins count value c.pins-pins.ensures c.value_of_count.ensures));
    }

-- fewer changes are still to come, whether the gate changes or not
pub loop-soonest-smaller : goal.loop-soonest-smaller
loop-soonest-smaller g c =
    passed_fewer (g.P.PinCopies.copies c.args.copies.now) c.in-Some.soonest.now (heap_items c.loop-soonest.nexts) (heap_items c.pass.new.nexts) c.pass.ensures.passes

pub loop-soonest-smaller-in-Continue-branch-2 : goal.loop-soonest-smaller-in-Continue-branch-2
loop-soonest-smaller-in-Continue-branch-2 g c =
    passed_fewer (g.P.PinCopies.copies c.args.copies.now) c.in-Some.soonest.now (heap_items c.loop-soonest.nexts) (heap_items c.pass.new.nexts) c.pass.ensures.passes

pub loop-soonest-preserved : goal.loop-soonest-preserved
loop-soonest-preserved g c =
    let copies = g.P.PinCopies.copies c.args.copies.now in
    let soonest = c.in-Some.soonest.now in
    let old = heap_items c.loop-soonest.nexts in
    let new = heap_items c.pass.new.nexts in
    let first = no_later soonest old (c.in-Some.ensures.greatest c.loop-soonest.invariant.order) in
    let fits : SFits w64 soonest.time = search rules in record {
      order = c.pass.ensures.order c.loop-soonest.invariant.order;
      merged = passed copies (copy_values copies)
          c.args.kind c.pins-pins.result c.loop-soonest.ones old c.loop-soonest.wave c.loop-soonest.invariant.merged
          soonest first new c.pass.ensures.passes c.counted-ones.result c.counted-ones.ensures
          (λ before. false≢true (sym c.if-is_before_all.false
          ∙ subst (λ (time : ℤ). IsBeforeAll time new → c.is_before_all.result ≡ true) (to_z-of_z w64 soonest.time fits) c.is_before_all.ensures.1 before));
    }

pub loop-soonest-preserved-in-Continue-branch-2 : goal.loop-soonest-preserved-in-Continue-branch-2
loop-soonest-preserved-in-Continue-branch-2 g c =
    let copies = g.P.PinCopies.copies c.args.copies.now in
    let pins = c.pins-pins.result in
    let soonest = c.in-Some.soonest.now in
    let old = heap_items c.loop-soonest.nexts in
    let new = heap_items c.pass.new.nexts in
    let first = no_later soonest old (c.in-Some.ensures.greatest c.loop-soonest.invariant.order) in
    let value = c.value_of_count-then-is_before_all.result in
    let fits : SFits w64 soonest.time = search rules in
    let same : to_z w64 (of_z w64 soonest.time) ≡ soonest.time = to_z-of_z w64 soonest.time fits in record {
      order = c.pass.ensures.order c.loop-soonest.invariant.order;
      merged = turned copies (copy_values copies)
          c.args.kind pins c.loop-soonest.ones old c.loop-soonest.wave c.loop-soonest.invariant.merged
          soonest first new c.pass.ensures.passes c.counted-ones.result c.counted-ones.ensures
          (subst (λ (time : ℤ). IsBeforeAll time new) same (c.is_before_all.ensures.0 c.if-is_before_all.true)) value
          (value_told c.args.kind copies c.requires.fan_in pins c.counted-ones.result value c.pins-pins.ensures c.value_of_count-then-is_before_all.ensures)
          c.turn.new.self
          (subst (λ (time : ℤ). IsTurned c.loop-soonest.wave c.turn.new.self time value) same c.in_ok-turn.ensures.turned);
    }

pub returns-in_err-turn-clause-refused : goal.returns-in_err-turn-clause-refused
returns-in_err-turn-clause-refused g c =
    let copies = g.P.PinCopies.copies c.args.copies.now in
    let pins = c.pins-pins.result in
    let soonest = c.in-Some.soonest.now in
    let old = heap_items c.loop-soonest.nexts in
    let new = heap_items c.pass.new.nexts in
    let first = no_later soonest old (c.in-Some.ensures.greatest c.loop-soonest.invariant.order) in
    let value = c.value_of_count-then-is_before_all.result in
    let fits : SFits w64 soonest.time = search rules in
    let same : to_z w64 (of_z w64 soonest.time) ≡ soonest.time = to_z-of_z w64 soonest.time fits in
    let p = err_from_is_err_and c.from_residual-in_err-turn.result c.from_residual-in_err-turn.ensures.1 in
    rw (p.1, p.2)
    (refused copies (copy_values copies)
    c.args.kind pins c.loop-soonest.ones old c.loop-soonest.wave c.loop-soonest.invariant.merged
    soonest first new c.pass.ensures.passes c.counted-ones.result c.counted-ones.ensures
    (subst (λ (time : ℤ). IsBeforeAll time new) same (c.is_before_all.ensures.0 c.if-is_before_all.true)) value
    (value_told c.args.kind copies c.requires.fan_in pins c.counted-ones.result value c.pins-pins.ensures c.value_of_count-then-is_before_all.ensures)
    c.in_err-turn.field-0.0 c.in_err-turn.ensures.refused)

pub returns-clause-not_over : goal.returns-clause-not_over
returns-clause-not_over g c =
    let copies = g.P.PinCopies.copies c.args.copies.now in
    let pins = c.pins-pins.result in
    let nexts = heap_items c.loop-soonest.nexts in
    let merged = c.loop-soonest.invariant.merged in
    let empty : length nexts ≡ 0 =
    ⊎_elim (λ some. absurd (false≢true (c.in_default.ensures.variant.1 some))) (λ none. omega (arith, none, c.loop-soonest.nexts.data.ok.0))
    (cases_lt 0 c.loop-soonest.nexts.data.len) in
    not_over (merged_wave c.args.kind copies) c.loop-soonest.wave MOST_CHANGES
    (ended copies (copy_values copies) c.args.kind pins
    c.loop-soonest.ones nexts c.loop-soonest.wave merged empty)
    merged.few

pub is_before_all-requires : goal.is_before_all-requires
is_before_all-requires g c = c.pass.ensures.order c.loop-soonest.invariant.order

pub returns-clause-few : goal.returns-clause-few
returns-clause-few g c = c.loop-soonest.invariant.merged.few

pub returns-clause-wave : goal.returns-clause-wave
returns-clause-wave g c =
    let copies = g.P.PinCopies.copies c.args.copies.now in
    let nexts = heap_items c.loop-soonest.nexts in
    let empty : length nexts ≡ 0 =
    ⊎_elim (λ some. absurd (false≢true (c.in_default.ensures.variant.1 some))) (λ none. omega (arith, none, c.loop-soonest.nexts.data.ok.0))
    (cases_lt 0 c.loop-soonest.nexts.data.len) in
    ended copies (copy_values copies) c.args.kind
    c.pins-pins.result c.loop-soonest.ones nexts c.loop-soonest.wave c.loop-soonest.invariant.merged empty

pub turn-requires : goal.turn-requires
turn-requires g c =
    let soonest = c.in-Some.soonest.now in
    let times = c.loop-soonest.wave.times in
    let some : 0 < length (heap_items c.loop-soonest.nexts) = omega (arith, c.in-Some.ensures.variant.0 refl, c.loop-soonest.nexts.data.ok.0) in
    let fits : SFits w64 soonest.time = search rules in
    λ k d within.
    subst (λ (time : ℤ). get_or times k d <ℤ time) (sym (to_z-of_z w64 soonest.time fits))
    (subst (λ (next : PinChange). get_or times k d <ℤ next.time) (sym c.in-Some.ensures.lookup)
    (c.loop-soonest.invariant.merged.within k d within 0 soonest some))

pub pass-requires-clause-pin : goal.pass-requires-clause-pin
pass-requires-clause-pin g c =
    let some : 0 < length (heap_items c.loop-soonest.nexts) = omega (arith, c.in-Some.ensures.variant.0 refl, c.loop-soonest.nexts.data.ok.0) in
    subst (λ (next : PinChange). next.pin < length (g.P.PinCopies.copies c.args.copies.now)) (sym c.in-Some.ensures.lookup)
    (c.loop-soonest.invariant.merged.each 0 c.in-Some.soonest.now some).pin

pub pass-requires-clause-soonest : goal.pass-requires-clause-soonest
pass-requires-clause-soonest g c = c.in-Some.ensures.lookup

pub counted-ones-requires-clause-some : goal.counted-ones-requires-clause-some
counted-ones-requires-clause-some g c =
    let soonest = c.in-Some.soonest.now in
    let nexts = heap_items c.loop-soonest.nexts in
    let some : 0 < length nexts = omega (arith, c.in-Some.ensures.variant.0 refl, c.loop-soonest.nexts.data.ok.0) in
    let falls : PinChange → ℕ = λ next. one (not next.rises) in
    let here : falls soonest ≤ sum_by falls nexts =
    subst (λ (next : PinChange). falls next ≤ sum_by falls nexts) (sym c.in-Some.ensures.lookup) (get_or-le-sum_by falls nexts 0 soonest some) in
    omega (arith, here, c.loop-soonest.invariant.merged.among.least)

pub pin_waves-requires-clause-few_pins : goal.pin_waves-requires-clause-few_pins
pin_waves-requires-clause-few_pins g c = few_by_fan_in c.args.kind _ c.requires.fan_in
