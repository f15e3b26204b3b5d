-- One pin more in each turn.
use Rattle.std.proofs.Common.{◌≡◌, ◌<◌, ◌+◌, length, get_or, refl, sym, subst, arith}
use Rattle.std.proofs.lemmas.Option.{slice_get-get_or}
use Rattle.pd_base.specs.declared.ids.LineId.{LineId}
use Rattle.state_sets.specs.States.{both_sets}
use Rattle.state_sets.specs.Labellings.{label_at}
use Rattle.hulls.specs.Sets.{set_at}
use Rattle.hulls.specs.Changes.{HasPinsKept}
use Rattle.hulls.proofs.Cuts.{pins_more, lessens_on}
use Rattle.hulls.proofs.cutting.cut_pins.Goals as goal

pub loop-pin-preserved : goal.loop-pin-preserved
loop-pin-preserved c =
    let pins = c.args.pins.now in let kept = c.args.kept.now in let mid = c.loop-pin.labels in let k = c.loop-pin.pin in
    let inside : k < length pins = omega arith in
    let line : LineId = get_or pins k (record { 0 = 0 }) in
    let within : line.0 < length mid = let h = c.requires.lines k (record { 0 = 0 }) inside in omega arith in (
      (λ count. subst (HasPinsKept count pins kept (k + 1) c.args.labels.now) (sym c.cut_line-changed.ensures.labels)
          (pins_more count pins kept c.args.labels.now mid k inside (c.loop-pin.invariant.0 count) line
          (slice_get-get_or pins k (record { 0 = 0 }) inside) within (both_sets (label_at mid line.0) (set_at kept k)) refl)),
      lessens_on c.args.labels.now mid c.cut_line-changed.new.labels c.loop-pin.changed c.cut_line-changed.result _ refl
          c.loop-pin.invariant.1 c.cut_line-changed.ensures.lessens,
    )

pub returns-clause-kept : goal.returns-clause-kept
returns-clause-kept c =
    let all : c.loop-pin.pin ≡ length c.args.pins.now = omega arith in
    λ count. subst (λ k. HasPinsKept count c.args.pins.now c.args.kept.now k c.args.labels.now c.loop-pin.labels) all
    (c.loop-pin.invariant.0 count)
