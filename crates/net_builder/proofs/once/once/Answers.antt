-- One line more is kept where it was not listed before.
use Rattle.std.proofs.Common.{◌<◌, ◌++◌, [], ◌∷◌, cond, false, length, sym, ap, ◌∙◌, arith, true, length-set, get_or}
use Rattle.std.proofs.lemmas.List.{get_or_default}
use Rattle.pd_base.specs.declared.ids.LineId.{LineId}
use Rattle.net_builder.proofs.Distinct.{distinct_more, seen_more}
use Rattle.net_builder.proofs.once.once.Goals as goal

pub loop-line-preserved : goal.loop-line-preserved
loop-line-preserved c =
    let lines = c.args.lines.now in
    let i = c.loop-line.line-index in
    let line : LineId = get_or lines i (record { 0 = 0 }) in
    let within : i < length lines = omega arith in
    let at = get_or_default lines i (record { 0 = 0 }) line within in
    let so_far = c.loop-line.invariant in
    let below : line.0 < c.args.total = c.requires i (record { 0 = 0 }) within in
    let seen = c.loop-line.seen.items in
    let inside : line.0 < length seen = omega (arith, so_far.0) in (
      ap length c.in_ok-keep.ensures.seen ∙ length-set seen line.0 true ∙ so_far.0,
      c.in_ok-keep.ensures.kept ∙ (λ j. cond (so_far.2 line.0 below j) (so_far.1 j) (so_far.1 j ++ line ∷ []))
          ∙ sym (distinct_more lines i line within at),
      λ other less. ap (λ s. get_or s other false) c.in_ok-keep.ensures.seen
          ∙ seen_more lines i line seen within at inside other (so_far.2 other less),
    )
