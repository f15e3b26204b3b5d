-- A row that passes is noted.
use Rattle.std.proofs.Common.{◌≡◌, ◌-◌, ◌+◌, ◌≤◌, false, length, get_or, set, refl, sym, ap, subst, ◌∙◌, arith}
use Rattle.std.proofs.lemmas.Option.{slice_get-get_or}
use Rattle.delay_bounds.specs.Bounds.{NamesTest}
use Rattle.delay_bounds.specs.Inside.Earliest.{AreEarliest}
use Rattle.delay_bounds.specs.declared.log_row.LogRow.{LogRow}
use Rattle.delay_bounds.proofs.Passes.{failed_more, none_passed, passed_more}
use Rattle.delay_bounds.proofs.earliest.note_passes.Goals.{then-row, else-row}
use Rattle.delay_bounds.proofs.earliest.note_passes.Goals as goal

-- what is read where there is no row
abbrev no_row : LogRow
no_row = record { test = 0; time = 0; pass = false }

pub loop-row-init : goal.loop-row-init
loop-row-init c = record { noted = none_passed c.args.log.now c.args.times.now c.requires.none; places = refl }

pub loop-row-preserved : goal.loop-row-preserved
loop-row-preserved c =
    let log = c.args.log.now in
    let at = c.loop-row.row-index in
    let row = get_or log at no_row in
    let times = c.loop-row.times in
    let turn = c.loop-row.invariant in
    let stands = slice_get-get_or log at no_row c.loop-row-test.true in
    let named : NamesTest (length c.args.times.now) row = c.requires.named at no_row c.loop-row-test.true in
    let first : 1 ≤ row.test = named.positive in
    let last : row.test ≤ length c.args.times.now = named.within in
    let places : length times ≡ length c.args.times.now = turn.places in
    elim c.if-row.branch [
      | then-row w ↦
          record {
            noted = subst (AreEarliest log (at + 1)) (sym (w.times-is ∙ ap (set times (row.test - 1)) w.earlier.ensures))
                (passed_more log at row stands times (row.test - 1) (omega arith) w.if-row.true (omega arith) turn.noted);
            places = c.if-row.auto.times ∙ places;
          }
      | else-row w ↦
          record {
            noted = subst (AreEarliest log (at + 1)) (sym w.times-is) (failed_more log at row stands times w.if-row.false turn.noted);
            places = c.if-row.auto.times ∙ places;
          }
    ]
