-- The first of the three fields that says nothing is the reason.
use Rattle.std.proofs.Common.{ℕ, Bool, ◌≡◌, refl, subst}
use Rattle.delay_annotation.specs.Fields.{SpellsNumber}
use Rattle.delay_bounds.specs.LogRows.{IsTestNumber, result_word}
use Rattle.delay_bounds.specs.LogRows.RefusesRow.{no_result, no_test, no_time}
use Rattle.delay_bounds.specs.declared.log_row.TheConstants.{MOST_TIME_DIGITS}
use Rattle.delay_bounds.proofs.row.read_row.Goals as goal

pub returns-in_default : goal.returns-in_default
returns-in_default c =
    no_test _ _ _ refl (subst (λ text. (number : ℕ) → ¬ IsTestNumber c.args.tests text number) c.trimmed.ensures c.in_default.ensures)

pub returns-in_default-long_number : goal.returns-in_default-long_number
returns-in_default-long_number c =
    let test = c.in-Some.test in
    no_time _ _ _ refl test (subst (λ text. IsTestNumber c.args.tests text test) c.trimmed.ensures c.in-Some.ensures)
    (subst (λ text. (told : ℕ) → ¬ SpellsNumber MOST_TIME_DIGITS text told) c.trimmed-2.ensures c.in_default-long_number.ensures)

pub returns-in_default-passed : goal.returns-in_default-passed
returns-in_default-passed c =
    let test = c.in-Some.test in
    let time = c.in-Some-long_number.time in
    no_result _ _ _ refl test (subst (λ text. IsTestNumber c.args.tests text test) c.trimmed.ensures c.in-Some.ensures)
    time (subst (λ text. SpellsNumber MOST_TIME_DIGITS text time) c.trimmed-2.ensures c.in-Some-long_number.ensures)
    (subst (λ text. (pass : Bool) → ¬ (text ≡ result_word pass)) c.trimmed-3.ensures c.in_default-passed.ensures)
