-- The place of the row and its delay, or the first of them that means nothing.
use Rattle.std.proofs.Common.{ℕ, [], ◌∷◌, refl, subst}
use Rattle.std.proofs.lemmas.Result.{err_from_is_err_and}
use Rattle.delay_annotation.specs.Rows.{IsDelay}
use Rattle.delay_annotation.specs.Rows.RefusesRow.{no_place, no_delays}
use Rattle.delay_annotation.specs.Rows.SayDelays.{one}
use Rattle.delay_annotation.proofs.Fields.{no_one_delay}
use Rattle.delay_annotation.proofs.row.read_row.Goals as goal

pub returns-in_err-pins : goal.returns-in_err-pins
returns-in_err-pins c =
    let answer = err_from_is_err_and c.from_residual.result c.from_residual.ensures.1 in
    rw (answer.1, answer.2) (no_place _ _ _ _ (record { fields = refl; many = refl }) c.in_err-pins.ensures)

pub returns-in_default : goal.returns-in_default
returns-in_default c =
    no_delays _ _ _ (record { fields = refl; many = refl }) c.in_ok-pins.pins c.in_ok-pins.ensures
    (no_one_delay c.args.delay.now (subst (λ text. (number : ℕ) → ¬ IsDelay text number) c.trimmed.ensures c.in_default.ensures))

pub returns : goal.returns
returns c = record {
  gate_field = c.args.gate.now;
  pin_field = c.args.pin.now;
  number_fields = c.args.delay.now ∷ [];
  fields = record { fields = refl; many = refl };
  place = c.in_ok-pins.ensures;
  delays = one c.args.delay.now c.in-Some.delay (subst (λ text. IsDelay text c.in-Some.delay) c.trimmed.ensures c.in-Some.ensures);
}
