-- All rows were taken, and each pin was settled twice.
use Rattle.std.proofs.Common.{sym, subst}
use Rattle.pd_base.specs.declared.fault.Direction.TheVariants.{Rise, Fall}
use Rattle.delay_annotation.specs.DelayFile.{HasRiseFall}
use Rattle.delay_annotation.specs.RiseFall.{RisesAndFalls, rise_fall_of}
use Rattle.delay_annotation.specs.declared.setting.Columns.TheVariants as columns
use Rattle.delay_annotation.proofs.Settled.{delays_had}
use Rattle.delay_annotation.proofs.reading.settled_rises_and_falls.Goals as goal

pub returns-clause-delays : goal.returns-clause-delays
returns-clause-delays c =
    let net = c.args.net.now in
    let bytes = c.args.bytes.now in
    let taken = c.in_ok-take_rows.ensures.takes in
    subst (λ (kept : RisesAndFalls). HasRiseFall net bytes (rise_fall_of net kept)) (sym c.new.ensures) (
      delays_had net c.take_rows.new.kept Rise columns.RiseAndFall bytes c.in_ok-rises.rises taken c.in_ok-rises.ensures.last,
      delays_had net c.take_rows.new.kept Fall columns.RiseAndFall bytes c.in_ok-falls.falls taken c.in_ok-falls.ensures.last,
    )
