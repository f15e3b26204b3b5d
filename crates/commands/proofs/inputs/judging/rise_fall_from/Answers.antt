-- The text was read, and gives delays or none.
use Rattle.std.proofs.Common.{ℕ, List}
use Rattle.std.proofs.lemmas.Result.{err_from_is_err_and}
use Rattle.calls.specs.declared.role.Role.TheVariants as role
use Rattle.delay_annotation.specs.RiseFall.{RisesAndFalls, rise_fall_of}
use Rattle.delay_annotation.specs.DelayFile.{HasRiseFall}
use Rattle.delay_annotation.specs.declared.setting.Columns.TheVariants as columns
use Rattle.commands.specs.Inside.InputJudging as judging
use Rattle.commands.specs.Inside.InputJudging.{FailsDelays}
use Rattle.commands.proofs.InputsJudged.{gives_from, fails_from}
use Rattle.commands.proofs.inputs.judging.rise_fall_from.Goals as goal

pub returns-in_err-text-clause-fails : goal.returns-in_err-text-clause-fails
returns-in_err-text-clause-fails g c =
    let p = err_from_is_err_and c.from_residual.result c.from_residual.ensures.1 in
    rw (p.1, p.2) (judging.not_read c.in_err-text.ensures.failed)

pub returns-clause-gives : goal.returns-clause-gives
returns-clause-gives g c =
    gives_from role.Delays c.args.name.now (λ (text : List ℕ) (kept : RisesAndFalls). HasRiseFall c.args.net.now text (rise_fall_of c.args.net.now kept))
    c.in_ok-text.text _ _ _ c.as_slice.ensures.value c.in_ok-text.ensures.read c.rise_fall_in.result c.rise_fall_in.ensures.delays

pub returns-clause-fails : goal.returns-clause-fails
returns-clause-fails g c =
    fails_from role.Delays c.args.name.now (FailsDelays columns.RiseAndFall c.args.net.now) c.in_ok-text.text _ _ _ c.as_slice.ensures.value
    c.in_ok-text.ensures.read c.rise_fall_in.result c.rise_fall_in.ensures.fails
