-- The text was read, and gives chains or none.
use Rattle.std.proofs.lemmas.Result.{err_from_is_err_and}
use Rattle.calls.specs.declared.role.Role.TheVariants as role
use Rattle.scan_order.specs.ScanFile.{HasChains}
use Rattle.commands.specs.Inside.InputJudging as judging
use Rattle.commands.specs.Inside.InputJudging.{FailsChains}
use Rattle.commands.proofs.InputsJudged.{gives_from, fails_from}
use Rattle.commands.proofs.inputs.chains.chains_from.Goals as goal

pub returns-in_err-text-clause-fails : goal.returns-in_err-text-clause-fails
returns-in_err-text-clause-fails g c =
    let p = err_from_is_err_and c.from_residual.result c.from_residual.ensures.1 in
    rw (p.1, p.2) (judging.not_read c.in_err-text.ensures.failed)

pub returns-clause-gives : goal.returns-clause-gives
returns-clause-gives g c =
    gives_from role.Scan c.args.name.now (HasChains c.args.net.now) c.in_ok-text.text _ _ _ c.as_slice.ensures.value
    c.in_ok-text.ensures.read c.chains_in.result c.chains_in.ensures.chains

pub returns-clause-fails : goal.returns-clause-fails
returns-clause-fails g c =
    fails_from role.Scan c.args.name.now (FailsChains c.args.net.now) c.in_ok-text.text _ _ _ c.as_slice.ensures.value
    c.in_ok-text.ensures.read c.chains_in.result c.chains_in.ensures.fails
