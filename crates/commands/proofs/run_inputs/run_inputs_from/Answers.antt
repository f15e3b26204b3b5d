-- The first input that gives nothing.
use Rattle.std.proofs.lemmas.Result.{err_from_is_err_and}
use Rattle.commands.specs.Inside.RunJudging as found
use Rattle.commands.proofs.run_inputs.run_inputs_from.Goals as goal

pub returns-in_err-net-clause-fails : goal.returns-in_err-net-clause-fails
returns-in_err-net-clause-fails g c =
    let p = err_from_is_err_and c.from_residual.result c.from_residual.ensures.1 in
    rw (p.1, p.2) (found.no_net c.in_err-net.ensures.fails)

pub returns-in_err-delays-clause-fails : goal.returns-in_err-delays-clause-fails
returns-in_err-delays-clause-fails g c =
    let p = err_from_is_err_and c.from_residual-in_err-delays.result c.from_residual-in_err-delays.ensures.1 in
    rw (p.1, p.2) (found.no_delays c.in_ok-net.net _ c.in_ok-net.ensures.gives c.in_err-delays.ensures.fails)

pub returns-in_err-launch-clause-fails : goal.returns-in_err-launch-clause-fails
returns-in_err-launch-clause-fails g c =
    let p = err_from_is_err_and c.from_residual-in_err-launch.result c.from_residual-in_err-launch.ensures.1 in
    rw (p.1, p.2) (found.no_launch c.in_ok-net.net _ _ _ c.in_ok-net.ensures.gives c.in_ok-delays.ensures.gives c.in_err-launch.ensures.fails)
