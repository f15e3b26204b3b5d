-- What is passed at each stage, and how the call ends there.
use Rattle.std.proofs.Common.{All, refl, sym, subst}
use Rattle.std.proofs.lemmas.Result.{err_from_is_err_and}
use Rattle.bench_reader.proofs.LawfulCircuits.{is_circuit}
use Rattle.command_line.specs.ScanForm.{scan_call_of}
use Rattle.pd_base.specs.declared.test.Test.{Test}
use Rattle.commands.specs.Inside.ScanJudging.{HasBitsFor}
use Rattle.commands.specs.Scan.{scan_command}
use Rattle.commands.proofs.InputStages.{net_fails}
use Rattle.commands.proofs.ScanStages.{no_chains, no_tests, tests_have_bits, text_prepared}
use Rattle.commands.proofs.scan.preparing.prepare_scan.Goals as goal

pub returns-in_err-net : goal.returns-in_err-net
returns-in_err-net g c =
    let call = scan_call_of c.args.command.now in
    let p = err_from_is_err_and c.from_residual.result c.from_residual.ensures.1 in
    rw (p.1, p.2) (net_fails (scan_command call) call.net _ refl _ _ _ c.in_err-net.ensures.fails)

pub returns-in_err-chains : goal.returns-in_err-chains
returns-in_err-chains g c =
    let p = err_from_is_err_and c.from_residual-in_err-chains.result c.from_residual-in_err-chains.ensures.1 in
    rw (p.1, p.2) (no_chains (scan_call_of c.args.command.now) c.in_ok-net.net _ _ _ c.in_ok-net.ensures.gives _ c.in_err-chains.ensures.fails)

pub returns-in_err-tests : goal.returns-in_err-tests
returns-in_err-tests g c =
    let p = err_from_is_err_and c.from_residual-in_err-tests.result c.from_residual-in_err-tests.ensures.1 in
    rw (p.1, p.2) (no_tests (scan_call_of c.args.command.now) c.in_ok-net.net _ _ _ c.in_ok-net.ensures.gives c.in_ok-chains.chains
    c.in_ok-chains.ensures.gives _ _ c.in_err-tests.ensures.fails)

pub text_for-requires : goal.text_for-requires
text_for-requires g c =
    let net = c.in_ok-net.ensures.gives in
    subst (All (λ (test : Test). HasBitsFor c.in_ok-chains.chains test.pair)) (sym c.as_slice.ensures.value)
    (tests_have_bits c.in_ok-net.net (is_circuit net.text.items c.in_ok-net.net net.holds) c.in_ok-chains.chains
    c.in_ok-chains.ensures.gives.holds.are c.in_ok-tests.tests.items c.in_ok-tests.ensures.gives.holds.lawful)

pub returns : goal.returns
returns g c =
    text_prepared (scan_call_of c.args.command.now) c.in_ok-net.net _ _ _ c.in_ok-net.ensures.gives c.in_ok-chains.chains
    c.in_ok-chains.ensures.gives _ c.in_ok-tests.tests.items c.in_ok-tests.ensures.gives c.as_slice.result.now c.as_slice.ensures.value
    c.text_for.result c.text_for.ensures.shifts c.text_for.ensures.text c.text_for.ensures.fails
