-- What is passed at each stage, and how the call ends there.
use Rattle.std.proofs.Common.{List, ◌<◌, ◌^◌, length, refl, sym, subst, arith}
use Rattle.std.proofs.lemmas.Int.{ints}
use Rattle.std.proofs.lemmas.Result.{err_from_is_err_and}
use Rattle.pd_base.specs.declared.test.Test.{Test}
use Rattle.runs.specs.Lawful.{AreLawfulTests}
use Rattle.command_line.specs.Commands.{replay_call_of}
use Rattle.calls.specs.declared.role.Role.TheVariants as role
use Rattle.commands.proofs.InputStages.{delays_fail, inputs_passed}
use Rattle.commands.proofs.StageReads.{read_is_within}
use Rattle.commands.specs.Replay.{replay_command, tests_stages}
use Rattle.commands.proofs.ReplayStages.{tests_fail, text_prepared}
use Rattle.commands.proofs.TestCounts.{few_tests}
use Rattle.commands.proofs.replay.preparing.prepare_behind_net.Goals as goal

pub returns-in_err-delays : goal.returns-in_err-delays
returns-in_err-delays g c begun net =
    let call = replay_call_of c.args.command.now in
    let p = err_from_is_err_and c.from_residual.result c.from_residual.ensures.1 in
    rw (p.1, p.2) (delays_fail (replay_command call) call.net call.delays c.args.net.now _ _ _ net (tests_stages call) refl _
    c.in_err-delays.ensures.fails)

pub returns-in_err-tests : goal.returns-in_err-tests
returns-in_err-tests g c begun net =
    let call = replay_call_of c.args.command.now in
    let delays = c.in_ok-delays.ensures.gives in
    let p = err_from_is_err_and c.from_residual-in_err-tests.result c.from_residual-in_err-tests.ensures.1 in
    rw (p.1, p.2) (tests_fail call net.text.items delays.text.items _ _ _
    (inputs_passed (replay_command call) call.net call.delays c.args.net.now _ _ _ net _ delays)
    c.args.net.now net.holds _ c.in_err-tests.ensures.fails)

pub text_at-requires-clause-lawful : goal.text_at-requires-clause-lawful
text_at-requires-clause-lawful g c =
    subst (AreLawfulTests c.args.net.now) (sym c.as_slice.ensures.value) c.in_ok-tests.ensures.gives.holds.lawful

pub text_at-requires-clause-numbers : goal.text_at-requires-clause-numbers
text_at-requires-clause-numbers g c =
    let tests = c.in_ok-tests.ensures.gives in
    let few = few_tests c.args.net.now tests.text.items c.in_ok-tests.tests.items
    (read_is_within role.Tests c.args.command.now.tests.now tests.text _ _ tests.read) tests.holds in
    subst (λ (listed : List Test). length listed < 2 ^ 32) (sym c.as_slice.ensures.value) few

pub returns : goal.returns
returns g c begun net =
    let call = replay_call_of c.args.command.now in
    let delays = c.in_ok-delays.ensures.gives in
    text_prepared call net.text.items delays.text.items _ _ _
    (inputs_passed (replay_command call) call.net call.delays c.args.net.now _ _ _ net _ delays)
    c.args.net.now net.holds _ delays.holds c.in_ok-tests.tests.items c.in_ok-tests.ensures.gives c.as_slice.result.now
    c.as_slice.ensures.value _ (let small = c.requires.small_time in omega (arith, ints)) c.text_at.result c.text_at.ensures.text c.text_at.ensures.few c.text_at.ensures.fails
