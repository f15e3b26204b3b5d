-- What is passed at each stage, and how the call ends there.
use Rattle.std.proofs.Common.{List, ◌<◌, ◌^◌, ◌++◌, ◌∷◌, [], length, refl, sym, subst}
use Rattle.std.proofs.lemmas.Result.{err_from_is_err_and}
use Rattle.pd_base.specs.declared.test.Test.{Test}
use Rattle.delay_annotation.specs.declared.setting.Columns.TheVariants.{RiseAndFall}
use Rattle.delay_annotation.specs.RiseFall.{rise_fall_of}
use Rattle.runs.specs.Lawful.{AreLawfulTests, IsNameable}
use Rattle.runs.specs.declared.run.ListedPath.{ListedPath}
use Rattle.calls.specs.Work.{Require}
use Rattle.commands.specs.InputRequirements.{own, tests_and_report_forms, tests_and_report_stages}
use Rattle.commands.specs.Replay.{FewChanges}
use Rattle.commands.proofs.TestCounts.{few_tests}
use Rattle.std.specs.List.{All}
use Rattle.command_line.specs.RiseFallReplayForm.{rise_fall_replay_call_of}
use Rattle.commands.specs.RiseFallReplay.{rise_fall_replay_command}
use Rattle.commands.proofs.InputStages.{columns_fail}
use Rattle.commands.proofs.RiseFallStages.{both_passed, listed_malformed, listed_unread, rise_fall_text_prepared}
use Rattle.commands.proofs.rise_fall_replay.preparing.prepare_behind_net.Goals as goal

pub returns-in_err-delays : goal.returns-in_err-delays
returns-in_err-delays g c begun net =
    let call = rise_fall_replay_call_of c.args.command.now in
    let p = err_from_is_err_and c.from_residual.result c.from_residual.ensures.1 in
    rw (p.1, p.2) (columns_fail (rise_fall_replay_command call) RiseAndFall call.net call.delays c.args.net.now _ _ _ net
    (tests_and_report_stages call.tests call.report ++ tests_and_report_forms 2 ++ Require (own FewChanges) ∷ []) refl _
    c.in_err-delays.ensures.fails)

pub returns-in_err-texts : goal.returns-in_err-texts
returns-in_err-texts g c begun net =
    let call = rise_fall_replay_call_of c.args.command.now in
    let given = rise_fall_of c.args.net.now c.in_ok-delays.delays in
    let delays = c.in_ok-delays.ensures.gives in
    let p = err_from_is_err_and c.from_residual-in_err-texts.result c.from_residual-in_err-texts.ensures.1 in
    rw (p.1, p.2) (listed_unread call net.text.items delays.text.items _ _
    (both_passed call c.args.net.now _ _ _ net given delays) _ _ c.in_err-texts.ensures.fails)

pub returns-in_err-listed : goal.returns-in_err-listed
returns-in_err-listed g c begun net =
    let call = rise_fall_replay_call_of c.args.command.now in
    let given = rise_fall_of c.args.net.now c.in_ok-delays.delays in
    let delays = c.in_ok-delays.ensures.gives in
    let p = err_from_is_err_and c.from_residual-in_err-listed.result c.from_residual-in_err-listed.ensures.1 in
    rw (p.1, p.2) (listed_malformed call net.text.items delays.text.items _ _
    (both_passed call c.args.net.now _ _ _ net given delays) _ c.in_ok-texts.texts c.in_ok-texts.ensures.reads c.args.net.now net.holds _
    c.in_err-listed.ensures.fails)

pub text_at-requires-clause-can : goal.text_at-requires-clause-can
text_at-requires-clause-can g c = record {
  fits = c.in_ok-delays.ensures.fits;
  nameable =
      subst (λ (paths : List ListedPath). All (λ (listed : ListedPath). IsNameable c.args.net.now listed.path) paths) (sym c.as_slice.ensures.value)
      c.in_ok-listed.ensures.spells.report_is.lawful.lawful.nameable;
  small_time = c.requires.small_time;
}

pub text_at-requires-clause-lawful : goal.text_at-requires-clause-lawful
text_at-requires-clause-lawful g c =
    subst (AreLawfulTests c.args.net.now) (sym c.as_slice-2.ensures.value) c.in_ok-listed.ensures.spells.tests_are.lawful

pub text_at-requires-clause-numbers : goal.text_at-requires-clause-numbers
text_at-requires-clause-numbers g c =
    let few = few_tests c.args.net.now c.in_ok-texts.texts.tests.items c.in_ok-listed.listed.tests.items c.in_ok-texts.ensures.within.tests
    c.in_ok-listed.ensures.spells.tests_are in
    subst (λ (listed : List Test). length listed < 2 ^ 32) (sym c.as_slice-2.ensures.value) few

pub returns : goal.returns
returns g c begun net =
    let call = rise_fall_replay_call_of c.args.command.now in
    let given = rise_fall_of c.args.net.now c.in_ok-delays.delays in
    let delays = c.in_ok-delays.ensures.gives in
    rise_fall_text_prepared call net.text.items delays.text.items _ _
    (both_passed call c.args.net.now _ _ _ net given delays) _ c.in_ok-texts.texts c.in_ok-texts.ensures.reads c.args.net.now net.holds given
    delays.holds c.in_ok-listed.listed.tests.items c.in_ok-listed.listed.paths.items c.in_ok-listed.ensures.spells
    c.as_slice-2.result.now c.as_slice-2.ensures.value c.as_slice.result.now c.as_slice.ensures.value
    c.text_at.result c.text_at.ensures.text c.text_at.ensures.few c.text_at.ensures.fails
