-- What is passed at each stage, and how the call ends there.
use Rattle.std.proofs.Common.{◌<◌, ◌^◌, ℕ, List, All, length, refl, sym, subst}
use Rattle.std.proofs.lemmas.Result.{err_from_is_err_and}
use Rattle.command_line.specs.BoundsForm.{bounds_call_of}
use Rattle.pd_base.specs.declared.test.Test.{Test}
use Rattle.delay_bounds.specs.Bounds.{NamesTest}
use Rattle.delay_bounds.specs.LogFile.{IsLog}
use Rattle.delay_bounds.specs.declared.log_row.LogRow.{LogRow}
use Rattle.delay_bounds.proofs.LogLaws.{log_names}
use Rattle.commands.specs.Bounds.{bounds_command}
use Rattle.commands.specs.Inside.BoundsJudging.{FailsLog, TellsBounds}
use Rattle.commands.proofs.BoundsStages.{log_unread, no_log, no_memory, prepared, ungraded, unread}
use Rattle.commands.proofs.InputStages.{net_fails}
use Rattle.commands.proofs.TestCounts.{few_tests}
use Rattle.commands.proofs.bounds.preparing.prepare_bounds.Goals as goal

pub returns-in_err-net : goal.returns-in_err-net
returns-in_err-net g c =
    let call = bounds_call_of c.args.command.now in
    let p = err_from_is_err_and c.from_residual.result c.from_residual.ensures.1 in
    rw (p.1, p.2) (net_fails (bounds_command call) call.net _ refl _ _ _ c.in_err-net.ensures.fails)

pub returns-in_err-texts : goal.returns-in_err-texts
returns-in_err-texts g c =
    let p = err_from_is_err_and c.from_residual-in_err-texts.result c.from_residual-in_err-texts.ensures.1 in
    rw (p.1, p.2) (unread (bounds_call_of c.args.command.now) c.in_ok-net.net _ _ _ c.in_ok-net.ensures.gives _ c.in_err-texts.ensures.fails)

pub returns-in_err-log : goal.returns-in_err-log
returns-in_err-log g c =
    let p = err_from_is_err_and c.from_residual-in_err-log.result c.from_residual-in_err-log.ensures.1 in
    rw (p.1, p.2) (log_unread (bounds_call_of c.args.command.now) c.in_ok-net.net _ _ _ c.in_ok-net.ensures.gives c.in_ok-texts.texts
    c.in_ok-texts.ensures.reads _ _ c.in_err-log.ensures.failed)

pub returns-in_err-listed : goal.returns-in_err-listed
returns-in_err-listed g c =
    let p = err_from_is_err_and c.from_residual-in_err-listed.result c.from_residual-in_err-listed.ensures.1 in
    rw (p.1, p.2) (ungraded (bounds_call_of c.args.command.now) c.in_ok-net.net _ _ _ c.in_ok-net.ensures.gives c.in_ok-texts.texts
    c.in_ok-texts.ensures.reads _ c.in_ok-log.log c.in_ok-log.ensures.read _ c.in_err-listed.ensures.fails)

pub log_in-requires-clause-few : goal.log_in-requires-clause-few
log_in-requires-clause-few g c =
    subst (λ (tests : List Test). length tests < 2 ^ 32) (sym c.as_slice.ensures.value)
    (few_tests c.in_ok-net.net c.in_ok-texts.texts.tests.items c.in_ok-listed.listed.tests.items c.in_ok-texts.ensures.within.tests
    c.in_ok-listed.ensures.spells.tests_are)

pub returns-in_err-rows : goal.returns-in_err-rows
returns-in_err-rows g c =
    let p = err_from_is_err_and c.from_residual-in_err-rows.result c.from_residual-in_err-rows.ensures.1 in
    rw (p.1, p.2) (no_log (bounds_call_of c.args.command.now) c.in_ok-net.net _ _ _ c.in_ok-net.ensures.gives c.in_ok-texts.texts
    c.in_ok-texts.ensures.reads _ c.in_ok-log.log c.in_ok-log.ensures.read _ _ c.in_ok-listed.ensures.spells c.in_ok-listed.ensures.graded _
    (subst (λ (tests : List Test). FailsLog (length tests) c.in_ok-log.log.items c.in_err-rows.field-0.0) c.as_slice.ensures.value
    (subst (λ (text : List ℕ). FailsLog (length c.as_slice.result.now) text c.in_err-rows.field-0.0) c.as_slice-2.ensures.value
    c.in_err-rows.ensures.fails)))

pub text_for-requires-clause-named : goal.text_for-requires-clause-named
text_for-requires-clause-named g c =
    let tests = c.in_ok-listed.listed.tests.items in
    let is_log = subst (λ (t : List Test). IsLog (length t) c.in_ok-log.log.items c.in_ok-rows.rows.items) c.as_slice.ensures.value
    (subst (λ (text : List ℕ). IsLog (length c.as_slice.result.now) text c.in_ok-rows.rows.items) c.as_slice-2.ensures.value
    c.in_ok-rows.ensures.log) in
    subst (All (NamesTest (length tests))) (sym c.as_slice-3.ensures.value)
    (log_names (length tests) c.in_ok-log.log.items c.in_ok-rows.rows.items is_log)

pub returns-in_err-text_for : goal.returns-in_err-text_for
returns-in_err-text_for g c =
    let p = err_from_is_err_and c.from_residual-in_err-text_for.result c.from_residual-in_err-text_for.ensures.1 in
    let is_log = subst (λ (t : List Test). IsLog (length t) c.in_ok-log.log.items c.in_ok-rows.rows.items) c.as_slice.ensures.value
    (subst (λ (text : List ℕ). IsLog (length c.as_slice.result.now) text c.in_ok-rows.rows.items) c.as_slice-2.ensures.value
    c.in_ok-rows.ensures.log) in
    rw (p.1, p.2) (no_memory (bounds_call_of c.args.command.now) c.in_ok-net.net _ _ _ c.in_ok-net.ensures.gives c.in_ok-texts.texts
    c.in_ok-texts.ensures.reads _ c.in_ok-log.log c.in_ok-log.ensures.read _ _ c.in_ok-listed.ensures.spells c.in_ok-listed.ensures.graded
    c.in_ok-rows.rows.items is_log)

pub returns : goal.returns
returns g c =
    let tests = c.in_ok-listed.listed.tests.items in
    let paths = c.in_ok-listed.listed.paths.items in
    let is_log = subst (λ (t : List Test). IsLog (length t) c.in_ok-log.log.items c.in_ok-rows.rows.items) c.as_slice.ensures.value
    (subst (λ (text : List ℕ). IsLog (length c.as_slice.result.now) text c.in_ok-rows.rows.items) c.as_slice-2.ensures.value
    c.in_ok-rows.ensures.log) in
    prepared (bounds_call_of c.args.command.now) c.in_ok-net.net _ _ _ c.in_ok-net.ensures.gives c.in_ok-texts.texts
    c.in_ok-texts.ensures.reads _ c.in_ok-log.log c.in_ok-log.ensures.read _ _ c.in_ok-listed.ensures.spells c.in_ok-listed.ensures.graded
    c.in_ok-rows.rows.items is_log c.in_ok-text_for.field-0.items
    (subst (λ (rows : List LogRow). TellsBounds c.in_ok-net.net tests paths rows c.in_ok-text_for.field-0.items) c.as_slice-3.ensures.value
    c.in_ok-text_for.ensures)
