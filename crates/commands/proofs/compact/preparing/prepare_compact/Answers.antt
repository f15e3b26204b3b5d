-- What is passed at each stage, and how the call ends there.
use Rattle.std.proofs.Common.{ℕ, List, [], ◌∷◌, All, refl, sym, ap₂, subst}
use Rattle.std.proofs.lemmas.Result.{err_from_is_err_and}
use Rattle.bench_reader.proofs.LawfulCircuits.{is_circuit}
use Rattle.command_line.specs.CompactForm.{compact_call_of}
use Rattle.netlist.specs.Circuit.{Circuit}
use Rattle.runs.specs.Lawful.{IsLawfulTest}
use Rattle.commands.specs.Compact.{compact_command, out_due}
use Rattle.commands.proofs.CompactStages.{no_memory, prepared, ungraded, unread}
use Rattle.commands.proofs.InputStages.{net_fails}
use Rattle.commands.proofs.KeptTests.{all_left}
use Rattle.commands.proofs.compact.preparing.prepare_compact.Goals as goal

pub returns-in_err-net-clause-prepares : goal.returns-in_err-net-clause-prepares
returns-in_err-net-clause-prepares g c =
    let call = compact_call_of c.args.command.now in
    let p = err_from_is_err_and c.from_residual.result c.from_residual.ensures.1 in
    rw (p.1, p.2) (net_fails (compact_command call) call.net _ refl _ _ _ c.in_err-net.ensures.fails)

pub returns-in_err-texts-clause-prepares : goal.returns-in_err-texts-clause-prepares
returns-in_err-texts-clause-prepares g c =
    let p = err_from_is_err_and c.from_residual-in_err-texts.result c.from_residual-in_err-texts.ensures.1 in
    rw (p.1, p.2) (unread (compact_call_of c.args.command.now) c.in_ok-net.net _ _ _ c.in_ok-net.ensures.gives _ c.in_err-texts.ensures.fails)

pub returns-in_err-listed-clause-prepares : goal.returns-in_err-listed-clause-prepares
returns-in_err-listed-clause-prepares g c =
    let p = err_from_is_err_and c.from_residual-in_err-listed.result c.from_residual-in_err-listed.ensures.1 in
    rw (p.1, p.2) (ungraded (compact_call_of c.args.command.now) c.in_ok-net.net _ _ _ c.in_ok-net.ensures.gives
    c.in_ok-texts.texts c.in_ok-texts.ensures.reads _ c.in_err-listed.ensures.fails)

pub kept_of-requires-clause-circuit : goal.kept_of-requires-clause-circuit
kept_of-requires-clause-circuit g c =
    is_circuit c.in_ok-net.ensures.gives.text.items c.in_ok-net.net c.in_ok-net.ensures.gives.holds

pub kept_of-requires-clause-lawful : goal.kept_of-requires-clause-lawful
kept_of-requires-clause-lawful g c = c.in_ok-listed.ensures.spells.tests_are.lawful

pub returns-in_err-kept_of-clause-prepares : goal.returns-in_err-kept_of-clause-prepares
returns-in_err-kept_of-clause-prepares g c =
    let p = err_from_is_err_and c.from_residual-in_err-kept_of.result c.from_residual-in_err-kept_of.ensures.1 in
    rw (p.1, p.2) (no_memory (compact_call_of c.args.command.now) c.in_ok-net.net _ _ _ c.in_ok-net.ensures.gives c.in_ok-texts.texts
    c.in_ok-texts.ensures.reads _ _ c.in_ok-listed.ensures.spells c.in_ok-listed.ensures.graded)

pub returns-clause-prepares : goal.returns-clause-prepares
returns-clause-prepares g c =
    let made = c.in_ok-kept_of.field-0 in
    prepared (compact_call_of c.args.command.now) c.in_ok-net.net _ _ _ c.in_ok-net.ensures.gives c.in_ok-texts.texts
    c.in_ok-texts.ensures.reads _ _ c.in_ok-listed.ensures.spells c.in_ok-listed.ensures.graded made.tests.items
    c.in_ok-kept_of.ensures.compacted _
    (ap₂ (λ (d : Circuit) (line : List ℕ). record { files = out_due (compact_call_of c.args.command.now) d made.tests.items ∷ []; out = line })
    c.in_ok-kept_of.ensures.net c.in_ok-kept_of.ensures.line)

pub returns-clause-writable : goal.returns-clause-writable
returns-clause-writable g c =
    let made = c.in_ok-kept_of.field-0 in
    subst (λ (d : Circuit). All (IsLawfulTest d) made.tests.items) (sym c.in_ok-kept_of.ensures.net)
    (all_left (IsLawfulTest c.in_ok-net.net) c.in_ok-listed.listed.tests.items made.tests.items c.in_ok-kept_of.ensures.compacted.in_order
    c.in_ok-listed.ensures.spells.tests_are.lawful)
