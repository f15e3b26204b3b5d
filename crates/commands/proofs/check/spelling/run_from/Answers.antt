-- The three files were not read, or what they spell.
use Rattle.std.proofs.lemmas.Result.{IfOk-weaker, err_from_is_err_and}
use Rattle.runs.specs.Lawful.{IsLawfulRun}
use Rattle.command_line.specs.Commands.{run_call_of}
use Rattle.commands.specs.SpelledRuns.{SpellsRun}
use Rattle.commands.proofs.CheckStages.{run_read}
use Rattle.commands.proofs.SpelledRuns.{run_is_lawful}
use Rattle.commands.proofs.check.spelling.run_from.Goals as goal

pub returns-in_err-texts-clause-reads : goal.returns-in_err-texts-clause-reads
returns-in_err-texts-clause-reads g c =
    let p = err_from_is_err_and c.from_residual.result c.from_residual.ensures.1 in
    rw (p.1, p.2) (λ first net delays scans has launched before. c.in_err-texts.ensures.reads first net delays scans before)

pub returns-clause-lawful : goal.returns-clause-lawful
returns-clause-lawful g c =
    let texts = c.in_ok-texts.texts in
    IfOk-weaker c.run_in.result (SpellsRun c.args.launch.now c.args.net.now texts.tests.items texts.report.items texts.proofs.items) (IsLawfulRun c.args.net.now)
    (λ run spells. run_is_lawful c.args.launch.now c.args.net.now texts.tests.items texts.report.items texts.proofs.items run spells) c.run_in.ensures.spells

pub returns-clause-reads : goal.returns-clause-reads
returns-clause-reads g c first net delays scans has launched before =
    run_read (run_call_of c.args.command.now) net delays scans c.in_ok-texts.texts c.args.net.now has c.args.launch.now launched first _
    (c.in_ok-texts.ensures.reads first net delays scans before) c.run_in.result c.run_in.ensures.spells c.run_in.ensures.fails
