-- Texts may be too long; the three files spell no run; or what is told of their run.
use Rattle.std.proofs.Common.{◌∷◌}
use Rattle.std.proofs.lemmas.Result.{err_from_is_err_and}
use Rattle.delay_annotation.specs.Annotation.{delays_of}
use Rattle.command_line.specs.Commands.{run_call_of}
use Rattle.commands.proofs.InputStages as inputs
use Rattle.commands.specs.Check.{check_command}
use Rattle.commands.specs.RunTexts.{run_input_stages}
use Rattle.commands.proofs.CheckStages.{behind_short, run_judged, stages_are, with_claims}
use Rattle.commands.proofs.check.checking.judge_claims.Goals as goal

pub returns-in_err-require_short_texts : goal.returns-in_err-require_short_texts
returns-in_err-require_short_texts g c =
    let p = err_from_is_err_and c.from_residual.result c.from_residual.ensures.1 in
    let call = run_call_of c.args.command.now in
    rw (p.1, p.2) (λ first net delays scans has gives launched before.
    inputs.texts_fail (check_command call) call.paths net (delays ∷ scans) c.args.inputs.now.net has (run_input_stages call) first _ before
    (behind_short call) (stages_are call) _ c.in_err-require_short_texts.ensures.long)

pub returns-in_err-run : goal.returns-in_err-run
returns-in_err-run g c =
    let p = err_from_is_err_and c.from_residual-in_err-run.result c.from_residual-in_err-run.ensures.1 in
    let call = run_call_of c.args.command.now in
    rw (p.1, p.2) (λ first net delays scans has gives launched before.
    c.in_err-run.ensures.reads first net delays scans has launched
    (inputs.texts_passed (check_command call) call.paths net (delays ∷ scans) c.args.inputs.now.net has (run_input_stages call) first _ before
    c.in_ok-require_short_texts.ensures.short))

pub returns : goal.returns
returns g c first net delays scans has gives launched before =
    let call = run_call_of c.args.command.now in
    let it =
    c.in_ok-run.ensures.reads first net delays scans has launched
    (inputs.texts_passed (check_command call) call.paths net (delays ∷ scans) c.args.inputs.now.net has (run_input_stages call) first _ before
    c.in_ok-require_short_texts.ensures.short) in
    run_judged call (with_claims call net delays scans it.texts) c.args.inputs.now.net has c.args.inputs.now.launch launched
    (delays_of c.args.inputs.now.net c.args.inputs.now.delays) gives c.in_ok-run.run' it.spells first _ it.passed c.judge_run.result
    c.judge_run.ensures.good c.judge_run.ensures.fails
