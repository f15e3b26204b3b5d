-- The run is a good one of the ladder, and the line is its own.
use Rattle.std.proofs.Common.{◌≡◌, []}
use Rattle.std.proofs.lemmas.Result.{IfOk-weaker}
use Rattle.delay_annotation.specs.Annotation.{delays_of}
use Rattle.run_files.specs.LadderLine.{ladder_line}
use Rattle.commands.specs.Make.{GivesLadder}
use Rattle.commands.proofs.MakeLaws.{gives_ladder}
use Rattle.commands.proofs.making.line_on.Goals as goal

pub returns : goal.returns
returns c =
    let net = c.args.net.now in
    let run = c.in_ok-run.run' in
    IfOk-weaker c.ladder_line.result (λ text. text.items ≡ ladder_line c.args.stages net run)
    (λ text. GivesLadder c.args.stages (record { files = []; out = text.items }))
    (λ text told. gives_ladder c.args.stages net c.sources.ensures.circuit (delays_of net c.in_ok-delays.delays) run text.items c.requires
    c.in_ok-delays.ensures.unit c.in_ok-run.ensures.rules c.in_ok-run.ensures.good told) c.ladder_line.ensures
