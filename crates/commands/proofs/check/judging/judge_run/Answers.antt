-- The run is good, or its first flaw is told.
use Rattle.std.proofs.Common.{Ok, ap, refl, subst, ◌∙◌}
use Rattle.delay_annotation.specs.Annotation.{delays_of}
use Rattle.claim_check.specs.Claims.{TellsOfRun}
use Rattle.commands.specs.Inside.InputJudging as found
use Rattle.commands.proofs.check.judging.judge_run.Goals as goal

pub returns-in-Ok-Holds-clause-good : goal.returns-in-Ok-Holds-clause-good
returns-in-Ok-Holds-clause-good c = record {
  good = c.in-Ok-Holds.ensures.exactly.0 c.in-Ok-Holds.field-0-is;
  promises = c.check_run.ensures.promises (c.in-Ok-Holds.is ∙ ap Ok c.in-Ok-Holds.field-0-is);
}

pub returns-in-Ok-Fails-clause-fails : goal.returns-in-Ok-Fails-clause-fails
returns-in-Ok-Fails-clause-fails c =
    found.refused c.flawed.result refl (record {
      item = c.in-Ok-Fails.item;
      flaw = c.in-Ok-Fails.flaw;
      is_first = subst
          (TellsOfRun c.args.net.now (delays_of c.args.net.now c.args.delays.now) c.args.command.now.paths c.args.command.now.budget
          c.args.run.now) c.in-Ok-Fails.field-0-is c.in-Ok-Fails.ensures.tells;
      is = c.flawed.ensures;
    })
