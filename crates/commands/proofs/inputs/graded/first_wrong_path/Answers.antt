-- One path more, and at the end all.
use Rattle.std.proofs.Common.{All, arith, refl, subst}
use Rattle.std.proofs.lemmas.List.{take_all}
use Rattle.std.proofs.lemmas.List.Elements.{All-more}
use Rattle.commands.specs.Grading.{ListsPath}
use Rattle.commands.proofs.inputs.graded.first_wrong_path.Goals as goal

pub loop-place-preserved : goal.loop-place-preserved
loop-place-preserved c =
    All-more (ListsPath c.args.net.now) c.args.paths.now c.loop-place.place c.index-paths-place.result c.loop-place-test.true
    c.loop-place.invariant (subst (ListsPath c.args.net.now) c.index-paths-place.is (c.if-not-is_path.ensures.0 refl))

pub returns : goal.returns
returns c =
    subst (All (ListsPath c.args.net.now)) (take_all c.loop-place.place c.args.paths.now (omega arith)) c.loop-place.invariant
