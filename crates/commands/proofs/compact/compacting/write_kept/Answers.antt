-- OUT was not written; or it is whole, and out was written or not.
use Rattle.std.proofs.Common.{ℕ, List, [], ◌∷◌, refl, subst}
use Rattle.pd_base.specs.declared.test.Test.{Test}
use Rattle.pd_io.specs.Seen.{files_seen, sink_seen}
use Rattle.command_line.specs.CompactForm.{compact_call_of}
use Rattle.calls.specs.Outputs.{FailsToWrite, Prints}
use Rattle.calls.specs.Writing.{AreWhole}
use Rattle.calls.proofs.Outputs.{fails_behind, none_whole, printed, unwritten}
use Rattle.commands.specs.Compact.{kept_products, out_due}
use Rattle.commands.proofs.compact.compacting.write_kept.Goals as goal

pub returns-in-Err : goal.returns-in-Err
returns-in-Err g c =
    let call = compact_call_of c.args.command.now in
    let fails = subst (λ (tests : List Test). FailsToWrite (out_due call c.args.made.now.net tests) c.in-Err.ending
    (files_seen g.F.Files c.args.files.now) (files_seen g.F.Files c.write_out.new.files)) c.as_slice.ensures.value c.in-Err.ensures.unwritten in
    unwritten _ _ _ _ (fails_behind [] (out_due call c.args.made.now.net c.args.made.now.tests.items) [] _ _ _ _ (none_whole _) fails) refl

pub returns-in-Ok : goal.returns-in-Ok
returns-in-Ok g c =
    let call = compact_call_of c.args.command.now in
    let made = c.args.made.now in
    let whole = subst (λ (tests : List Test). AreWhole (out_due call made.net tests ∷ [])
    (files_seen g.F.Files c.args.files.now) (files_seen g.F.Files c.write_out.new.files)) c.as_slice.ensures.value c.in-Ok.ensures.whole in
    let prints = subst (λ (text : List ℕ). Prints text c.print.result (sink_seen g.O.Sink c.args.out.now)
    (sink_seen g.O.Sink c.print.new.out)) c.as_slice-in-Ok.ensures.value c.print.ensures in
    printed (kept_products call made) _ _ _ whole prints
