-- The words are the arguments; or there was no memory for them.
use Rattle.std.proofs.Common.{ℕ, List, refl, ap, subst, ◌∙◌}
use Rattle.pd_base.specs.Memory.{out_of_memory}
use Rattle.pd_io.specs.Seen.{outside}
use Rattle.command_line.specs.Commands.{bytes_of_words}
use Rattle.calls.specs.declared.ending.Ending.TheVariants.{NoMemory}
use Rattle.calls.specs.Calls.{Ends, stopped}
use Rattle.calls.proofs.Stages.{begun, stops_for_memory}
use Rattle.commands.specs.Commands.{asked_work}
use Rattle.commands.proofs.exiting.call_with.Goals as goal

pub returns-in-Ok : goal.returns-in-Ok
returns-in-Ok g c =
    let old = outside g.F.Files g.O.Sink g.E.Sink c.args.files.now c.args.out.now c.args.err.now in
    let new = outside g.F.Files g.O.Sink g.E.Sink c.run.new.files c.run.new.out c.run.new.err in
    subst (λ (words : List (List ℕ)). Ends (asked_work words) c.run.result old new)
    (ap bytes_of_words c.as_slice.ensures.value ∙ c.in-Ok.ensures) c.run.ensures.ends

pub returns-in-Err : goal.returns-in-Err
returns-in-Err g c = record {
  ending = NoMemory out_of_memory;
  performed = stopped (stops_for_memory _ (begun _ _) (_, refl)) refl;
  reported = c.tell.ensures;
}
