-- The uses of one statement more are checked, and in the end those of all.
use Rattle.std.proofs.Common.{ap, subst, arith}
use Rattle.std.specs.List.{All, Contains}
use Rattle.std.proofs.lemmas.List.{take_all}
use Rattle.netlist.specs.Description.{defined_names, used_names}
use Rattle.net_builder.proofs.Defining.{all_used_more}
use Rattle.net_builder.proofs.defined.first_undefined.Goals as goal

pub loop-place-preserved : goal.loop-place-preserved
loop-place-preserved c =
    let raw = c.args.raw.now in
    all_used_more raw c.loop-place.place (omega arith) (Contains (defined_names raw)) c.loop-place.invariant
    c.in_ok-check_used.ensures.defined

pub returns-clause-defined : goal.returns-clause-defined
returns-clause-defined c =
    let raw = c.args.raw.now in
    subst (All (Contains (defined_names raw))) (ap used_names (take_all c.loop-place.place raw (omega arith))) c.loop-place.invariant
