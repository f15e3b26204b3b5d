-- Where all proofs up to the last one are such, all are.
use Rattle.std.proofs.Common.{sym, ap, ◌∙◌, arith}
use Rattle.std.proofs.lemmas.List.{take_all}
use Rattle.std.specs.List.{list_all}
use Rattle.run_files.specs.ProofsVersions.{is_tree_of_sources}
use Rattle.run_files.proofs.version.are_trees_of_sources.Goals as goal

pub returns : goal.returns
returns c =
    sym (ap (list_all (λ proof. is_tree_of_sources c.args.sources proof.tree)) (sym (take_all c.loop-proof.proof-index c.args.proofs.now (omega arith)))
    ∙ c.loop-proof.invariant)
