-- Where all nodes up to the last one are such, all are.
use Rattle.std.proofs.Common.{sym, ap, ◌∙◌, arith}
use Rattle.std.proofs.lemmas.List.{take_all}
use Rattle.std.specs.List.{list_all}
use Rattle.run_files.specs.ProofsVersions.{is_source_node}
use Rattle.run_files.proofs.version.is_tree_of_sources.Goals as goal

pub returns : goal.returns
returns c =
    sym (ap (list_all (is_source_node c.args.sources)) (sym (take_all c.loop-node.node-index c.args.nodes.now (omega arith))) ∙ c.loop-node.invariant)
