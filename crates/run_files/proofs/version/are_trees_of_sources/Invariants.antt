use Rattle.std.proofs.Common.{◌≡◌, true, take}
use Rattle.std.specs.List.{list_all}
use Rattle.run_files.specs.ProofsVersions.{is_tree_of_sources}
use Rattle.run_files.proofs.version.are_trees_of_sources.Given as goal

-- all proofs so far are
abbrev pub invariant-loop-proof : goal.invariant-loop-proof
invariant-loop-proof l = list_all (λ proof. is_tree_of_sources l.sources proof.tree) (take l.proof-index l.proofs) ≡ true
