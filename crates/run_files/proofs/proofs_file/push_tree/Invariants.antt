use Rattle.std.proofs.Common.{◌≡◌, ◌++◌, flat_map, take}
use Rattle.run_files.specs.ProofsText.{node_text}
use Rattle.text_pieces.specs.Tokens.{after_space}
use Rattle.run_files.proofs.proofs_file.push_tree.Given as goal

-- the nodes so far were appended
abbrev pub invariant-loop-node : goal.invariant-loop-node
invariant-loop-node l = l.out.items ≡ l.initial.out.items ++ flat_map (λ node. after_space (node_text node)) (take l.node-index l.nodes)
