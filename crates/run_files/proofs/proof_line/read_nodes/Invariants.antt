use Rattle.std.proofs.Common.{length}
use Rattle.run_files.specs.ProofsVersions.{IsNodeIn}
use Rattle.run_files.specs.ProofsText.{node_text}
use Rattle.text_pieces.specs.Cuts.{words_left}
use Rattle.text_pieces.proofs.Listing.{IsListed}
use Rattle.run_files.proofs.proof_line.read_nodes.Given as goal

-- the words spell the nodes so far, and then those of the words left
abbrev pub invariant-loop-word : goal.invariant-loop-word
invariant-loop-word l = IsListed node_text (IsNodeIn l.net l.fn.version) (words_left l.fn.left) l.nodes.items (words_left l.rest)

abbrev pub decreases-loop-word : goal.decreases-loop-word
decreases-loop-word l = length (words_left l.rest)
