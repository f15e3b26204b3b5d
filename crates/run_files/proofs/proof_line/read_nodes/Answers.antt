-- A word is a node, or the words are no nodes.
use Rattle.std.proofs.Common.{◌≡◌, ◌++◌, ◌∷◌, []}
use Rattle.run_files.specs.ProofsVersions.{IsNodeIn}
use Rattle.run_files.specs.ProofsText.{node_text}
use Rattle.text_pieces.specs.Cuts.{words_left}
use Rattle.text_pieces.proofs.Listing.{all_listed, not_listed, one_more}
use Rattle.run_files.proofs.proof_line.read_nodes.Goals as goal

pub returns-in_default-read_node : goal.returns-in_default-read_node
returns-in_default-read_node c =
    not_listed node_text (IsNodeIn c.args.net.now c.args.version) (words_left c.args.left) c.loop-word.nodes.items (words_left c.loop-word.rest) c.in-Some.word.now
    (words_left c.in-Some.behind) c.loop-word.invariant c.in-Some.ensures c.in_default-read_node.ensures

pub loop-word-preserved : goal.loop-word-preserved
loop-word-preserved c =
    let pushed : c.push.new.self.items ≡ c.loop-word.nodes.items ++ c.in-Some-read_node.node ∷ [] = c.in_ok-push.ensures.items in
    rw pushed
    (one_more node_text (IsNodeIn c.args.net.now c.args.version) (words_left c.args.left) c.loop-word.nodes.items (words_left c.loop-word.rest) c.in-Some-read_node.node
    c.in-Some.word.now (words_left c.in-Some.behind) c.loop-word.invariant c.in-Some.ensures c.in-Some-read_node.ensures)

pub returns : goal.returns
returns c =
    all_listed node_text (IsNodeIn c.args.net.now c.args.version) (words_left c.args.left) c.loop-word.nodes.items (words_left c.loop-word.rest) c.loop-word.invariant
    c.in_default.ensures
