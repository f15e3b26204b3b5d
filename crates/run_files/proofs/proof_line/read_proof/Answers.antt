-- A line without a head is that of no proof; with a head and a tree it is that of one.
use Rattle.std.proofs.Common.{Some, List, subst, sym, arith}
use Rattle.trees.specs.Trees.{IsTree}
use Rattle.trees.specs.declared.tree.Node.{Node}
use Rattle.text_pieces.specs.Cuts.{words_left, words_of}
use Rattle.text_pieces.specs.Reads.{Reads}
use Rattle.run_files.specs.ProofsReading.{IsSpelledProof}
use Rattle.run_files.specs.ProofsText.{proof_words}
use Rattle.run_files.proofs.WholeProofs.{few_nodes, no_head, one_proof, proof_of}
use Rattle.run_files.proofs.proof_line.read_proof.Goals as goal

pub returns-in_default : goal.returns-in_default
returns-in_default c = no_head c.args.net.now c.args.version c.args.number (words_of c.args.line.now) c.in_default.ensures

pub from_nodes-requires : goal.from_nodes-requires
from_nodes-requires c =
    let few = few_nodes c.args.net.now c.args.version c.args.number c.args.line.now c.in-Some.head (words_left c.in-Some.left) c.in-Some-2.nodes.items c.requires
    c.in-Some.ensures (rw c.in-Some-2.is at c.in_ok-nodes.ensures) in
    omega (arith, c.in-Some-2.nodes.ok.0)

pub returns : goal.returns
returns c =
    let tree = c.in-Some-from_nodes.ensures.tree in
    subst (λ (nodes : List Node). Reads (proof_words c.args.number) (IsSpelledProof c.args.net.now c.args.version) (words_of c.args.line.now) (Some (proof_of c.in-Some.head nodes)))
    (sym tree)
    (one_proof c.args.net.now c.args.version c.args.number (words_of c.args.line.now) c.in-Some.head (words_left c.in-Some.left) c.in-Some-2.nodes.items
    c.in-Some.ensures (rw c.in-Some-2.is at c.in_ok-nodes.ensures) (subst IsTree tree c.in-Some-from_nodes.ensures.whole))
