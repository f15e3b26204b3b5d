-- The text of the proofs file: its version, then one line per proof, the tree in preorder (this project's own format). Whoever
-- writes or reads it cites `proofs_form`: which proof may come next, and its line.
use Rattle.std.specs.Prelude.{⊤, ℕ, ◌+◌, List, ◌∷◌, ◌++◌, Bool, true, false, map, codes, decimal}
use Rattle.std.specs.List.{join_with_byte}
use Rattle.runs.specs.declared.run.Proof.{Proof}
use Rattle.state_laws.specs.declared.split.SplitKind.{SplitKind}
use Rattle.state_laws.specs.declared.split.SplitKind.TheVariants.{LastValue, Steadiness, FirstValue}
use Rattle.trees.specs.declared.tree.Node.{Node}
use Rattle.trees.specs.declared.tree.Node.TheVariants.{Closed, Waiting, Split}
use Rattle.runs.specs.Lawful.{IsLawfulProof}
use Rattle.text_pieces.specs.Tokens.{space, line, direction_word, kind_word}
use Rattle.text_pieces.specs.LineFiles.{Form, lines_text}
use Rattle.run_files.specs.declared.version.ProofsVersion.{ProofsVersion}
use Rattle.run_files.specs.ProofsVersions.{version_line}

-- a split by last value V, by steadiness H, or by first value F
abbrev pub kind_letter : SplitKind → List ℕ
kind_letter LastValue = codes "V"
kind_letter Steadiness = codes "H"
kind_letter FirstValue = codes "F"

-- a closed leaf X, an open one O, a split: its letter and the number of its line
abbrev pub node_text : Node → List ℕ
node_text Closed = codes "X"
node_text Waiting = codes "O"
node_text (Split split) = kind_letter split.kind ++ decimal split.line.0

-- what a proof claims: that the budget was spent, or a refutation
abbrev pub claim_word : Bool → List ℕ
claim_word true = codes "spent"
claim_word false = codes "refutes"

-- a proof: its number, what it claims, kind, transition, path, how many steps, and the nodes of the tree
abbrev pub proof_words : ℕ → Proof → List (List ℕ)
proof_words number proof =
    decimal number ∷ claim_word proof.spent ∷ kind_word proof.kind ∷ direction_word proof.dir ∷ decimal proof.path ∷ decimal proof.steps
    ∷ map node_text proof.tree

-- these words with single spaces between
abbrev pub proof_text : ℕ → Proof → List ℕ
proof_text number proof = join_with_byte space (proof_words number proof)

-- proofs of which each is lawful in this sense, numbered on from the number of the next; the text may end behind each
abbrev pub proofs_form : (Proof → Type 0) → Form ℕ Proof
proofs_form Lawful = record {
  text_of = proof_text;
  Fits = λ number proof. Lawful proof;
  next = λ number proof. number + 1;
  Ends = λ number. ⊤;
}

-- the whole file
abbrev pub proofs_text : ProofsVersion → List Proof → List ℕ
proofs_text version proofs = line (version_line version) ++ lines_text (proofs_form IsLawfulProof) 1 proofs
