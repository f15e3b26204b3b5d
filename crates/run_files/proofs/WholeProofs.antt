-- A proof's line is its head and its tree.
use Rattle.std.proofs.Common.{◌≡◌, ◌<◌, ◌^◌, ℕ, List, All, Option, Some, None, length, map, ap, ◌∙◌, arith}
use Rattle.std.proofs.lemmas.List.{length-map}
use Rattle.std.proofs.lemmas.Option.{none-some, same_Some}
use Rattle.netlist.specs.Circuit.{Circuit}
use Rattle.runs.specs.declared.run.Proof.{Proof}
use Rattle.trees.specs.declared.tree.Node.{Node}
use Rattle.trees.specs.Trees.{IsTree}
use Rattle.text_pieces.specs.Tokens.{space}
use Rattle.text_pieces.specs.Cuts.{words_of}
use Rattle.text_pieces.specs.Reads.{Reads}
use Rattle.text_pieces.proofs.Cuts.{few_pieces}
use Rattle.run_files.specs.ProofsText.{node_text, proof_words}
use Rattle.run_files.specs.ProofsReading.{proof_head_words, IsProofHead, IsSpelledProof}
use Rattle.run_files.specs.ProofsVersions.{IsNodeIn}
use Rattle.run_files.specs.declared.proof_head.ProofHead.{ProofHead}
use Rattle.run_files.specs.declared.version.ProofsVersion.{ProofsVersion}

-- the proof of a head and a tree
abbrev pub proof_of : ProofHead → List Node → Proof
proof_of head nodes = record { spent = head.spent; kind = head.kind; dir = head.dir; path = head.path; steps = head.steps; tree = nodes }

-- the head of a proof
abbrev pub head_of : Proof → ProofHead
head_of proof = record { spent = proof.spent; kind = proof.kind; dir = proof.dir; path = proof.path; steps = proof.steps }

abbrev pub ReadsHead : ℕ → List (List ℕ) → Option (ProofHead × List (List ℕ)) → Type 0
ReadsHead number words read = Reads (proof_head_words number) IsProofHead words read

abbrev pub ReadsNodes : Circuit → ProofsVersion → List (List ℕ) → Option (List Node) → Type 0
ReadsNodes c version words read = Reads (λ nodes. map node_text nodes) (All (IsNodeIn c version)) words read

module _ (c : Circuit) (version : ProofsVersion) (number : ℕ) (words : List (List ℕ)) where
  -- the words of a proof's line are read as its head, and the words of its tree
  head_read : (read : Option (ProofHead × List (List ℕ))) → ReadsHead number words read → (proof : Proof) → IsSpelledProof c version proof
      → words ≡ proof_words number proof → read ≡ Some (head_of proof, map node_text proof.tree)
  head_read read reads proof spelled is =
      reads.only (head_of proof, map node_text proof.tree) (record { path = spelled.lawful.path; steps = spelled.lawful.steps }) is

  pub no_head : ReadsHead number words None → Reads (proof_words number) (IsSpelledProof c version) words None
  no_head reads = record {
    found = tt;
    only = λ proof spelled is. absurd (none-some _ (head_read None reads proof spelled is));
  }

  pub one_proof : (head : ProofHead) (left : List (List ℕ)) (nodes : List Node) → ReadsHead number words (Some (head, left))
      → ReadsNodes c version left (Some nodes) → IsTree nodes → Reads (proof_words number) (IsSpelledProof c version) words (Some (proof_of head nodes))
  one_proof head left nodes heads trees tree = record {
    found = (
      record { lawful = record { path = heads.found.0.path; steps = heads.found.0.steps }; nodes = trees.found.0; whole = tree },
      heads.found.1 ∙ ap (λ rest. proof_head_words number (head, rest)) trees.found.1,
    );
    only = λ proof spelled is.
        let same = same_Some _ _ (head_read (Some (head, left)) heads proof spelled is) in
        let left_is : left ≡ map node_text proof.tree = ap (λ (read : ProofHead × List (List ℕ)). read.1) same in
        let head_is = ap (λ (read : ProofHead × List (List ℕ)). read.0) same in
        let nodes_are : nodes ≡ proof.tree = same_Some _ _ (trees.only proof.tree spelled.nodes left_is) in
        (λ i. Some (proof_of (head_is i) (nodes_are i)));
  }

-- a line that is not too long has not too many nodes
pub few_nodes : (c : Circuit) (version : ProofsVersion) (number : ℕ) (text : List ℕ) (head : ProofHead) (left : List (List ℕ)) (nodes : List Node) → length text < 2 ^ 30
    → ReadsHead number (words_of text) (Some (head, left)) → ReadsNodes c version left (Some nodes) → length nodes < 2 ^ 31
few_nodes c version number text head left nodes short heads trees =
    omega (arith, few_pieces space text, ap length heads.found.1, ap length trees.found.1, length-map nodes node_text)
