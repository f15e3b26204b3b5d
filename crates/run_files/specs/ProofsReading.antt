-- What is read of a proofs file (this project's own format).
use Rattle.std.specs.Prelude.{◌≡◌, ◌≢◌, ◌≤◌, ⊤, ℕ, ◌+◌, List, ◌∷◌, ◌++◌, All, decimal, Option, Some, None, Result, Ok, Err}
use Rattle.std.specs.Borrow.{Bor}
use Rattle.std.specs.Global.{Vec}
use Rattle.netlist.specs.Circuit.{Circuit}
use Rattle.runs.specs.declared.run.Proof.{Proof}
use Rattle.runs.specs.Lawful.{AreLawfulProofs, IsLawfulProof, IsPathNumber}
use Rattle.trees.specs.Trees.{IsTree}
use Rattle.netlist.specs.declared.limits.TheConstants.{MOST_LEVELS}
use Rattle.text_pieces.specs.Tokens.{direction_word, kind_word, line}
use Rattle.text_pieces.specs.LineFiles.{Form, lines_text, IsWhole, LacksForm}
use Rattle.text_pieces.specs.Cuts.{words_left}
use Rattle.text_pieces.specs.Reads.{Reads}
use Rattle.run_files.specs.ProofsText.{claim_word, proofs_form, proofs_text}
use Rattle.run_files.specs.ProofsVersions.{IsNodeIn, version_line, version_number}
use Rattle.run_files.specs.declared.fault.TextFault.{TextFault}
use Rattle.run_files.specs.declared.fault.TextFault.TheVariants.{Malformed, NoMemory}
use Rattle.run_files.specs.declared.proof_head.ProofClaim.{ProofClaim}
use Rattle.run_files.specs.declared.proof_head.ProofHead.{ProofHead}
use Rattle.run_files.specs.declared.proof_head.ProofPrefix.{ProofPrefix}
use Rattle.run_files.specs.declared.version.ProofsVersion.{ProofsVersion}

-- a proof that a proofs file of this circuit and version may list. That its nodes are those of one tree is known of each value of the
-- program, and is said here of any value
pub record IsSpelledProof (c : Circuit) (version : ProofsVersion) (proof : Proof) : Type 0 where
  pub lawful : IsLawfulProof proof
  pub nodes : All (IsNodeIn c version) proof.tree
  pub whole : IsTree proof.tree

-- the proofs that it may list
pub record AreSpelledProofs (c : Circuit) (version : ProofsVersion) (proofs : List Proof) : Type 0 where
  pub lawful : AreLawfulProofs proofs
  pub nodes : All (λ proof. All (IsNodeIn c version) proof.tree) proofs
  pub whole : All (λ proof. IsTree proof.tree) proofs

-- how such proofs stand one behind another
abbrev pub spelled_form : Circuit → ProofsVersion → Form ℕ Proof
spelled_form c version = proofs_form (IsSpelledProof c version)

-- The line of this number is the first one of a proofs file that lacks its form: the text begins with the line of no version, or the
-- line is one behind it.
pub data IsFirstBadProofLine (c : Circuit) (text : List ℕ) : ℕ → Type 0 where
  no_version : ((version : ProofsVersion) (rest : List ℕ) → text ≢ line (version_line version) ++ rest) → IsFirstBadProofLine c text 1
  no_proof : (version : ProofsVersion) (rest : List ℕ) (number : ℕ) → text ≡ line (version_line version) ++ rest
      → LacksForm (spelled_form c version) 1 rest number → IsFirstBadProofLine c text (number + 1)

-- what a text is read as: its version, and the proofs that it spells
abbrev pub ReadsProofs : Circuit → List ℕ → Option (ProofsVersion × List Proof) → Type 0
ReadsProofs c text read =
    Reads (λ (file : ProofsVersion × List Proof). proofs_text file.0 file.1) (λ file. AreSpelledProofs c file.0 file.1) text read

-- What a reader of proofs files answers of a text: its version, and the lawful proofs whose file it is; or, where it is that of no
-- lawful proofs, the first line that lacks its form; or that memory ran out.
abbrev pub ProofsAnswer : Circuit → List ℕ → Result (ℕ × Vec Proof) TextFault → Type 0
ProofsAnswer c text (Ok read) =
    (version : ProofsVersion) × (read.0 ≡ version_number version) × ReadsProofs c text (Some (version, read.1.items))
ProofsAnswer c text (Err (Malformed number)) = ReadsProofs c text None × IsFirstBadProofLine c text number
ProofsAnswer c text (Err (NoMemory _)) = ⊤

-- what is answered of the lines behind the first, that of this version
abbrev pub ProofLinesAnswer : Circuit → ProofsVersion → List ℕ → Result (Vec Proof) TextFault → Type 0
ProofLinesAnswer c version text (Ok proofs) =
    Reads (lines_text (spelled_form c version) 1) (IsWhole (spelled_form c version) 1) text (Some proofs.items)
ProofLinesAnswer c version text (Err (Malformed number)) =
    Reads (lines_text (spelled_form c version) 1) (IsWhole (spelled_form c version) 1) text None
    × ((above : ℕ) × (number ≡ above + 1) × LacksForm (spelled_form c version) 1 text above)
ProofLinesAnswer c version text (Err (NoMemory _)) = ⊤

-- the first line of a version, and a text behind it
abbrev pub version_at_front : ProofsVersion × List ℕ → List ℕ
version_at_front read = line (version_line read.0) ++ read.1

-- what was read of the first line, with the text that is left
abbrev pub version_lent : ProofsVersion × Bor (List ℕ) → ProofsVersion × List ℕ
version_lent read = (read.0, read.1.now)

-- the words of a proof's line, where those of its tree are these
abbrev pub proof_head_words : ℕ → ProofHead × List (List ℕ) → List (List ℕ)
proof_head_words number read =
    decimal number ∷ claim_word read.0.spent ∷ kind_word read.0.kind ∷ direction_word read.0.dir ∷ decimal read.0.path ∷ decimal read.0.steps
    ∷ read.1

-- its numbers are within their limits
pub record IsProofHead (read : ProofHead × List (List ℕ)) : Type 0 where
  pub path : IsPathNumber read.0.path
  pub steps : read.0.steps ≤ MOST_LEVELS

-- what was read before the tree, with the words that are left
abbrev pub proof_head_lent : ProofHead × Option (Bor (List ℕ)) → ProofHead × List (List ℕ)
proof_head_lent read = (read.0, words_left read.1)

-- the words of a proof's number and of what it claims, where those behind them are these
abbrev pub numbered_claim_words : ℕ → ProofClaim × List (List ℕ) → List (List ℕ)
numbered_claim_words number read = decimal number ∷ claim_word read.0.spent ∷ kind_word read.0.kind ∷ read.1

-- what it claims, with the words that are left
abbrev pub claim_lent : ProofClaim × Option (Bor (List ℕ)) → ProofClaim × List (List ℕ)
claim_lent read = (read.0, words_left read.1)

-- the words of where it claims that, where those behind them are these
abbrev pub prefix_words : ProofPrefix × List (List ℕ) → List (List ℕ)
prefix_words read = direction_word read.0.dir ∷ decimal read.0.path ∷ decimal read.0.steps ∷ read.1

-- its numbers are within their limits
pub record IsProofPrefix (read : ProofPrefix × List (List ℕ)) : Type 0 where
  pub path : IsPathNumber read.0.path
  pub steps : read.0.steps ≤ MOST_LEVELS

-- where it claims that, with the words that are left
abbrev pub prefix_lent : ProofPrefix × Option (Bor (List ℕ)) → ProofPrefix × List (List ℕ)
prefix_lent read = (read.0, words_left read.1)
