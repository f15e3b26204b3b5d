-- How long a proofs file of a call is at most.
use Rattle.std.proofs.Common.{◌≡◌, ◌≤◌, ◌<◌, ◌+◌, ◌*◌, ℕ, Bool, true, false, cond, List, [], ◌∷◌, length, map, decimal, length-append, refl, sym, ap, ◌∙◌, arith, All}
use Rattle.std.specs.List.{AllByRecursion}
use Rattle.std.proofs.lemmas.Fmt.{length-decimal-le}
use Rattle.std.proofs.lemmas.List.Elements.{recursion_from_All}
use Rattle.std.proofs.lemmas.List.Sums.{sum_by-cons}
use Rattle.std.proofs.lemmas.Nat.{mul-le}
use Rattle.pd_base.specs.declared.limits.TheConstants.{MOST_BYTES, MOST_PATHS}
use Rattle.netlist.specs.Circuit.{Circuit, line_count}
use Rattle.netlist.specs.Lawful.{IsCircuit}
use Rattle.runs.specs.declared.run.Proof.{Proof}
use Rattle.state_laws.specs.declared.split.SplitKind.{SplitKind}
use Rattle.state_laws.specs.declared.split.SplitKind.TheVariants.{LastValue, Steadiness, FirstValue}
use Rattle.trees.specs.declared.tree.Node.{Node}
use Rattle.trees.specs.declared.tree.Node.TheVariants.{Closed, Waiting, Split}
use Rattle.runs.specs.Lawful.{IsLawfulProof}
use Rattle.trees.specs.Trees.{is_split, split_count, IsTree}
use Rattle.trees.proofs.Ending.{nodes_and_splits}
use Rattle.text_pieces.specs.Tokens.{direction_word, kind_word, line, space}
use Rattle.text_pieces.specs.LineFiles.{lines_text}
use Rattle.run_files.specs.ProofsText.{claim_word, node_text, proof_text, proofs_form, proofs_text, kind_letter}
use Rattle.run_files.specs.ProofsVersions.{lines_to_split, version_line, IsNodeIn}
use Rattle.run_files.specs.declared.version.ProofsVersion.{ProofsVersion}
use Rattle.run_files.specs.declared.version.ProofsVersion.TheVariants.{First, Second, Third, Fourth, Fifth}
use Rattle.command_line.specs.declared.forms.run.TheConstants.{MOST_PRODUCT}
use Rattle.commands.proofs.TextBounds.{bytes_of, direction_length, joined_length, kind_within, line_length, lines_within}

-- a line for each proof, and four proofs for each path
proofs_product : (paths budget : ℕ) → paths ≤ MOST_PATHS → paths * budget ≤ MOST_PRODUCT → 4 * paths * (10 * budget + 50) ≤ 162000000
proofs_product paths budget few product = omega arith

claim_within : (spent : Bool) → length (claim_word spent) ≤ 7
claim_within true = omega arith
claim_within false = omega arith

version_length : (version : ProofsVersion) → length (version_line version) ≡ 15
version_length First = refl
version_length Second = refl
version_length Third = refl
version_length Fourth = refl
version_length Fifth = refl

letter_length : (kind : SplitKind) → length (kind_letter kind) ≡ 1
letter_length LastValue = refl
letter_length Steadiness = refl
letter_length FirstValue = refl

-- a list of nodes has so many splits as that behind the first, and one more where this is one
splits_first : (node : Node) (nodes : List Node) → split_count (node ∷ nodes) ≡ cond (is_split node) 1 0 + split_count nodes
splits_first node nodes = sum_by-cons (λ n. cond (is_split n) 1 0) node nodes

-- lines at which trees of a version may split are those of the circuit
split_line_within : (c : Circuit) (version : ProofsVersion) (line : ℕ) → line < lines_to_split c version → line < line_count c
split_line_within c First line within = omega arith
split_line_within c Second line within = omega arith
split_line_within c Third line within = omega arith
split_line_within c Fourth line within = within
split_line_within c Fifth line within = within

module _ (c : Circuit) (circuit : IsCircuit c) (version : ProofsVersion) where
  line_digits : (line : ℕ) → line < lines_to_split c version → length (decimal line) ≤ 6
  line_digits line within =
      let lines = circuit.few_lines in
      let in_circuit = split_line_within c version line within in
      length-decimal-le 6 line (omega arith) (omega arith) (omega arith)

  -- two bytes for each node, and six more for each split
  nodes_within : (nodes : List Node) → AllByRecursion (IsNodeIn c version) nodes → bytes_of (map node_text nodes) ≤ 2 * length nodes + 6 * split_count nodes
  nodes_within [] on = omega arith
  nodes_within (Closed ∷ nodes) on = omega (arith, splits_first Closed nodes, nodes_within nodes on.1)
  nodes_within (Waiting ∷ nodes) on = omega (arith, splits_first Waiting nodes, nodes_within nodes on.1)
  nodes_within (Split split ∷ nodes) on =
      omega (
        arith,
        splits_first (Split split) nodes,
        nodes_within nodes on.1,
        length-append (kind_letter split.kind) (decimal split.line.0),
        letter_length split.kind,
        line_digits split.line.0 on.0.line,
      )

  -- ten bytes for each split, and two for the leaf that there is one more
  tree_within : (nodes : List Node) → IsTree nodes → AllByRecursion (IsNodeIn c version) nodes → bytes_of (map node_text nodes) ≤ 10 * split_count nodes + 2
  tree_within nodes tree on =
      let count : length nodes ≡ 2 * split_count nodes + 1 =
      ap length tree.1 ∙ nodes_and_splits tree.0 ∙ ap (λ (ns : List Node). 2 * split_count ns + 1) (sym tree.1) in
      omega (arith, nodes_within nodes on, count)

  module _ (budget : ℕ) where
    -- a proof that a proofs file may list, whose tree has no more splits than the budget
    pub record IsShortProof (proof : Proof) : Type 0 where
      pub lawful : IsLawfulProof proof
      pub nodes : All (IsNodeIn c version) proof.tree
      pub whole : IsTree proof.tree
      pub few_splits : split_count proof.tree ≤ budget

    proof_line_within : (number : ℕ) (proof : Proof) → number < 100000 → IsShortProof proof
        → length (line (proof_text number proof)) ≤ 10 * budget + 50
    proof_line_within number proof few is =
        let own = length-decimal-le 5 number (omega arith) (omega arith) (omega arith) in
        let path = length-decimal-le 5 proof.path (omega arith) (omega (arith, is.lawful.path.within)) (omega (arith, is.lawful.path.within)) in
        let steps = length-decimal-le 4 proof.steps (omega arith) (omega (arith, is.lawful.steps)) (omega (arith, is.lawful.steps)) in
        let splits = is.few_splits in
        omega (
          arith,
          line_length (proof_text number proof),
          joined_length space (decimal number) (claim_word proof.spent ∷ kind_word proof.kind ∷ direction_word proof.dir ∷ decimal proof.path
              ∷ decimal proof.steps ∷ map node_text proof.tree),
          own,
          claim_within proof.spent,
          kind_within proof.kind,
          direction_length proof.dir,
          path,
          steps,
          tree_within proof.tree is.whole (recursion_from_All (IsNodeIn c version) proof.tree is.nodes),
          splits,
        )

    -- such proofs, numbered on from this number
    record AreFewProofs (number : ℕ) (proofs : List Proof) : Type 0 where
      few : number + length proofs ≤ 40001
      each : AllByRecursion IsShortProof proofs

    next_proof : (number : ℕ) (proof : Proof) (proofs : List Proof) → AreFewProofs number (proof ∷ proofs)
        → (length (line (proof_text number proof)) ≤ 10 * budget + 50) × AreFewProofs (number + 1) proofs
    next_proof number proof proofs are =
        let few = are.few in (
          proof_line_within number proof (omega arith) are.each.0,
          record { few = omega arith; each = are.each.1 },
        )

    -- the proofs of so many paths, four for each, where the product of paths and budget is within its limit
    pub proofs_within : (paths : ℕ) (proofs : List Proof) → paths ≤ MOST_PATHS → paths * budget ≤ MOST_PRODUCT
        → All IsShortProof proofs → length proofs ≤ 4 * paths → length (proofs_text version proofs) ≤ MOST_BYTES
    proofs_within paths proofs few product each four_each =
        let lines = lines_within (proofs_form IsLawfulProof) (10 * budget + 50) AreFewProofs next_proof 1 proofs
        (record { few = omega arith; each = recursion_from_All IsShortProof proofs each }) in
        let all : length proofs * (10 * budget + 50) ≤ 4 * paths * (10 * budget + 50) =
        mul-le (length proofs) (10 * budget + 50) (4 * paths) (10 * budget + 50) four_each (omega arith) in
        omega (
          arith,
          length-append (line (version_line version)) (lines_text (proofs_form IsLawfulProof) 1 proofs),
          line_length (version_line version),
          version_length version,
          lines,
          all,
          proofs_product paths budget few product,
        )
