-- The line of a proof is made of its words, and its words of the line.
use Rattle.std.proofs.Common.{◌≡◌, ◌<◌, ◌+◌, ◌^◌, ◌⊎◌, inl, inr, ℕ, true, false, Bool, List, [], ◌∷◌, ◌++◌, Option, refl, sym, ap, ◌∙◌, append_assoc, arith, rules, length, get_or, map, flat_map, codes, decimal}
use Rattle.std.specs.List.{AllByRecursion}
use Rattle.std.proofs.lemmas.List.{append_cancel_left}
use Rattle.std.proofs.lemmas.List.Folds.{flat_map-map}
use Rattle.std.proofs.lemmas.List.Elements.{recursion_from_All}
use Rattle.netlist.specs.Circuit.{Circuit, line_count}
use Rattle.runs.specs.declared.run.Proof.{Proof}
use Rattle.trees.specs.declared.tree.Node.{Node}
use Rattle.state_laws.specs.declared.split.SplitKind.{SplitKind}
use Rattle.state_laws.specs.declared.split.SplitKind.TheVariants.{LastValue, Steadiness, FirstValue}
use Rattle.state_laws.specs.declared.split.Split.{Split as CaseSplit}
use Rattle.trees.specs.declared.tree.Node.TheVariants.{Closed, Waiting, Split}
use Rattle.runs.specs.Lawful.{IsLawfulProof}
use Rattle.text_pieces.specs.Tokens.{after_space, direction_word, kind_word, line, space}
use Rattle.text_pieces.specs.LineFiles.{lines_text, state_after, AreLines}
use Rattle.text_pieces.specs.Cuts.{words_of, pieces, ArePieces}
use Rattle.text_pieces.specs.Reads.{Reads}
use Rattle.text_pieces.proofs.Decimals.{decimal_once}
use Rattle.text_pieces.proofs.Listing.{map_once}
use Rattle.text_pieces.proofs.PieceTexts.{are_pieces, decimal_is_piece, direction_is_piece, direction_once, joined_line, kind_is_piece, kind_once, literal_is_piece, IsPiece}
use Rattle.text_pieces.proofs.Cuts.{join_with_byte-cons, joined_reads, pieces_of_joined}
use Rattle.text_pieces.proofs.ReadLines.{AreOneLine, AreToldApart, ReadsItem}
use Rattle.run_files.specs.ProofsText.{claim_word, kind_letter, node_text, proof_text, proof_words, proofs_form}
use Rattle.run_files.specs.ProofsReading.{spelled_form, IsSpelledProof}
use Rattle.run_files.specs.ProofsVersions.{lines_to_split, IsNodeIn}
use Rattle.run_files.specs.declared.version.ProofsVersion.{ProofsVersion}
use Rattle.run_files.specs.declared.version.ProofsVersion.TheVariants.{First, Second, Third, Fourth, Fifth}

-- ---- the words of a line

claim_is_piece : (spent : Bool) → IsPiece space (claim_word spent)
claim_is_piece true = literal_is_piece space (omega arith) (codes "spent") refl
claim_is_piece false = literal_is_piece space (omega arith) (codes "refutes") refl

node_is_piece : (node : Node) → IsPiece space (node_text node)
node_is_piece Closed = literal_is_piece space (omega arith) (codes "X") refl
node_is_piece Waiting = literal_is_piece space (omega arith) (codes "O") refl
node_is_piece (Split split) = by split.kind
  where
    number : IsPiece space (decimal split.line.0)
    number = decimal_is_piece space (omega arith) split.line.0

    by : (kind : SplitKind) → IsPiece space (kind_letter kind ++ decimal split.line.0)
    by LastValue = record { no_parting = (refl, number.no_parting); no_line_feed = (refl, number.no_line_feed) }
    by Steadiness = record { no_parting = (refl, number.no_parting); no_line_feed = (refl, number.no_line_feed) }
    by FirstValue = record { no_parting = (refl, number.no_parting); no_line_feed = (refl, number.no_line_feed) }

nodes_are_pieces : (nodes : List Node) → AllByRecursion (IsPiece space) (map node_text nodes)
nodes_are_pieces [] = tt
nodes_are_pieces (node ∷ nodes) = (node_is_piece node, nodes_are_pieces nodes)

words_are_pieces : (number : ℕ) (proof : Proof) → AllByRecursion (IsPiece space) (proof_words number proof)
words_are_pieces number proof = (
  decimal_is_piece space (omega arith) number,
  (
    claim_is_piece proof.spent,
    (
      kind_is_piece space (omega arith) proof.kind,
      (
        direction_is_piece space (omega arith) proof.dir,
        (
          decimal_is_piece space (omega arith) proof.path,
          (decimal_is_piece space (omega arith) proof.steps, nodes_are_pieces proof.tree),
        ),
      ),
    ),
  ),
)

words_parted : (number : ℕ) (proof : Proof) → ArePieces space (proof_words number proof)
words_parted number proof = are_pieces space (proof_words number proof) (omega arith) (words_are_pieces number proof)

pub one_line : (c : Circuit) (version : ProofsVersion) (number : ℕ) → AreOneLine (spelled_form c version) number
one_line c version number proof spelled = joined_line space (proof_words number proof) refl (words_are_pieces number proof)

-- what the words of a line are read as, the line is
pub reads_text : (c : Circuit) (version : ProofsVersion) (number : ℕ) (text : List ℕ) (read : Option Proof)
    → Reads (proof_words number) (IsSpelledProof c version) (words_of text) read → ReadsItem (spelled_form c version) number text read
reads_text c version number text read reads =
    joined_reads space (proof_words number) (IsSpelledProof c version) (λ proof spelled. words_parted number proof) text read reads

-- the number of the next line
pub number_after : (c : Circuit) (version : ProofsVersion) (number : ℕ) (proofs : List Proof)
    → state_after (spelled_form c version) number proofs ≡ number + length proofs
number_after c version number [] = omega arith
number_after c version number (proof ∷ proofs) = omega (arith, number_after c version (number + 1) proofs)

-- proofs that are lawful in some sense may stand one behind another, and no others
module _ (Lawful : Proof → Type 0) where
  pub proofs_fit : (number : ℕ) (proofs : List Proof) → AllByRecursion Lawful proofs → AreLines (proofs_form Lawful) number proofs
  proofs_fit number [] each = tt
  proofs_fit number (proof ∷ proofs) each = (each.0, proofs_fit (number + 1) proofs each.1)

  pub proofs_lawful : (number : ℕ) (proofs : List Proof) → AreLines (proofs_form Lawful) number proofs → AllByRecursion Lawful proofs
  proofs_lawful number [] each = tt
  proofs_lawful number (proof ∷ proofs) each = (each.0, proofs_lawful (number + 1) proofs each.1)

  -- their lines don't tell in which sense
  pub same_lines : (number : ℕ) (proofs : List Proof) → lines_text (proofs_form IsLawfulProof) number proofs ≡ lines_text (proofs_form Lawful) number proofs
  same_lines number [] = refl
  same_lines number (proof ∷ proofs) = ap (λ (rest : List ℕ). line (proof_text number proof) ++ rest) (same_lines (number + 1) proofs)

-- ---- a line tells one proof

claim_once : (a b : Bool) → claim_word a ≡ claim_word b → a ≡ b
claim_once true true same = refl
claim_once true false same = absurd (omega (arith, ap (λ text. get_or text 0 0) same))
claim_once false true same = absurd (omega (arith, ap (λ text. get_or text 0 0) same))
claim_once false false same = refl

-- a letter and a number tell one split
split_once : (r s : CaseSplit) → r.line.0 < 2 ^ 64 → s.line.0 < 2 ^ 64
    → kind_letter r.kind ++ decimal r.line.0 ≡ kind_letter s.kind ++ decimal s.line.0 → r ≡ s
split_once r s small small' same =
    let both = by r.kind s.kind same in
    let lines = decimal_once r.line.0 s.line.0 small small' both.1 in
    (λ i. record { line = record { 0 = lines i }; kind = both.0 i })
  where
    a : List ℕ
    a = decimal r.line.0

    b : List ℕ
    b = decimal s.line.0

    by : (k l : SplitKind) → kind_letter k ++ a ≡ kind_letter l ++ b → (k ≡ l) × (a ≡ b)
    by LastValue LastValue e = (refl, append_cancel_left (codes "V") a b e)
    by Steadiness Steadiness e = (refl, append_cancel_left (codes "H") a b e)
    by FirstValue FirstValue e = (refl, append_cancel_left (codes "F") a b e)
    by LastValue Steadiness e = absurd (omega (arith, ap (λ text. get_or text 0 0) e))
    by LastValue FirstValue e = absurd (omega (arith, ap (λ text. get_or text 0 0) e))
    by Steadiness LastValue e = absurd (omega (arith, ap (λ text. get_or text 0 0) e))
    by Steadiness FirstValue e = absurd (omega (arith, ap (λ text. get_or text 0 0) e))
    by FirstValue LastValue e = absurd (omega (arith, ap (λ text. get_or text 0 0) e))
    by FirstValue Steadiness e = absurd (omega (arith, ap (λ text. get_or text 0 0) e))

-- a leaf's text is that of no split
leaf_apart : (leaf : ℕ) (split : CaseSplit) → leaf ≡ 88 ⊎ leaf ≡ 79 → leaf ∷ [] ≡ kind_letter split.kind ++ decimal split.line.0 → ⊥
leaf_apart leaf split is same = by split.kind is same
  where
    by : (kind : SplitKind) → leaf ≡ 88 ⊎ leaf ≡ 79 → leaf ∷ [] ≡ kind_letter kind ++ decimal split.line.0 → ⊥
    by LastValue (inl x) e = omega (arith, x, ap (λ text. get_or text 0 0) e)
    by LastValue (inr o) e = omega (arith, o, ap (λ text. get_or text 0 0) e)
    by Steadiness (inl x) e = omega (arith, x, ap (λ text. get_or text 0 0) e)
    by Steadiness (inr o) e = omega (arith, o, ap (λ text. get_or text 0 0) e)
    by FirstValue (inl x) e = omega (arith, x, ap (λ text. get_or text 0 0) e)
    by FirstValue (inr o) e = omega (arith, o, ap (λ text. get_or text 0 0) e)

-- lines at which trees of a version may split are those of the circuit
lines_within : (c : Circuit) → line_count c < 2 ^ 64 → (version : ProofsVersion) (line : ℕ) → line < lines_to_split c version → line < 2 ^ 64
lines_within c few First line within = omega (arith, few)
lines_within c few Second line within = omega (arith, few)
lines_within c few Third line within = omega (arith, few)
lines_within c few Fourth line within = omega (arith, few)
lines_within c few Fifth line within = omega (arith, few)

module _ (c : Circuit) (few : line_count c < 2 ^ 64) (version : ProofsVersion) where
  node_once : (a b : Node) → IsNodeIn c version a → IsNodeIn c version b → node_text a ≡ node_text b → a ≡ b
  node_once Closed Closed is also same = refl
  node_once Closed Waiting is also same = absurd (omega (arith, ap (λ text. get_or text 0 0) same))
  node_once Closed (Split s) is also same = absurd (leaf_apart 88 s (inl refl) same)
  node_once Waiting Closed is also same = absurd (omega (arith, ap (λ text. get_or text 0 0) same))
  node_once Waiting Waiting is also same = refl
  node_once Waiting (Split s) is also same = absurd (leaf_apart 79 s (inr refl) same)
  node_once (Split r) Closed is also same = absurd (leaf_apart 88 r (inl refl) (sym same))
  node_once (Split r) Waiting is also same = absurd (leaf_apart 79 r (inr refl) (sym same))
  node_once (Split r) (Split s) is also same =
      ap Split (split_once r s (lines_within c few version r.line.0 is.line) (lines_within c few version s.line.0 also.line) same)

pub told_apart : (c : Circuit) → line_count c < 2 ^ 64 → (version : ProofsVersion) (number : ℕ) → AreToldApart (spelled_form c version) number
told_apart c few version number a b spelled spelled' same =
    let words : proof_words number a ≡ proof_words number b =
    sym (pieces_of_joined space (proof_words number a) (words_parted number a)) ∙ ap (pieces space) same
    ∙ pieces_of_joined space (proof_words number b) (words_parted number b) in
    let spent_text : claim_word a.spent ≡ claim_word b.spent = cc in
    let kind_text : kind_word a.kind ≡ kind_word b.kind = cc in
    let dir_text : direction_word a.dir ≡ direction_word b.dir = cc in
    let path_text : decimal a.path ≡ decimal b.path = cc in
    let steps_text : decimal a.steps ≡ decimal b.steps = cc in
    let tree_text : map node_text a.tree ≡ map node_text b.tree = cc in
    let spent = claim_once a.spent b.spent spent_text in
    let kind = kind_once a.kind b.kind kind_text in
    let dir = direction_once a.dir b.dir dir_text in
    let path = decimal_once a.path b.path (omega (arith, spelled.lawful.path.within)) (omega (arith, spelled'.lawful.path.within)) path_text in
    let steps = decimal_once a.steps b.steps (omega (arith, spelled.lawful.steps)) (omega (arith, spelled'.lawful.steps)) steps_text in
    let tree = map_once node_text (IsNodeIn c version) (node_once c few version) a.tree b.tree
    (recursion_from_All (IsNodeIn c version) a.tree spelled.nodes) (recursion_from_All (IsNodeIn c version) b.tree spelled'.nodes) tree_text in
    (λ i. record { spent = spent i; kind = kind i; dir = dir i; path = path i; steps = steps i; tree = tree i })

-- ---- a line as it is written

-- texts behind one another with a space before each but the first, put together from the left, are joined
six_joined : (a b c d e f behind : List ℕ)
    → a ++ after_space b ++ after_space c ++ after_space d ++ after_space e ++ after_space f ++ behind
    ≡ a ++ space ∷ (b ++ space ∷ (c ++ space ∷ (d ++ space ∷ (e ++ space ∷ (f ++ behind)))))
six_joined a b c d e f behind = search (rules, append_assoc)

pub text_joined : (number : ℕ) (proof : Proof)
    → decimal number ++ after_space (claim_word proof.spent) ++ after_space (kind_word proof.kind) ++ after_space (direction_word proof.dir)
    ++ after_space (decimal proof.path) ++ after_space (decimal proof.steps) ++ flat_map (λ node. after_space (node_text node)) proof.tree
    ≡ proof_text number proof
text_joined number proof =
    six_joined (decimal number) (claim_word proof.spent) (kind_word proof.kind) (direction_word proof.dir) (decimal proof.path) (decimal proof.steps)
    (flat_map (λ node. after_space (node_text node)) proof.tree)
    ∙ ap (λ (text : List ℕ). decimal number ++ space ∷ (claim_word proof.spent ++ space ∷ (kind_word proof.kind ++ space ∷ (direction_word proof.dir
    ++ space ∷ (decimal proof.path ++ space ∷ text)))))
    (ap (λ (nodes : List ℕ). decimal proof.steps ++ nodes) (sym (flat_map-map after_space node_text proof.tree))
    ∙ sym (join_with_byte-cons space (decimal proof.steps) (map node_text proof.tree)))
