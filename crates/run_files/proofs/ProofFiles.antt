-- A proofs file is read where its version and then its lines are.
use Rattle.std.proofs.Common.{◌≡◌, ◌≢◌, ◌<◌, ◌^◌, ℕ, List, [], ◌∷◌, ◌++◌, Option, Some, None, Err, get_or, refl, sym, ap, subst, ◌∙◌, arith}
use Rattle.std.specs.List.{All, AllByRecursion}
use Rattle.std.proofs.lemmas.List.{append_cancel_left}
use Rattle.std.proofs.lemmas.List.Elements.{recursion_from_All, All-from_recursion}
use Rattle.std.proofs.lemmas.Option.{none-some, same_Some}
use Rattle.netlist.specs.Circuit.{Circuit, line_count}
use Rattle.runs.specs.declared.run.Proof.{Proof}
use Rattle.runs.specs.Lawful.{IsLawfulProof}
use Rattle.trees.specs.Trees.{IsTree}
use Rattle.text_pieces.specs.Tokens.{line}
use Rattle.text_pieces.specs.LineFiles.{lines_text, IsWhole}
use Rattle.text_pieces.specs.Reads.{Reads}
use Rattle.text_pieces.proofs.ReadLines.{lines_once}
use Rattle.run_files.specs.ProofsText.{proofs_form, proofs_text}
use Rattle.run_files.specs.ProofsVersions.{IsNodeIn, version_line}
use Rattle.run_files.specs.ProofsReading.{spelled_form, version_at_front, AreSpelledProofs, IsFirstBadProofLine, IsSpelledProof, ProofLinesAnswer, ProofsAnswer, ReadsProofs}
use Rattle.run_files.specs.ProofsReading.IsFirstBadProofLine.{no_proof, no_version}
use Rattle.run_files.specs.declared.fault.TextFault.{TextFault}
use Rattle.run_files.specs.declared.fault.TextFault.TheVariants.{Malformed, NoMemory}
use Rattle.run_files.specs.declared.version.ProofsVersion.{ProofsVersion}
use Rattle.run_files.specs.declared.version.ProofsVersion.TheVariants.{First, Second, Third, Fourth, Fifth}
use Rattle.run_files.proofs.ProofLines.{one_line, proofs_fit, proofs_lawful, same_lines, told_apart}

-- ---- the version

-- a text begins with the line of one version
version_once : (version other : ProofsVersion) (rest more : List ℕ) → line (version_line version) ++ rest ≡ line (version_line other) ++ more → (version ≡ other) × (rest ≡ more)
version_once First First rest more same = (refl, append_cancel_left (line (version_line First)) rest more same)
version_once First Second rest more same = absurd (omega (arith, ap (λ text. get_or text 14 0) same))
version_once First Third rest more same = absurd (omega (arith, ap (λ text. get_or text 14 0) same))
version_once First Fourth rest more same = absurd (omega (arith, ap (λ text. get_or text 14 0) same))
version_once First Fifth rest more same = absurd (omega (arith, ap (λ text. get_or text 14 0) same))
version_once Second First rest more same = absurd (omega (arith, ap (λ text. get_or text 14 0) same))
version_once Second Second rest more same = (refl, append_cancel_left (line (version_line Second)) rest more same)
version_once Second Third rest more same = absurd (omega (arith, ap (λ text. get_or text 14 0) same))
version_once Second Fourth rest more same = absurd (omega (arith, ap (λ text. get_or text 14 0) same))
version_once Second Fifth rest more same = absurd (omega (arith, ap (λ text. get_or text 14 0) same))
version_once Third First rest more same = absurd (omega (arith, ap (λ text. get_or text 14 0) same))
version_once Third Second rest more same = absurd (omega (arith, ap (λ text. get_or text 14 0) same))
version_once Third Third rest more same = (refl, append_cancel_left (line (version_line Third)) rest more same)
version_once Third Fourth rest more same = absurd (omega (arith, ap (λ text. get_or text 14 0) same))
version_once Third Fifth rest more same = absurd (omega (arith, ap (λ text. get_or text 14 0) same))
version_once Fourth First rest more same = absurd (omega (arith, ap (λ text. get_or text 14 0) same))
version_once Fourth Second rest more same = absurd (omega (arith, ap (λ text. get_or text 14 0) same))
version_once Fourth Third rest more same = absurd (omega (arith, ap (λ text. get_or text 14 0) same))
version_once Fourth Fourth rest more same = (refl, append_cancel_left (line (version_line Fourth)) rest more same)
version_once Fourth Fifth rest more same = absurd (omega (arith, ap (λ text. get_or text 14 0) same))
version_once Fifth First rest more same = absurd (omega (arith, ap (λ text. get_or text 14 0) same))
version_once Fifth Second rest more same = absurd (omega (arith, ap (λ text. get_or text 14 0) same))
version_once Fifth Third rest more same = absurd (omega (arith, ap (λ text. get_or text 14 0) same))
version_once Fifth Fourth rest more same = absurd (omega (arith, ap (λ text. get_or text 14 0) same))
version_once Fifth Fifth rest more same = (refl, append_cancel_left (line (version_line Fifth)) rest more same)

abbrev pub ReadsVersion : List ℕ → Option (ProofsVersion × List ℕ) → Type 0
ReadsVersion text read = Reads version_at_front (λ read. Unit {0}) text read

abbrev pub ReadsBehind : ProofsVersion → List ℕ → Option (List ℕ) → Type 0
ReadsBehind version text read = Reads (λ (rest : List ℕ). line (version_line version) ++ rest) (λ rest. Unit {0}) text read

-- the line of a version that was read stands there
pub version_read : (version : ProofsVersion) (text rest : List ℕ) → ReadsBehind version text (Some rest) → ReadsVersion text (Some (version, rest))
version_read version text rest reads = record {
  found = reads.found;
  only = λ read h is.
      let same = version_once version read.0 rest read.1 (sym reads.found.1 ∙ is) in
      (λ i. Some (same.0 i, same.1 i));
}

-- none stands there
pub record AreNotAtFront (text : List ℕ) : Type 0 where
  pub first : ReadsBehind First text None
  pub second : ReadsBehind Second text None
  pub third : ReadsBehind Third text None
  pub fourth : ReadsBehind Fourth text None
  pub fifth : ReadsBehind Fifth text None

no_version_read : (version : ProofsVersion) (text rest : List ℕ) → AreNotAtFront text → text ≢ line (version_line version) ++ rest
no_version_read First text rest none is = none-some rest (none.first.only rest tt is)
no_version_read Second text rest none is = none-some rest (none.second.only rest tt is)
no_version_read Third text rest none is = none-some rest (none.third.only rest tt is)
no_version_read Fourth text rest none is = none-some rest (none.fourth.only rest tt is)
no_version_read Fifth text rest none is = none-some rest (none.fifth.only rest tt is)

pub version_unread : (text : List ℕ) → AreNotAtFront text → ReadsVersion text None
version_unread text none = record {
  found = tt;
  only = λ read h is. absurd (no_version_read read.0 text read.1 none is);
}

module _ (c : Circuit) (version : ProofsVersion) where
  -- ---- proofs of a file, and each of them

  spelled_each : (proofs : List Proof) → AllByRecursion IsLawfulProof proofs → AllByRecursion (λ proof. All (IsNodeIn c version) proof.tree) proofs
      → AllByRecursion (λ proof. IsTree proof.tree) proofs → AllByRecursion (IsSpelledProof c version) proofs
  spelled_each [] lawful on whole = tt
  spelled_each (proof ∷ proofs) lawful on whole =
      (record { lawful = lawful.0; nodes = on.0; whole = whole.0 }, spelled_each proofs lawful.1 on.1 whole.1)

  each_spelled : (proofs : List Proof) → AreSpelledProofs c version proofs → AllByRecursion (IsSpelledProof c version) proofs
  each_spelled proofs are =
      spelled_each proofs (recursion_from_All IsLawfulProof proofs are.lawful)
      (recursion_from_All (λ (proof : Proof). All (IsNodeIn c version) proof.tree) proofs are.nodes)
      (recursion_from_All (λ (proof : Proof). IsTree proof.tree) proofs are.whole)

  are_lawful : (proofs : List Proof) → AllByRecursion (IsSpelledProof c version) proofs → AllByRecursion IsLawfulProof proofs
  are_lawful [] each = tt
  are_lawful (proof ∷ proofs) each = (each.0.lawful, are_lawful proofs each.1)

  are_nodes : (proofs : List Proof) → AllByRecursion (IsSpelledProof c version) proofs → AllByRecursion (λ proof. All (IsNodeIn c version) proof.tree) proofs
  are_nodes [] each = tt
  are_nodes (proof ∷ proofs) each = (each.0.nodes, are_nodes proofs each.1)

  are_trees : (proofs : List Proof) → AllByRecursion (IsSpelledProof c version) proofs → AllByRecursion (λ proof. IsTree proof.tree) proofs
  are_trees [] each = tt
  are_trees (proof ∷ proofs) each = (each.0.whole, are_trees proofs each.1)

  all_spelled : (proofs : List Proof) → AllByRecursion (IsSpelledProof c version) proofs → AreSpelledProofs c version proofs
  all_spelled proofs each = record {
    lawful = All-from_recursion IsLawfulProof proofs (are_lawful proofs each);
    nodes = All-from_recursion (λ (proof : Proof). All (IsNodeIn c version) proof.tree) proofs (are_nodes proofs each);
    whole = All-from_recursion (λ (proof : Proof). IsTree proof.tree) proofs (are_trees proofs each);
  }

module _ (c : Circuit) where
  -- ---- the whole file

  -- where there is no version the first line is the bad one
  pub no_version_answer : (text : List ℕ) → ReadsVersion text None → ProofsAnswer c text (Err (Malformed 1))
  no_version_answer text reads =
      let none : (version : ProofsVersion) (rest : List ℕ) → text ≢ line (version_line version) ++ rest =
      λ version rest is. none-some _ (reads.only (version, rest) tt is) in
      (record { found = tt; only = λ file spelled is. absurd (none file.0 _ is) }, no_version none)

  module _ (text : List ℕ) (version : ProofsVersion) (rest : List ℕ) (reads_version : ReadsVersion text (Some (version, rest))) where
    -- behind it the lines are read
    file_read : (read : Option (List Proof)) → Reads (lines_text (spelled_form c version) 1) (IsWhole (spelled_form c version) 1) rest read
        → (file : ProofsVersion × List Proof) → AreSpelledProofs c file.0 file.1 → text ≡ proofs_text file.0 file.1 → (version ≡ file.0) × (read ≡ Some file.1)
    file_read read reads file spelled is =
        let same = version_once version file.0 rest (lines_text (proofs_form IsLawfulProof) 1 file.1) (sym reads_version.found.1 ∙ is) in
        let each = each_spelled c version file.1 (subst (λ (v : ProofsVersion). AreSpelledProofs c v file.1) (sym same.0) spelled) in (
          same.0,
          reads.only file.1 (record { each = proofs_fit (IsSpelledProof c version) 1 file.1 each; ends = tt })
              (same.1 ∙ same_lines (IsSpelledProof c version) 1 file.1),
        )

    pub proofs_read : (proofs : List Proof) → Reads (lines_text (spelled_form c version) 1) (IsWhole (spelled_form c version) 1) rest (Some proofs)
        → ReadsProofs c text (Some (version, proofs))
    proofs_read proofs reads = record {
      found = (
        all_spelled c version proofs (proofs_lawful (IsSpelledProof c version) 1 proofs reads.found.0.each),
        reads_version.found.1 ∙ ap (λ (behind : List ℕ). line (version_line version) ++ behind) (reads.found.1 ∙ sym (same_lines (IsSpelledProof c version) 1 proofs)),
      );
      only = λ file spelled is.
          let same = file_read (Some proofs) reads file spelled is in
          let proofs_are = same_Some _ _ same.1 in
          (λ i. Some (same.0 i, proofs_are i));
    }

    -- or a line of them is the bad one
    pub lines_fault_answer : (fault : TextFault) → ProofLinesAnswer c version rest (Err fault) → ProofsAnswer c text (Err fault)
    lines_fault_answer (Malformed number) lines = (
      record { found = tt; only = λ file spelled is. absurd (none-some _ (file_read None lines.0 file spelled is).1) },
      subst (λ (n : ℕ). IsFirstBadProofLine c text n) (sym lines.1.1) (no_proof version rest lines.1.0 reads_version.found.1 lines.1.2),
    )
    lines_fault_answer (NoMemory _) lines = tt

  -- two lists of proofs with one text are one, and their files have one version
  pub proofs_once : line_count c < 2 ^ 64 → (version other : ProofsVersion) (proofs others : List Proof) → AreSpelledProofs c version proofs
      → AreSpelledProofs c other others → proofs_text version proofs ≡ proofs_text other others → (version ≡ other) × (proofs ≡ others)
  proofs_once few version other proofs others spelled spelled' is =
      let same = version_once version other (lines_text (proofs_form IsLawfulProof) 1 proofs) (lines_text (proofs_form IsLawfulProof) 1 others) is in
      let Spelled : Proof → Type 0 = IsSpelledProof c version in
      let lines : lines_text (spelled_form c version) 1 proofs ≡ lines_text (spelled_form c version) 1 others =
      sym (same_lines Spelled 1 proofs) ∙ same.1 ∙ same_lines Spelled 1 others in
      let also = each_spelled c version others (subst (λ (v : ProofsVersion). AreSpelledProofs c v others) (sym same.0) spelled') in (
        same.0,
        lines_once (spelled_form c version) (one_line c version) (told_apart c few version) 1 proofs others
            (proofs_fit Spelled 1 proofs (each_spelled c version proofs spelled)) (proofs_fit Spelled 1 others also) lines,
      )
