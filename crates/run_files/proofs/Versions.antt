-- Lawful proofs are spelled in the version of their rules and their trees, and what is spelled in a version of rules is lawful under these.
use Rattle.std.proofs.Common.{◌≡◌, ℕ, Bool, true, false, cond, ◌&&◌, nat_lt, List, [], ◌∷◌, refl, arith}
use Rattle.std.specs.List.{All, list_all}
use Rattle.std.proofs.lemmas.Bool.{false≢true, ltb-true}
use Rattle.std.proofs.lemmas.List.Elements.{All-cons, All-nil}
use Rattle.pd_base.specs.declared.rules.Rules.{Rules}
use Rattle.pd_base.specs.declared.rules.Rules.TheVariants.{One, Two, Linked}
use Rattle.netlist.specs.Circuit.{Circuit, source_count}
use Rattle.state_laws.specs.declared.split.SplitKind.{SplitKind}
use Rattle.state_laws.specs.declared.split.SplitKind.TheVariants.{LastValue, Steadiness, FirstValue}
use Rattle.state_laws.specs.declared.split.Split.{Split as CaseSplit}
use Rattle.trees.specs.declared.tree.Node.{Node}
use Rattle.trees.specs.declared.tree.Node.TheVariants.{Closed, Waiting, Split}
use Rattle.trees.specs.Refutations.{IsSplitOf}
use Rattle.trees.specs.Trees.{IsSourceKind, IsSourceNode, IsTree, IsTreeOfSources}
use Rattle.runs.specs.Lawful.{AreLawfulProofsOf, IsNodeOf}
use Rattle.runs.specs.declared.run.Proof.{Proof}
use Rattle.run_files.specs.ProofsReading.{AreSpelledProofs}
use Rattle.run_files.specs.ProofsVersions.{are_trees_of_sources, at_lines, at_sources, is_source_kind, is_source_node, is_tree_of_sources, rules_version, version_number, version_of, IsNodeIn, IsSplitIn, IsVersionOf}
use Rattle.run_files.specs.declared.version.ProofsVersion.{ProofsVersion}
use Rattle.run_files.specs.declared.version.ProofsVersion.TheVariants.{First, Second, Third, Fourth, Fifth}

-- ---- a number tells its version

pub version_by_number : (version other : ProofsVersion) → version_number version ≡ version_number other → version ≡ other
version_by_number First First same = refl
version_by_number First Second same = absurd (omega (arith, same))
version_by_number First Third same = absurd (omega (arith, same))
version_by_number First Fourth same = absurd (omega (arith, same))
version_by_number First Fifth same = absurd (omega (arith, same))
version_by_number Second First same = absurd (omega (arith, same))
version_by_number Second Second same = refl
version_by_number Second Third same = absurd (omega (arith, same))
version_by_number Second Fourth same = absurd (omega (arith, same))
version_by_number Second Fifth same = absurd (omega (arith, same))
version_by_number Third First same = absurd (omega (arith, same))
version_by_number Third Second same = absurd (omega (arith, same))
version_by_number Third Third same = refl
version_by_number Third Fourth same = absurd (omega (arith, same))
version_by_number Third Fifth same = absurd (omega (arith, same))
version_by_number Fourth First same = absurd (omega (arith, same))
version_by_number Fourth Second same = absurd (omega (arith, same))
version_by_number Fourth Third same = absurd (omega (arith, same))
version_by_number Fourth Fourth same = refl
version_by_number Fourth Fifth same = absurd (omega (arith, same))
version_by_number Fifth First same = absurd (omega (arith, same))
version_by_number Fifth Second same = absurd (omega (arith, same))
version_by_number Fifth Third same = absurd (omega (arith, same))
version_by_number Fifth Fourth same = absurd (omega (arith, same))
version_by_number Fifth Fifth same = refl

-- ---- what the flags tell

both_true : (a b : Bool) → (a && b) ≡ true → (a ≡ true) × (b ≡ true)
both_true true b is = (refl, is)
both_true false b is = absurd (false≢true is)

-- what each item of a list has whose flag is up
all_flagged : {X : Type 0} (flag : X → Bool) (P : X → Type 0) → ((x : X) → flag x ≡ true → P x) → (xs : List X) → list_all flag xs ≡ true → All P xs
all_flagged flag P tells [] up = All-nil P
all_flagged flag P tells (x ∷ xs) up =
    let both = both_true (flag x) (list_all flag xs) up in
    All-cons P x xs (tells x both.0) (all_flagged flag P tells xs both.1)

source_kind : (kind : SplitKind) → is_source_kind kind ≡ true → IsSourceKind kind
source_kind LastValue up = tt
source_kind Steadiness up = tt
source_kind FirstValue up = absurd (false≢true up)

source_node : (sources : ℕ) (node : Node) → is_source_node sources node ≡ true → IsSourceNode sources node
source_node sources Closed up = tt
source_node sources Waiting up = tt
source_node sources (Split split) up =
    let both = both_true (nat_lt split.line.0 sources) (is_source_kind split.kind) up in
    record { source = ltb-true split.line.0 sources both.0; kind = source_kind split.kind both.1 }

source_tree : (sources : ℕ) (nodes : List Node) → is_tree_of_sources sources nodes ≡ true → IsTreeOfSources sources nodes
source_tree sources nodes up = all_flagged (is_source_node sources) (IsSourceNode sources) (source_node sources) nodes up

module _ (c : Circuit) where
  -- ---- from lawful proofs to their version

  at_a_source : (rules : Rules) (node : Node) → IsSourceNode (source_count c) node → IsNodeIn c (rules_version rules) node
  at_a_source rules Closed is = tt
  at_a_source rules Waiting is = tt
  at_a_source One (Split split) is = record { line = is.source; kind = is.kind }
  at_a_source Two (Split split) is = record { line = is.source; kind = is.kind }
  at_a_source (Linked links) (Split split) is = record { line = is.source; kind = is.kind }

  at_a_line : (rules : Rules) (node : Node) → IsNodeOf c rules node → IsNodeIn c (at_lines rules) node
  at_a_line rules Closed is = tt
  at_a_line rules Waiting is = tt
  at_a_line One (Split split) is = record { line = is.source; kind = is.kind }
  at_a_line Two (Split split) is = record { line = is.in_circuit; kind = is.kind }
  at_a_line (Linked links) (Split split) is = record { line = is; kind = tt }

  -- the version that is written of proofs that are lawful under some rules can spell them
  pub lawful_is_spelled : (rules : Rules) (proofs : List Proof) → AreLawfulProofsOf c rules proofs → All (λ proof. IsTree proof.tree) proofs
      → AreSpelledProofs c (version_of c rules proofs) proofs
  lawful_is_spelled rules proofs lawful whole = record {
    lawful = lawful.lawful;
    nodes = by (are_trees_of_sources (source_count c) proofs) (λ up. of_sources up);
    whole = whole;
  }
    where
      of_sources : are_trees_of_sources (source_count c) proofs ≡ true → All (λ proof. All (IsNodeIn c (rules_version rules)) proof.tree) proofs
      of_sources up place d within =
          λ k e inside. at_a_source rules _
          (all_flagged (λ proof. is_tree_of_sources (source_count c) proof.tree) (λ proof. IsTreeOfSources (source_count c) proof.tree)
          (λ proof flag. source_tree (source_count c) proof.tree flag) proofs up place d within k e inside)

      by : (flag : Bool) → (flag ≡ true → All (λ proof. All (IsNodeIn c (rules_version rules)) proof.tree) proofs)
          → All (λ proof. All (IsNodeIn c (cond flag (rules_version rules) (at_lines rules))) proof.tree) proofs
      by true up = up refl
      by false up = λ place d within k e inside. at_a_line rules _ (lawful.nodes place d within k e inside)

  -- ---- from a version to the rules

  split_of_rules : (rules : Rules) (version : ProofsVersion) → IsVersionOf rules version → (split : CaseSplit) → IsSplitIn c version split
      → IsSplitOf c rules split
  split_of_rules One First is split in_file = record { source = in_file.line; kind = in_file.kind }
  split_of_rules One Second is split in_file = absurd cc
  split_of_rules One Third is split in_file = absurd cc
  split_of_rules One Fourth is split in_file = absurd cc
  split_of_rules One Fifth is split in_file = absurd cc
  split_of_rules Two First is split in_file = absurd cc
  split_of_rules Two Second is split in_file = record { in_circuit = omega (arith, in_file.line); kind = in_file.kind }
  split_of_rules Two Third is split in_file = absurd cc
  split_of_rules Two Fourth is split in_file = record { in_circuit = in_file.line; kind = in_file.kind }
  split_of_rules Two Fifth is split in_file = absurd cc
  split_of_rules (Linked links) First is split in_file = absurd cc
  split_of_rules (Linked links) Second is split in_file = absurd cc
  split_of_rules (Linked links) Third is split in_file = omega (arith, in_file.line)
  split_of_rules (Linked links) Fourth is split in_file = absurd cc
  split_of_rules (Linked links) Fifth is split in_file = in_file.line

  node_of_rules : (rules : Rules) (version : ProofsVersion) → IsVersionOf rules version → (node : Node) → IsNodeIn c version node → IsNodeOf c rules node
  node_of_rules rules version is Closed in_file = tt
  node_of_rules rules version is Waiting in_file = tt
  node_of_rules rules version is (Split split) in_file = split_of_rules rules version is split in_file

  -- proofs that a version of some rules spells are lawful under these
  pub spelled_is_lawful : (rules : Rules) (version : ProofsVersion) → IsVersionOf rules version → (proofs : List Proof)
      → AreSpelledProofs c version proofs → AreLawfulProofsOf c rules proofs
  spelled_is_lawful rules version is proofs spelled = record {
    lawful = spelled.lawful;
    nodes = λ place d within k e inside. node_of_rules rules version is _ (spelled.nodes place d within k e inside);
  }

-- the version that is written is one of the rules
pub written_is_of : (c : Circuit) (rules : Rules) (proofs : List Proof) → IsVersionOf rules (version_of c rules proofs)
written_is_of c rules proofs = by rules (are_trees_of_sources (source_count c) proofs)
  where
    by : (rules : Rules) (flag : Bool) → at_sources (cond flag (rules_version rules) (at_lines rules)) ≡ rules_version rules
    by One true = refl
    by One false = refl
    by Two true = refl
    by Two false = refl
    by (Linked links) true = refl
    by (Linked links) false = refl
