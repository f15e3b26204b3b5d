-- The head of a test's line is read where the number of its path is read, and behind it its transition and its kind.
use Rattle.std.proofs.Common.{◌≡◌, ◌∙◌, ℕ, List, Some, None, ap}
use Rattle.std.proofs.lemmas.Option.{none-some, same_Some}
use Rattle.pd_base.specs.declared.fault.Direction.{Direction}
use Rattle.pd_base.specs.declared.fault.Kind.{Kind}
use Rattle.runs.specs.Lawful.{IsPathNumber}
use Rattle.text_pieces.specs.Reads.{Reads}
use Rattle.text_pieces.proofs.Spelled.{none_spelled, one_spelled}
use Rattle.run_files.specs.TestsReading.{direction_and_kind_words, numbered_path_words, test_head_words, IsTestHead}
use Rattle.run_files.specs.declared.test_line.TestHead.{TestHead}

-- what stands behind the number of the path
abbrev pub kinds_in : TestHead × List (List ℕ) → Direction × Kind × List (List ℕ)
kinds_in head = (head.0.dir, head.0.kind, head.1)

-- the path, and the words behind its number
abbrev pub parts_in : TestHead × List (List ℕ) → ℕ × List (List ℕ)
parts_in head = (head.0.path, direction_and_kind_words (kinds_in head))

-- the head of a path, a transition and a kind, with the words that are left
abbrev pub head_with : ℕ → Direction × Kind × List (List ℕ) → TestHead × List (List ℕ)
head_with path kinds = (record { path = path; dir = kinds.0; kind = kinds.1 }, kinds.2)

module _ (number : ℕ) (words : List (List ℕ)) where
  pub no_path : Reads (numbered_path_words number) (λ read. IsPathNumber read.0) words None
      → Reads (test_head_words number) IsTestHead words None
  no_path paths =
      none_spelled (test_head_words number) IsTestHead words
      (λ head lawful same. none-some (parts_in head) (paths.only (parts_in head) lawful same))

  module _ (path : ℕ) (left : List (List ℕ))
      (paths : Reads (numbered_path_words number) (λ read. IsPathNumber read.0) words (Some (path, left))) where
    parts_are : (head : TestHead × List (List ℕ)) → IsTestHead head → words ≡ test_head_words number head → (path, left) ≡ parts_in head
    parts_are head lawful same = same_Some _ _ (paths.only (parts_in head) lawful same)

    pub no_kinds : Reads direction_and_kind_words (λ read. Unit {0}) left None → Reads (test_head_words number) IsTestHead words None
    no_kinds kinds =
        none_spelled (test_head_words number) IsTestHead words
        (λ head lawful same.
        none-some (kinds_in head)
        (kinds.only (kinds_in head) tt (ap (λ (read : ℕ × List (List ℕ)). read.1) (parts_are head lawful same))))

    pub one_head : (read : Direction × Kind × List (List ℕ)) → Reads direction_and_kind_words (λ read. Unit {0}) left (Some read)
        → Reads (test_head_words number) IsTestHead words (Some (head_with path read))
    one_head read kinds =
        one_spelled (test_head_words number) IsTestHead words (head_with path read) paths.found.0
        (paths.found.1 ∙ ap (λ (behind : List (List ℕ)). numbered_path_words number (path, behind)) kinds.found.1)
        (λ head lawful same.
        let parts = parts_are head lawful same in
        let behind = same_Some read (kinds_in head)
        (kinds.only (kinds_in head) tt (ap (λ (part : ℕ × List (List ℕ)). part.1) parts)) in
        (λ i. head_with (parts i).0 (behind i)))
