-- The first wrong count.
use Rattle.std.proofs.Common.{◌≡◌, ◌≢◌, ℕ, ◌+◌, ◌<◌, length, map, refl, arith}
use Rattle.std.specs.List.{count_by}
use Rattle.netlist.specs.Greatest.{greatest}
use Rattle.runs.specs.declared.run.Run.{Run}
use Rattle.runs.specs.Verdicts.{verdicts_of}
use Rattle.good_runs.specs.GoodRun.{greatest_cited, is_tested}
use Rattle.claim_check.specs.declared.claim.Reason.{Reason}
use Rattle.claim_check.specs.declared.claim.Reason.TheVariants.{WrongCount}
use Rattle.claim_check.specs.Flaws.{IsFirstFlaw, turn_of}
use Rattle.claim_check.specs.Right.{IsDueCount, IsRightCount}
use Rattle.claim_check.proofs.Telling.{IsRightUpTo, counts_only, first_at, right_more}

-- no reason has its turn before that of a count
none_before : (reason : Reason) → turn_of reason < 1 → ⊥
none_before WrongCount less = absurd (omega arith)
none_before reason less = absurd (omega arith)

module _ (count : ℕ) (run : Run) where
  abbrev IsRight : ℕ → Reason → Type 0
  IsRight = IsRightCount count run

  by_count : (item : ℕ) → IsDueCount count run item → (reason : Reason) → IsRight item reason
  by_count item due WrongCount = due
  by_count item due reason = tt

  -- a count that is not the one that is due, where those before it are
  told : (item : ℕ) → IsRightUpTo IsRight item → (IsDueCount count run (item + 1) → ⊥) → IsFirstFlaw IsRight (item + 1) WrongCount
  told item before wrong =
      first_at IsRight 1 (counts_only count run) item WrongCount before
      (record { flawed = wrong; before = λ other less. absurd (none_before other less) })

  none_yet : IsRightUpTo IsRight 0
  none_yet item reason few =
      by_count item
      (record { paths = λ at. absurd (omega arith); tests = λ at. absurd (omega arith); proofs = λ at. absurd (omega arith) }) reason

  pub paths_told : length run.paths ≢ count → IsFirstFlaw IsRight 1 WrongCount
  paths_told other = told 0 none_yet (λ due. other (due.paths refl))

  module _ (paths : length run.paths ≡ count) where
    paths_right : IsRightUpTo IsRight 1
    paths_right =
        right_more IsRight 0 none_yet
        (by_count 1 (record { paths = λ _. paths; tests = λ at. absurd (omega arith); proofs = λ at. absurd (omega arith) }))

    pub tests_told : length run.tests ≢ count_by is_tested (verdicts_of run.paths) → IsFirstFlaw IsRight 2 WrongCount
    tests_told other = told 1 paths_right (λ due. other (due.tests refl))

    module _ (tests : length run.tests ≡ count_by is_tested (verdicts_of run.paths)) where
      tests_right : IsRightUpTo IsRight 2
      tests_right =
          right_more IsRight 1 paths_right
          (by_count 2 (record { paths = λ at. absurd (omega arith); tests = λ _. tests; proofs = λ at. absurd (omega arith) }))

      pub proofs_told : length run.proofs ≢ greatest (map greatest_cited (verdicts_of run.paths)) → IsFirstFlaw IsRight 3 WrongCount
      proofs_told other = told 2 tests_right (λ due. other (due.proofs refl))

      pub counts_right : length run.proofs ≡ greatest (map greatest_cited (verdicts_of run.paths)) → (item : ℕ) (reason : Reason)
          → IsRight item reason
      counts_right proofs item = by_count item (record { paths = λ _. paths; tests = λ _. tests; proofs = λ _. proofs })
