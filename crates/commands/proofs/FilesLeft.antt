-- What stands under the names of a run, of which no two are the same, once texts were put under those of its claim files.
use Rattle.std.proofs.Common.{◌≡◌, ◌≢◌, ⊎_elim, ℕ, true, false, List, [], ◌∷◌, map, Some, refl, sym, ap, ◌∙◌, arith, nat_eq, AllPairs}
use Rattle.std.specs.Cmp.Lexicographic.{pointwise}
use Rattle.std.specs.Prelude.{if◌then◌else◌, unwrap_or}
use Rattle.std.proofs.lemmas.Bool.{cases_Bool}
use Rattle.std.proofs.lemmas.Slice.Eq.{bytes_eq-Decides}
use Rattle.pd_io.specs.Folder.{bytes_at, put, Contents}
use Rattle.pd_io.proofs.OpenFile.{bytes_at-put}
use Rattle.command_line.specs.Modes.{RunMode, enhanced, broadside, skewed}
use Rattle.command_line.specs.Words.{RunCall}
use Rattle.commands.specs.LaterCalls.{HasNamesApart, scan_names}

-- another name has the bytes that it had
pub bytes_at-put_other : (held : Contents) (name other bytes : List ℕ) → other ≢ name → bytes_at (put held name bytes) other ≡ bytes_at held other
bytes_at-put_other held name other bytes apart =
    ⊎_elim
    (λ (is : pointwise nat_eq other name ≡ true). absurd (apart ((bytes_eq-Decides other name).0 is)))
    (λ (is : pointwise nat_eq other name ≡ false). ap (λ test. unwrap_or (if test then Some bytes else held other) []) is)
    (cases_Bool (pointwise nat_eq other name))

module _ (held : Contents) (call : RunCall) (apart : HasNamesApart call) (tests report proofs : List ℕ) where
  abbrev with_tests : Contents
  with_tests = put held call.tests tests

  abbrev with_report : Contents
  with_report = put with_tests call.report report

  abbrev left : Contents
  left = put with_report call.proofs proofs

  -- a name that is none of the three has what it had
  as_it_was : (name : List ℕ) → name ≢ call.tests → name ≢ call.report → name ≢ call.proofs → bytes_at left name ≡ bytes_at held name
  as_it_was name no_tests no_report no_proofs =
      bytes_at-put_other with_report call.proofs name proofs no_proofs
      ∙ bytes_at-put_other with_tests call.report name report no_report
      ∙ bytes_at-put_other held call.tests name tests no_tests

  pub net_left : bytes_at left call.net ≡ bytes_at held call.net
  net_left =
      as_it_was call.net (apart 0 2 [] (omega arith) (omega arith)) (apart 0 3 [] (omega arith) (omega arith))
      (apart 0 4 [] (omega arith) (omega arith))

  pub delays_left : bytes_at left call.delays ≡ bytes_at held call.delays
  delays_left =
      as_it_was call.delays (apart 1 2 [] (omega arith) (omega arith)) (apart 1 3 [] (omega arith) (omega arith))
      (apart 1 4 [] (omega arith) (omega arith))

  -- so has that of the scan file, if the mode reads one
  scans_as_they_were : (mode : RunMode)
      → AllPairs (λ a b. a ≢ b) (call.net ∷ call.delays ∷ call.tests ∷ call.report ∷ call.proofs ∷ scan_names mode)
      → map (λ name. bytes_at left name) (scan_names mode) ≡ map (λ name. bytes_at held name) (scan_names mode)
  scans_as_they_were enhanced differ = refl
  scans_as_they_were broadside differ = refl
  scans_as_they_were (skewed scan) differ =
      ap (λ (bytes : List ℕ). bytes ∷ [])
      (as_it_was scan (λ same. differ 2 5 [] (omega arith) (omega arith) (sym same)) (λ same. differ 3 5 [] (omega arith) (omega arith) (sym same))
      (λ same. differ 4 5 [] (omega arith) (omega arith) (sym same)))

  pub scans_left : map (λ name. bytes_at left name) (scan_names call.mode) ≡ map (λ name. bytes_at held name) (scan_names call.mode)
  scans_left = scans_as_they_were call.mode apart

  -- and those have their texts
  pub tests_left : bytes_at left call.tests ≡ tests
  tests_left =
      bytes_at-put_other with_report call.proofs call.tests proofs (apart 2 4 [] (omega arith) (omega arith))
      ∙ bytes_at-put_other with_tests call.report call.tests report (apart 2 3 [] (omega arith) (omega arith))
      ∙ bytes_at-put held call.tests tests

  pub report_left : bytes_at left call.report ≡ report
  report_left =
      bytes_at-put_other with_report call.proofs call.report proofs (apart 3 4 [] (omega arith) (omega arith))
      ∙ bytes_at-put with_tests call.report report

  pub proofs_left : bytes_at left call.proofs ≡ proofs
  proofs_left = bytes_at-put with_report call.proofs proofs
