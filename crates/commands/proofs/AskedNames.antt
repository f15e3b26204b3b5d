-- The names in accepted words of gen or check: five, and that of the scan file, if the mode reads one. No two of them are the same.
use Rattle.std.proofs.Common.{◌≡◌, ◌≢◌, ◌⊎◌, ⊎_elim, inl, inr, ℕ, Bool, true, false, List, [], ◌∷◌, ◌++◌, Option, None, Some, Ok, length, take, nat_eq, refl, sym, subst, arith, AllPairs}
use Rattle.std.specs.Prelude.{if◌then◌else◌, is_some, unwrap_or}
use Rattle.std.specs.Cmp.Lexicographic.{pointwise}
use Rattle.std.proofs.lemmas.List.{append-nil}
use Rattle.command_line.specs.Modes.{RunMode, enhanced, broadside, skewed, broadside_word, is_skewed, mode_of, skewed_word}
use Rattle.command_line.specs.RunForm.{run_call, run_form, scan_reason}
use Rattle.command_line.specs.Reading.{Texts, accepted_texts, reason_or, texts_given, value_asked}
use Rattle.command_line.specs.declared.option_name.OptionName.TheVariants as option
use Rattle.command_line.proofs.Asking.{all_texts_there, is_given, no_first}
use Rattle.command_line.proofs.NamesApart.{files_and_value_apart, files_apart}
use Rattle.commands.specs.LaterCalls.{HasNamesApart, run_names, scan_names}

-- five names, and those of the mode, are those of the call
five_are : (names : List (List ℕ)) (texts : Texts) → texts.positional ≡ names → length names ≡ 5
    → take 5 names ++ scan_names (run_call texts).mode ≡ run_names (run_call texts)
five_are [] texts is five = absurd (omega arith)
five_are (a ∷ []) texts is five = absurd (omega arith)
five_are (a ∷ b ∷ []) texts is five = absurd (omega arith)
five_are (a ∷ b ∷ c ∷ []) texts is five = absurd (omega arith)
five_are (a ∷ b ∷ c ∷ d ∷ []) texts is five = absurd (omega arith)
five_are (a ∷ b ∷ c ∷ d ∷ e ∷ []) texts is five = rw is refl
five_are (a ∷ b ∷ c ∷ d ∷ e ∷ f ∷ more) texts is five = absurd (omega arith)

-- the mode reads no scan file, or the one that the words name
ReadsNamed : RunMode → Option (List ℕ) → Type 0
ReadsNamed mode scan = (scan_names mode ≡ []) ⊎ ((name : List ℕ) × (scan ≡ Some name) × (scan_names mode ≡ name ∷ []))

-- by whether the word is that of a mode, and that of the other
by_tests : (is_broadside is_shifted : Bool) (scan : Option (List ℕ)) → scan_reason is_shifted (is_some (reason_or scan None)) ≡ None
    → ReadsNamed (if is_broadside then broadside else if is_shifted then skewed (unwrap_or (reason_or scan None) []) else enhanced) scan
unfolding ReadsNamed
by_tests true is_shifted scan none = inl refl
by_tests false true None none = absurd cc
by_tests false true (Some name) none = inr (name, refl, refl)
by_tests false false scan none = inl refl

by_mode : (mode scan : Option (List ℕ)) → scan_reason (is_skewed mode) (is_some (reason_or scan None)) ≡ None
    → ReadsNamed (mode_of mode (reason_or scan None)) scan
unfolding ReadsNamed
by_mode None scan none = inl refl
by_mode (Some word) scan none = by_tests (pointwise nat_eq word broadside_word) (pointwise nat_eq word skewed_word) scan none

module _ (words : List (List ℕ)) (texts : Texts) (accepted : accepted_texts run_form words ≡ Ok texts) where
  -- a scan file is named exactly for the mode that reads one
  reads_named : ReadsNamed (run_call texts).mode (texts.values option.Scan)
  reads_named =
      let is = is_given run_form words texts accepted in
      by_mode (value_asked option.Mode texts) (texts.values option.Scan)
      (subst (λ (t : Texts). run_form.before_names t ≡ None) is.said (no_first (run_form.before_names (texts_given is.given)) _ is.no_reason))

  all_apart : AllPairs (λ a b. a ≢ b) (take 5 texts.positional ++ scan_names (run_call texts).mode)
  unfolding ReadsNamed
  all_apart =
      ⊎_elim
      (λ (none : scan_names (run_call texts).mode ≡ []).
      subst (λ (list : List (List ℕ)). AllPairs (λ a b. a ≢ b) (take 5 texts.positional ++ list)) (sym none)
      (subst (AllPairs (λ a b. a ≢ b)) (sym (append-nil (take 5 texts.positional))) (files_apart run_form refl words texts accepted)))
      (λ (named : (name : List ℕ) × (texts.values option.Scan ≡ Some name) × (scan_names (run_call texts).mode ≡ name ∷ [])).
      subst (λ (list : List (List ℕ)). AllPairs (λ a b. a ≢ b) (take 5 texts.positional ++ list)) (sym named.2)
      (files_and_value_apart run_form refl words texts accepted refl option.Scan refl refl named.0 named.1)) reads_named

  -- so those of accepted words are apart
  pub names_differ : HasNamesApart (run_call texts)
  names_differ =
      subst (AllPairs (λ a b. a ≢ b))
      (five_are texts.positional texts refl (all_texts_there run_form refl words texts accepted)) all_apart
