-- The numbers that accepted words of `gen` or of `check` ask for are within their limits.
use Rattle.std.proofs.Common.{◌≡◌, ◌*◌, ◌≤◌, ℕ, true, List, Option, Some, None, Ok, refl, sym, ap, subst, ◌∙◌, inl, inr}
use Rattle.std.specs.Prelude.{leb, unwrap_or}
use Rattle.std.proofs.lemmas.Bool.{cases_Bool, leb-true}
use Rattle.pd_base.specs.declared.limits.TheConstants.{MOST_BUDGET, MOST_PATHS}
use Rattle.command_line.specs.Options.{are_apart, option_entry, option_word}
use Rattle.command_line.specs.RunForm.{HasRunNumbers, number_asked, number_of, product_reason, run_call, run_form}
use Rattle.command_line.specs.Reading.{OptionValue, Texts, accepted_texts, first_place, first_same, none_given, reason_or, texts_given, value_among}
use Rattle.command_line.specs.Values.{is_allowed, number_spelled}
use Rattle.command_line.specs.declared.number.TheConstants.{MOST_DIGITS}
use Rattle.command_line.specs.declared.option_name.OptionName.{OptionName}
use Rattle.command_line.specs.declared.option_name.OptionName.TheVariants.{Paths, Budget}
use Rattle.command_line.specs.declared.forms.run.TheConstants.{MOST_PRODUCT}
use Rattle.command_line.proofs.Accepting.{AreAllowed, none_allowed, value_allowed, values_hold}
use Rattle.command_line.proofs.Asking.{is_given, no_second}
use Rattle.command_line.proofs.Items.{IsAmong}
use Rattle.command_line.proofs.Numbers.{number_within}

-- the value that an option has is one that it may have, if its default is
module _ (options : List OptionName) (distinct : are_apart options ≡ true) (option : OptionName) (among : IsAmong option options)
    (values : List OptionValue) (allowed : AreAllowed options values) (default : List ℕ)
    (lawful : is_allowed (option_entry option).allowed default ≡ true) where
  by_found : (found : Option (List ℕ)) → value_among (option_word option) values ≡ found
      → (text : List ℕ) × (reason_or found (Some default) ≡ Some text) × (is_allowed (option_entry option).allowed text ≡ true)
  by_found None none = (default, refl, lawful)
  by_found (Some text) is = (text, refl, value_allowed options distinct option among values text allowed is)

  pub has_value : (text : List ℕ) × (reason_or (value_among (option_word option) values) (Some default) ≡ Some text)
      × (is_allowed (option_entry option).allowed text ≡ true)
  has_value = by_found (value_among (option_word option) values) refl

-- a product that is not refused
small_product : (product : ℕ) → product_reason product ≡ None → product ≤ MOST_PRODUCT
small_product product none =
    elim (cases_Bool (leb product MOST_PRODUCT)) [
      | inl small ↦ leb-true product MOST_PRODUCT small
      | inr over ↦ let bad = rw over at none in absurd cc
    ]

pub run_numbers : (words : List (List ℕ)) (texts : Texts) → accepted_texts run_form words ≡ Ok texts → HasRunNumbers (run_call texts)
run_numbers words texts accepted =
    let is = is_given run_form words texts accepted in
    let options = run_form.words.options in
    let allowed = values_hold run_form.words refl words first_place none_given is.given is.taken
    (record { values = none_allowed options; due = λ option same. absurd cc }) in
    let paths = has_value options refl Paths refl is.given.values allowed _ refl in
    let budget = has_value options refl Budget refl is.given.values allowed _ refl in
    let few = number_within _ _ (number_spelled MOST_DIGITS paths.0) paths.2 in
    let small = number_within _ _ (number_spelled MOST_DIGITS budget.0) budget.2 in
    let paths_are : number_asked Paths texts ≡ few.value =
    ap (number_asked Paths) (sym is.said) ∙ ap number_of paths.1 ∙ ap (λ (found : Option ℕ). unwrap_or found 0) few.spelled in
    let budget_is : number_asked Budget texts ≡ small.value =
    ap (number_asked Budget) (sym is.said) ∙ ap number_of budget.1 ∙ ap (λ (found : Option ℕ). unwrap_or found 0) small.spelled in
    record {
      some_paths = subst (λ n. 1 ≤ n) (sym paths_are) few.above;
      few_paths = subst (λ n. n ≤ MOST_PATHS) (sym paths_are) few.below;
      some_budget = subst (λ n. 1 ≤ n) (sym budget_is) small.above;
      small_budget = subst (λ n. n ≤ MOST_BUDGET) (sym budget_is) small.below;
      product =
          subst (λ (t : Texts). number_asked Paths t * number_asked Budget t ≤ MOST_PRODUCT) is.said
          (small_product _ (no_second (first_same is.given.names) _ (no_second (run_form.before_names (texts_given is.given)) _ is.no_reason)));
    }
