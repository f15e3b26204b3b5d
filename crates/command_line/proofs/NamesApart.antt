-- The names of files that words give are apart: those among the positional words of a command, whatever its form, and that of an option.
use Rattle.std.proofs.Common.{◌≡◌, ◌≢◌, ◌⊎◌, ⊎_elim, ℕ, zero, suc, ◌-◌, Bool, true, false, List, [], ◌∷◌, ◌++◌, Option, None, Some, Ok, flat_map, length, map, option_map, take, nat_eq, nat_lt, refl, inl, inr, sym, ap, subst, ◌∙◌, append_assoc, arith, AllPairs}
use Rattle.std.specs.List.{AllByRecursion, list_all}
use Rattle.std.specs.Cmp.Lexicographic.{pointwise}
use Rattle.std.proofs.lemmas.Bool.{cases_Bool, ltb-false, ltb-true}
use Rattle.std.proofs.lemmas.List.{append-nil, length_push}
use Rattle.std.proofs.lemmas.List.Elements.{All-from_recursion}
use Rattle.std.proofs.lemmas.List.Kept.{AllPairs-cons}
use Rattle.std.proofs.lemmas.Slice.Eq.{bytes_eq-Decides}
use Rattle.command_line.specs.Options.{are_apart, has_name, option_entry, option_word}
use Rattle.command_line.specs.Reading.{Form, Given, OptionValue, PlacedWord, Texts, WordsForm, accepted_texts, first_place, first_same, names_with, none_given, place_of, value_among, words_taken}
use Rattle.command_line.specs.Values.{is_file_name}
use Rattle.command_line.specs.declared.option_name.OptionName.{OptionName}
use Rattle.std.specs.Prelude.{if◌then◌else◌}
use Rattle.command_line.proofs.Accepting.{HasValue, Reads, accepted, has_value, is_due, later_value, names_option, none_allowed, stands, this_value, value_given_to, values_hold}
use Rattle.command_line.proofs.Asking.{IsGiven, is_given, no_first, no_second}
use Rattle.command_line.proofs.Items.{IsAmong}

-- ---- names that are told to be apart

none_mapped : {A B : Type 0} (f : A → B) (found : Option A) → option_map f found ≡ None → found ≡ None
none_mapped f None none = refl
none_mapped f (Some item) none = absurd cc

-- no text equals a later one
Differ : List (List ℕ) → Type 0
Differ [] = Unit {0}
Differ (text ∷ texts) = AllByRecursion (λ other. text ≢ other) texts × Differ texts

texts_of_names : List PlacedWord → List (List ℕ)
texts_of_names names = map (λ name. name.text) names

-- a text that has no place is none of these names
none_is : (text : List ℕ) (names : List PlacedWord) → place_of text names ≡ None → AllByRecursion (λ other. text ≢ other) (texts_of_names names)
unfolding texts_of_names
none_is text [] none = tt
none_is text (name ∷ names) none =
    ⊎_elim
    (λ (same : pointwise nat_eq text name.text ≡ true). let bad = rw same at none in absurd cc)
    (λ (other : pointwise nat_eq text name.text ≡ false). (
      λ (is : text ≡ name.text). let same : pointwise nat_eq text name.text ≡ true = (bytes_eq-Decides text name.text).1 is in absurd cc,
      none_is text names (rw other at none),
    ))
    (cases_Bool (pointwise nat_eq text name.text))

names_differ : (names : List PlacedWord) → first_same names ≡ None → Differ (texts_of_names names)
unfolding Differ texts_of_names
names_differ [] none = tt
names_differ (name ∷ names) none = (
  none_is name.text names (none_mapped _ (place_of name.text names) (no_first (option_map _ (place_of name.text names)) (first_same names) none)),
  names_differ names (no_second (option_map _ (place_of name.text names)) (first_same names) none),
)

-- ---- some of them: positional words, and values of options, each of the two in order

data Woven : List (List ℕ) → List (List ℕ) → List (List ℕ) → Type 0 where
  none_of : (texts : List (List ℕ)) → Woven [] [] texts
  takes_word : (text : List ℕ) {words values texts : List (List ℕ)} → Woven words values texts → Woven (text ∷ words) values (text ∷ texts)
  takes_value : (text : List ℕ) {words values texts : List (List ℕ)} → Woven words values texts → Woven words (text ∷ values) (text ∷ texts)

all_woven : (P : List ℕ → Type 0) (words values texts : List (List ℕ)) → Woven words values texts → AllByRecursion P texts
    → AllByRecursion P (words ++ values)
all_woven P _ _ _ (none_of texts) all = tt
all_woven P _ _ _ (takes_word text rest) all = (all.0, all_woven P _ _ _ rest all.1)
all_woven P words _ _ (takes_value text {values = values} rest) all = all_with P words values text all.0 (all_woven P _ _ _ rest all.1)
  where
    all_with : (P : List ℕ → Type 0) (words values : List (List ℕ)) (text : List ℕ) → P text → AllByRecursion P (words ++ values)
        → AllByRecursion P (words ++ text ∷ values)
    all_with P [] values text it all = (it, all)
    all_with P (word ∷ words) values text it all = (all.0, all_with P words values text it all.1)

-- a text more that none of them is
differ_with : (words values : List (List ℕ)) (text : List ℕ) → AllByRecursion (λ other. text ≢ other) (words ++ values)
    → Differ (words ++ values) → Differ (words ++ text ∷ values)
unfolding Differ
differ_with [] values text none differ = (none, differ)
differ_with (word ∷ words) values text none differ = (one_more words differ.0, differ_with words values text none.1 differ.1)
  where
    one_more : (list : List (List ℕ)) → AllByRecursion (λ other. word ≢ other) (list ++ values)
        → AllByRecursion (λ other. word ≢ other) (list ++ text ∷ values)
    one_more [] all = (λ same. none.0 (sym same), all)
    one_more (other ∷ list) all = (all.0, one_more list all.1)

woven_differ : (words values texts : List (List ℕ)) → Woven words values texts → Differ texts → Differ (words ++ values)
unfolding Differ
woven_differ _ _ _ (none_of texts) differ = tt
woven_differ _ _ _ (takes_word text rest) differ = (all_woven (λ other. text ≢ other) _ _ _ rest differ.0, woven_differ _ _ _ rest differ.1)
woven_differ _ _ _ (takes_value text rest) differ =
    differ_with _ _ text (all_woven (λ other. text ≢ other) _ _ _ rest differ.0) (woven_differ _ _ _ rest differ.1)

-- the text is one of these
IsOneOf : List ℕ → List (List ℕ) → Type 0
IsOneOf text [] = ⊥
IsOneOf text (other ∷ texts) = (other ≡ text) ⊎ IsOneOf text texts

-- of the values one alone
all_but_one : (P : List ℕ → Type 0) (words values : List (List ℕ)) (text : List ℕ) → IsOneOf text values → AllByRecursion P (words ++ values)
    → AllByRecursion P (words ++ text ∷ [])
unfolding IsOneOf
all_but_one P (word ∷ words) values text is all = (all.0, all_but_one P words values text is all.1)
all_but_one P [] [] text is all = absurd is
all_but_one P [] (other ∷ values) text (inl same) all = (subst P same all.0, tt)
all_but_one P [] (other ∷ values) text (inr is) all = all_but_one P [] values text is all.1

differ_but_one : (words values : List (List ℕ)) (text : List ℕ) → IsOneOf text values → Differ (words ++ values) → Differ (words ++ text ∷ [])
unfolding Differ
differ_but_one [] values text is differ = (tt, tt)
differ_but_one (word ∷ words) values text is differ =
    (all_but_one (λ other. word ≢ other) words values text is differ.0, differ_but_one words values text is differ.1)

-- none of the values
all_words_alone : (P : List ℕ → Type 0) (words values : List (List ℕ)) → AllByRecursion P (words ++ values) → AllByRecursion P words
all_words_alone P [] values all = tt
all_words_alone P (word ∷ words) values all = (all.0, all_words_alone P words values all.1)

differ_alone : (words values : List (List ℕ)) → Differ (words ++ values) → Differ words
unfolding Differ
differ_alone [] values differ = tt
differ_alone (word ∷ words) values differ =
    (all_words_alone (λ other. word ≢ other) words values differ.0, differ_alone words values differ.1)

pairs_differ : (texts : List (List ℕ)) → Differ texts → AllPairs (λ a b. a ≢ b) texts
unfolding Differ
pairs_differ [] differ = λ i j d before within. absurd (omega arith)
pairs_differ (text ∷ texts) differ =
    AllPairs-cons (λ a b. a ≢ b) text texts (All-from_recursion (λ other. text ≢ other) texts differ.0) (pairs_differ texts differ.1)

-- ---- the names that words give

-- the text, if it is a name
abbrev text_if : Bool → List ℕ → List (List ℕ)
text_if is_name text = if is_name then text ∷ [] else []

-- those of these values that are names of files
file_texts : List OptionValue → List (List ℕ)
file_texts values = flat_map (λ value. text_if (is_file_name (option_entry value.option).allowed) value.text) values

-- What stands in the end behind what was given: names more, values more, and positional words more. Those of the values that are names of
-- files, and so many of the words as may still come, are the names, each of the two in order.
record More (form : WordsForm) (end given : Given) : Type 0 where
  names : List PlacedWord
  positional : List (List ℕ)
  values : List OptionValue
  names_are : end.names ≡ given.names ++ names
  positional_are : end.positional ≡ given.positional ++ positional
  values_are : end.values ≡ given.values ++ values
  among : Woven (take (form.files - length given.positional) positional) (file_texts values) (texts_of_names names)

-- behind the value of an option, which may be a name
named_more : (is_name : Bool) (place : ℕ) (text : List ℕ) (end_names names more : List PlacedWord) (words values : List (List ℕ))
    → end_names ≡ names_with is_name place text names ++ more → Woven words values (texts_of_names more)
    → (before : List PlacedWord) × (end_names ≡ names ++ before) × Woven words (text_if is_name text ++ values) (texts_of_names before)
unfolding texts_of_names
named_more true place text end_names names more words values is among =
    (record { place = place; text = text } ∷ more, is ∙ append_assoc names _ more, takes_value text among)
named_more false place text end_names names more words values is among = (more, is, among)

-- behind a positional word, which is a name where some may still come
word_more : (test : Bool) (room next : ℕ) (place : ℕ) (text : List ℕ) (end_names names more : List PlacedWord) (later values : List (List ℕ))
    → (test ≡ true → room ≡ suc next) → (test ≡ false → room ≡ 0)
    → (test ≡ false → next ≡ 0) → end_names ≡ names_with test place text names ++ more → Woven (take next later) values (texts_of_names more)
    → (before : List PlacedWord) × (end_names ≡ names ++ before) × Woven (take room (text ∷ later)) values (texts_of_names before)
unfolding texts_of_names
word_more true room next place text end_names names more later values some none no_next is among = (
  record { place = place; text = text } ∷ more,
  is ∙ append_assoc names _ more,
  subst (λ (n : ℕ). Woven (take n (text ∷ later)) values (text ∷ map (λ name. name.text) more)) (sym (some refl)) (takes_word text among),
)
word_more false room next place text end_names names more later values some none no_next is among = (
  more,
  is,
  subst (λ (n : ℕ). Woven (take n (text ∷ later)) values (map (λ name. name.text) more)) (sym (none refl))
      (subst (λ (n : ℕ). Woven (take n later) values (map (λ name. name.text) more)) (no_next refl) among),
)

one_word : (form : WordsForm) (end : Given) (place : ℕ) (text : List ℕ) (given more : Given) → Reads form place text given more
    → More form end more → More form end given
unfolding file_texts
one_word form end place text given more (names_option option none known told new is) behind =
    let rest : More form end (record given { due = Some option }) = subst (More form end) is behind in
    record {
      names = rest.names;
      positional = rest.positional;
      values = rest.values;
      names_are = rest.names_are;
      positional_are = rest.positional_are;
      values_are = rest.values_are;
      among = rest.among;
    }
one_word form end place text given more (is_due option due good is) behind =
    let rest = subst (More form end) is behind in
    let before =
    named_more (is_file_name (option_entry option).allowed) place text end.names given.names rest.names _ _ rest.names_are rest.among in
    record {
      names = before.0;
      positional = rest.positional;
      values = record { option = option; text = text } ∷ rest.values;
      names_are = before.1;
      positional_are = rest.positional_are;
      values_are = rest.values_are ∙ append_assoc given.values _ rest.values;
      among = before.2;
    }
one_word form end place text given more (has_value option value none known told new good is) behind =
    let rest = subst (More form end) is behind in
    let before =
    named_more (is_file_name (option_entry option).allowed) place value end.names given.names rest.names _ _ rest.names_are rest.among in
    record {
      names = before.0;
      positional = rest.positional;
      values = record { option = option; text = value } ∷ rest.values;
      names_are = before.1;
      positional_are = rest.positional_are;
      values_are = rest.values_are ∙ append_assoc given.values _ rest.values;
      among = before.2;
    }
one_word form end place text given more (stands first later none told plain_first is) behind =
    let rest = subst (More form end) is behind in
    let count = length_push given.positional text in
    let before = word_more (nat_lt (length given.positional) form.files) (form.files - length given.positional)
    (form.files - length (given.positional ++ text ∷ [])) place text end.names given.names rest.names rest.positional _
    (λ test. let below = ltb-true (length given.positional) form.files test in omega (arith, count, below))
    (λ test. let over = ltb-false (length given.positional) form.files test in omega (arith, over))
    (λ test. let over = ltb-false (length given.positional) form.files test in omega (arith, count, over))
    rest.names_are rest.among in
    record {
      names = before.0;
      positional = text ∷ rest.positional;
      values = rest.values;
      names_are = before.1;
      positional_are = rest.positional_are ∙ append_assoc given.positional (text ∷ []) rest.positional;
      values_are = rest.values_are;
      among = before.2;
    }

at_end : (form : WordsForm) (end given : Given) → end ≡ given → More form end given
unfolding file_texts
at_end form end given same = record {
  names = [];
  positional = [];
  values = [];
  names_are = ap (λ (g : Given). g.names) same ∙ sym (append-nil given.names);
  positional_are = ap (λ (g : Given). g.positional) same ∙ sym (append-nil given.positional);
  values_are = ap (λ (g : Given). g.values) same ∙ sym (append-nil given.values);
  among = subst (λ (list : List (List ℕ)). Woven list [] (texts_of_names [])) (sym (take_none (form.files - length given.positional))) (none_of _);
}
  where
    take_none : (count : ℕ) → take {A = List ℕ} count [] ≡ []
    take_none zero = refl
    take_none (suc count) = refl

all_words : (form : WordsForm) → list_all has_name form.options ≡ true → (words : List (List ℕ)) (end : Given)
    → words_taken form first_place none_given words ≡ Ok end → More form end none_given
all_words form named words end taken =
    accepted form named end (λ (g : Given) (list : List (List ℕ)). More form end g)
    (λ g same none full. at_end form end g same)
    (λ place text list g more read behind. one_word form end place text g more read behind) words first_place none_given taken

-- the value that an option was given which names a file is one of those
value_is_file : (option : OptionName) → is_file_name (option_entry option).allowed ≡ true → (text : List ℕ) (values : List OptionValue)
    → HasValue option text values → IsOneOf text (file_texts values)
unfolding IsOneOf file_texts
value_is_file option names text _ (this_value value values is same) =
    let is_name = ap (λ (o : OptionName). is_file_name (option_entry o).allowed) is ∙ names in
    subst (λ (test : Bool). IsOneOf text (text_if test value.text ++ file_texts values)) (sym is_name) (inl same)
value_is_file option names text _ (later_value value {values = values} has) =
    behind (is_file_name (option_entry value.option).allowed) (value_is_file option names text values has)
  where
    behind : (is_name : Bool) → IsOneOf text (file_texts values) → IsOneOf text (text_if is_name value.text ++ file_texts values)
    behind true is = inr is
    behind false is = is

module _ (form : Form) (named : list_all has_name form.words.options ≡ true) (words : List (List ℕ)) (texts : Texts)
    (accepted_is : accepted_texts form words ≡ Ok texts) where
  abbrev it : IsGiven form words texts
  it = is_given form words texts accepted_is

  -- the names of files among the positional words, and then those that options have
  all_differ : Differ (take form.words.files texts.positional ++ file_texts it.given.values)
  all_differ =
      let all = all_words form.words named words it.given it.taken in
      let apart = no_first (first_same it.given.names) _ (no_second (form.before_names _) _ it.no_reason) in
      let room : form.words.files - length none_given.positional ≡ form.words.files = omega arith in
      let among =
      subst (λ (count : ℕ). Woven (take count all.positional) (file_texts all.values) (texts_of_names all.names)) room all.among in
      let differ = names_differ all.names (subst (λ (names : List PlacedWord). first_same names ≡ None) all.names_are apart) in
      subst (λ (list : List (List ℕ)). Differ (take form.words.files list ++ file_texts it.given.values))
      (sym all.positional_are ∙ ap (λ (t : Texts). t.positional) it.said)
      (subst (λ (values : List OptionValue). Differ (take form.words.files all.positional ++ file_texts values)) (sym all.values_are)
      (woven_differ _ _ _ among differ))

  -- the names of files among the positional words of accepted words differ
  pub files_apart : AllPairs (λ a b. a ≢ b) (take form.words.files texts.positional)
  files_apart = pairs_differ _ (differ_alone _ (file_texts it.given.values) all_differ)

  -- and so does the name that an option gives
  pub files_and_value_apart : are_apart form.words.options ≡ true → (option : OptionName) → IsAmong option form.words.options
      → is_file_name (option_entry option).allowed ≡ true → (name : List ℕ) → texts.values option ≡ Some name
      → AllPairs (λ a b. a ≢ b) (take form.words.files texts.positional ++ name ∷ [])
  files_and_value_apart distinct option among names name is =
      let found : value_among (option_word option) it.given.values ≡ Some name = ap (λ (t : Texts). t.values option) it.said ∙ is in
      let allowed =
      values_hold form.words named words first_place none_given it.given it.taken
      (record { values = none_allowed form.words.options; due = λ other same. absurd cc }) in
      pairs_differ _
      (differ_but_one _ (file_texts it.given.values) name
      (value_is_file option names name it.given.values
      (value_given_to form.words.options distinct option among it.given.values name allowed found)) all_differ)
