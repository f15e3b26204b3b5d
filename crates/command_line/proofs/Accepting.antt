-- Words that the rules accept: they are those of items, each of which may come; the values are lawful; none is missing.
use Rattle.std.proofs.Common.{◌≡◌, ◌≢◌, ◌==◌, ◌+◌, ◌||◌, ℕ, Bool, true, false, List, [], ◌∷◌, ◌++◌, Option, Some, None, Result, Ok, Err, is_some, length, refl, sym, ap, ap₂, ◌∙◌, subst, inl, inr}
use Rattle.std.specs.Prelude.{nat_eq, not, unwrap_or}
use Rattle.std.specs.List.{list_all}
use Rattle.std.specs.Cmp.Lexicographic.{pointwise}
use Rattle.std.proofs.lemmas.Bool.{and_parts, cases_Bool, eqb-true, eqb-false}
use Rattle.std.proofs.lemmas.List.{append-nil}
use denote.Enum.Bare.{same_true, true_same}
use Rattle.command_line.specs.Kinds.{Kind, alone, valued, hyphened, empty, plain, kind_behind, other_kind, without_front, word_kind}
use Rattle.command_line.specs.Options.{are_apart, has_name, option_entry, option_word, same_option, told_apart}
use Rattle.command_line.specs.Reading.{Given, GivesWords, OptionValue, WordsForm, due_taken, end_reason, first_place, kind_taken, none_given, then_taken, unless_refused, value_among, value_given, value_taken, with_positional, with_value, word_taken, words_taken}
use Rattle.command_line.specs.Values.{is_allowed}
use Rattle.command_line.specs.contracts.option_name.OptionName.{the_type}
use Rattle.command_line.specs.declared.option_name.OptionName.{OptionName}
use Rattle.command_line.specs.declared.refusal.WordsRefusal.{WordsRefusal}
use Rattle.command_line.proofs.Beginnings.{front_is}
use Rattle.command_line.proofs.Items.{Item, lone, apart, attached, words_of, Said, nothing_said, said_value, IsAmong, IsKnown, MayFollow, all_said}
use Rattle.command_line.proofs.Numbers.{allowed_is_plain, first_of_plain}

-- ---- the kind of a word

-- each of these options is one that the command knows
AreKnown : List OptionName → List OptionName → Type 0
AreKnown options [] = Unit {0}
AreKnown options (option ∷ more) = IsKnown options option × AreKnown options more

or_true : (b : Bool) → (b || true) ≡ true
or_true true = refl
or_true false = refl

-- all options of a form whose names are lawful are known
are_known : (options part : List OptionName) → ((option : OptionName) → IsAmong option part → IsAmong option options)
    → list_all has_name part ≡ true → AreKnown options part
unfolding AreKnown
are_known options [] among named = tt
are_known options (option ∷ more) among named =
    let parts = and_parts (has_name option) (list_all has_name more) named in (
      record { among = among option (rw (true_same the_type option option refl) refl); named = parts.0 },
      are_known options more
          (λ other is. among other (rw is (or_true (same_option option other)))) parts.1,
    )

-- what a kind says of its word
abbrev IsKind : List OptionName → List ℕ → Kind → Type 0
IsKind options text (alone option) = IsKnown options option × (text ≡ option_word option)
IsKind options text (valued option value) = IsKnown options option × (text ≡ option_word option ++ 61 ∷ value)
IsKind options text hyphened = Unit {0}
IsKind options text empty = Unit {0}
IsKind options text plain = (first : ℕ) × (later : List ℕ) × (text ≡ first ∷ later) × (first ≢ 45)

other_is : (options : List OptionName) (text : List ℕ) → IsKind options text (other_kind text)
other_is options [] = tt
other_is options (first ∷ later) =
    elim (cases_Bool (first == 45)) [
      | inl same ↦ rw same tt
      | inr differ ↦ rw differ (first, later, refl, eqb-false first 45 differ)
    ]

behind_is : (options : List OptionName) (option : OptionName) (text : List ℕ) (rest : Kind) (behind : Option (List ℕ)) → IsKnown options option
    → without_front (option_word option) text ≡ behind → IsKind options text rest → IsKind options text (unwrap_or (kind_behind option behind) rest)
behind_is options option text rest None known is other = other
behind_is options option text rest (Some []) known is other =
    (known, front_is (option_word option) text [] is ∙ append-nil (option_word option))
behind_is options option text rest (Some (first ∷ value)) known is other =
    elim (cases_Bool (first == 61)) [
      | inl same ↦
          rw same (
            known,
            front_is (option_word option) text (first ∷ value) is
                ∙ ap (λ (byte : ℕ). option_word option ++ byte ∷ value) (eqb-true first 61 same),
          )
      | inr differs ↦ rw differs other
    ]

kind_among : (options part : List OptionName) (text : List ℕ) → AreKnown options part → IsKind options text (word_kind part text)
unfolding AreKnown
kind_among options [] text known = other_is options text
kind_among options (option ∷ more) text known =
    behind_is options option text (word_kind more text) (without_front (option_word option) text) known.0 refl
    (kind_among options more text known.1)

kind_is : (options : List OptionName) (text : List ℕ) → list_all has_name options ≡ true → IsKind options text (word_kind options text)
kind_is options text named = kind_among options options text (are_known options options (λ option is. is) named)

-- ---- how one word is taken

absent : (o : Option (List ℕ)) → is_some o ≡ false → o ≡ None
absent None none = refl
absent (Some x) none = absurd cc

-- as an option's, as the value that was due, as an option's with its value, or as a positional one
pub data Reads (form : WordsForm) (place : ℕ) (text : List ℕ) (given more : Given) : Type 0 where
  names_option : (option : OptionName) → given.due ≡ None → IsKnown form.options option → text ≡ option_word option
      → value_given option given ≡ None → more ≡ record given { due = Some option } → Reads form place text given more
  is_due : (option : OptionName) → given.due ≡ Some option → is_allowed (option_entry option).allowed text ≡ true
      → more ≡ with_value option place text given → Reads form place text given more
  has_value : (option : OptionName) (value : List ℕ) → given.due ≡ None → IsKnown form.options option
      → text ≡ option_word option ++ 61 ∷ value → value_given option given ≡ None
      → is_allowed (option_entry option).allowed value ≡ true → more ≡ with_value option place value given
      → Reads form place text given more
  stands : (first : ℕ) (later : List ℕ) → given.due ≡ None → text ≡ first ∷ later → first ≢ 45
      → more ≡ with_positional form place text given → Reads form place text given more

module _ (form : WordsForm) (named : list_all has_name form.options ≡ true) (place : ℕ) (text : List ℕ) (given more : Given) where
  -- a value that was taken is lawful
  value_read : (option : OptionName) (value : List ℕ) → value_taken option place value given ≡ Ok more
      → (is_allowed (option_entry option).allowed value ≡ true) × (more ≡ with_value option place value given)
  value_read option value is =
      elim (cases_Bool (is_allowed (option_entry option).allowed value)) [
        | inl good ↦ let taken = rw good at is in (good, cc)
        | inr wrong ↦ let bad = rw wrong at is in absurd cc
      ]

  by_kind : (kind : Kind) → IsKind form.options text kind → given.due ≡ None → kind_taken form place text given kind ≡ Ok more
      → Reads form place text given more
  by_kind (alone option) told none is =
      elim (cases_Bool (is_some (value_given option given))) [
        | inl before ↦ let bad = rw before at is in absurd cc
        | inr new ↦ let taken = rw new at is in names_option option none told.0 told.1 (absent _ new) (cc)
      ]
  by_kind (valued option value) told none is =
      elim (cases_Bool (is_some (value_given option given))) [
        | inl before ↦ let bad = rw before at is in absurd cc
        | inr new ↦
            let read = value_read option value (rw new at is) in
            has_value option value none told.0 told.1 (absent _ new) read.0 read.1
      ]
  by_kind hyphened told none is = absurd cc
  by_kind empty told none is = absurd cc
  by_kind plain told none is =
      elim (cases_Bool (length given.positional == form.positional)) [
        | inl full ↦ let bad = rw full at is in absurd cc
        | inr room ↦ let taken = rw room at is in stands told.0 told.1 none told.2 told.3 (cc)
      ]

  by_due : (due : Option OptionName) → given.due ≡ due → due_taken form place text given due ≡ Ok more
      → Reads form place text given more
  by_due None none is = by_kind (word_kind form.options text) (kind_is form.options text named) none is
  by_due (Some option) due is = let read = value_read option text is in is_due option due read.0 read.1

  pub reads : word_taken form place text given ≡ Ok more → Reads form place text given more
  reads is = by_due given.due refl is

-- ---- all words

-- what words said
abbrev pub said_of : Given → Said
said_of given = record { positional = given.positional; values = given.values }

-- What words are that are accepted behind these texts, also where an option waits for its value: the words of items, which give
-- what is given in the end.
abbrev pub AreItems : List OptionName → Said → Option OptionName → List (List ℕ) → Given → Type 0
AreItems options said None words end =
    (items : List Item) × (words ≡ words_of items) × MayFollow options said items × (said_of end ≡ all_said said items)
AreItems options said (Some option) words end =
    (first : ℕ) × (later : List ℕ) × (items : List Item) × (words ≡ (first ∷ later) ∷ words_of items) × (first ≢ 45)
    × MayFollow options (said_value option (first ∷ later) said) items
    × (said_of end ≡ all_said (said_value option (first ∷ later) said) items)

module _ (options : List OptionName) (words : List (List ℕ)) (end : Given) where
  pub Follow : Given → Type 0
  Follow given = AreItems options (said_of given) given.due words end

  -- one word before items
  one_more : (form : WordsForm) → form.options ≡ options → (place : ℕ) (text : List ℕ) (given more : Given) → Reads form place text given more
      → Follow more → AreItems options (said_of given) given.due (text ∷ words) end
  unfolding Follow
  one_more form same place text given more (names_option option none known told new is) rest =
      let due : AreItems options (said_of given) (Some option) words end = subst Follow is rest in
      subst (λ (o : Option OptionName). AreItems options (said_of given) o (text ∷ words) end) (sym none) (
        apart option due.0 due.1 ∷ due.2,
        ap₂ ◌∷◌ told due.3,
        ((subst (λ (list : List OptionName). IsKnown list option) same known, due.4, new), due.5),
        due.6,
      )
  one_more form same place text given more (is_due option due good is) rest =
      let behind : AreItems options (said_value option text (said_of given)) None words end = subst Follow is rest in
      let first = first_of_plain text (allowed_is_plain (option_entry option).allowed text good) in
      subst (λ (o : Option OptionName). AreItems options (said_of given) o (text ∷ words) end) (sym due) (
        first.0,
        first.1,
        behind.0,
        ap₂ ◌∷◌ first.2 behind.1,
        first.3,
        subst (λ (t : List ℕ). MayFollow options (said_value option t (said_of given)) behind.0) first.2 behind.2,
        behind.3 ∙ ap (λ (t : List ℕ). all_said (said_value option t (said_of given)) behind.0) first.2,
      )
  one_more form same place text given more (has_value option value none known told new good is) rest =
      let behind : AreItems options (said_value option value (said_of given)) None words end = subst Follow is rest in
      subst (λ (o : Option OptionName). AreItems options (said_of given) o (text ∷ words) end) (sym none) (
        attached option value ∷ behind.0,
        ap₂ ◌∷◌ told behind.1,
        ((subst (λ (list : List OptionName). IsKnown list option) same known, new), behind.2),
        behind.3,
      )
  one_more form same place text given more (stands first later none told plain_first is) rest =
      let with_word : List ℕ → Said = λ t. record (said_of given) { positional = given.positional ++ t ∷ [] } in
      let moved : AreItems options (with_word text) given.due words end = subst Follow is rest in
      let behind = subst (λ (o : Option OptionName). AreItems options (with_word text) o words end) none moved in
      subst (λ (o : Option OptionName). AreItems options (said_of given) o (text ∷ words) end) (sym none) (
        lone first later ∷ behind.0,
        ap₂ ◌∷◌ told behind.1,
        (plain_first, subst (λ (t : List ℕ). MayFollow options (with_word t) behind.0) told behind.2),
        behind.3 ∙ ap (λ (t : List ℕ). all_said (with_word t) behind.0) told,
      )

-- what holds at the end of accepted words, and of what was given before a word if it holds behind it, holds before all words
module _ (form : WordsForm) (named : list_all has_name form.options ≡ true) (end : Given) (P : Given → List (List ℕ) → Type 0)
    (at_end : (given : Given) → end ≡ given → given.due ≡ None → length given.positional ≡ form.positional → P given [])
    (one_word : (place : ℕ) (text : List ℕ) (words : List (List ℕ)) (given more : Given) → Reads form place text given more
    → P more words → P given (text ∷ words)) where
  ended : (given : Given) (due : Option OptionName) → given.due ≡ due → unless_refused (end_reason form given due) given ≡ Ok end → P given []
  ended given (Some option) due is = absurd cc
  ended given None none is =
      elim (cases_Bool (length given.positional == form.positional)) [
        | inl full ↦ let taken = rw full at is in at_end given (cc) none (eqb-true _ _ full)
        | inr other ↦ let bad = rw other at is in absurd cc
      ]

  by_outcome : (text : List ℕ) (words : List (List ℕ)) (place : ℕ) (given : Given) (outcome : Result Given WordsRefusal)
      → ((more : Given) → words_taken form (place + 1) more words ≡ Ok end → P more words)
      → word_taken form place text given ≡ outcome
      → then_taken outcome (λ more. words_taken form (place + 1) more words) ≡ Ok end → P given (text ∷ words)
  by_outcome text words place given (Err reason) behind taken is = absurd cc
  by_outcome text words place given (Ok more) behind taken is =
      one_word place text words given more (reads form named place text given more taken) (behind more is)

  pub accepted : (words : List (List ℕ)) (place : ℕ) (given : Given) → words_taken form place given words ≡ Ok end → P given words
  accepted [] place given is = ended given given.due refl is
  accepted (text ∷ words) place given is =
      by_outcome text words place given (word_taken form place text given)
      (λ more rest. accepted words (place + 1) more rest) refl is

-- values of options, each of which its option may have, and the options among these
pub AreAllowed : List OptionName → List OptionValue → Type 0
AreAllowed options [] = Unit {0}
AreAllowed options (value ∷ values) =
    IsAmong value.option options × (is_allowed (option_entry value.option).allowed value.text ≡ true) × AreAllowed options values

pub none_allowed : (options : List OptionName) → AreAllowed options []
unfolding AreAllowed
none_allowed options = tt

one_more_allowed : (options : List OptionName) (values : List OptionValue) (value : OptionValue) → IsAmong value.option options
    → is_allowed (option_entry value.option).allowed value.text ≡ true → AreAllowed options values → AreAllowed options (values ++ value ∷ [])
unfolding AreAllowed
one_more_allowed options [] value among good allowed = (among, good, tt)
one_more_allowed options (first ∷ values) value among good allowed =
    (allowed.0, allowed.1, one_more_allowed options values value among good allowed.2)

-- the values so far are those that their options may have, and the option that waits for its value is one of the form
pub record HasAllowed (options : List OptionName) (given : Given) : Type 0 where
  pub values : AreAllowed options given.values
  pub due : (option : OptionName) → given.due ≡ Some option → IsAmong option options

still : (form : WordsForm) (at : ℕ) (text : List ℕ) (given more : Given) → Reads form at text given more → HasAllowed form.options given
    → HasAllowed form.options more
still form at text given more (names_option option none known told new is) have =
    subst (HasAllowed form.options) (sym is) (record {
      values = have.values;
      due = λ other same. subst (λ (o : Option OptionName). IsAmong (unwrap_or o option) form.options) same known.among;
    })
still form at text given more (is_due option due good is) have =
    subst (HasAllowed form.options) (sym is) (record {
      values = one_more_allowed form.options given.values _ (have.due option due) good have.values;
      due = λ other same. absurd cc;
    })
still form at text given more (has_value option value none known told new good is) have =
    subst (HasAllowed form.options) (sym is) (record {
      values = one_more_allowed form.options given.values _ known.among good have.values;
      due = λ other same. absurd cc;
    })
still form at text given more (stands first later none told plain_first is) have =
    subst (HasAllowed form.options) (sym is) (record { values = have.values; due = have.due })

-- what all options among these pass, each of them passes
all_among : (test : OptionName → Bool) (options : List OptionName) → list_all test options ≡ true → (option : OptionName)
    → IsAmong option options → test option ≡ true
all_among test [] all option among = absurd cc
all_among test (first ∷ options) all option among =
    let parts = and_parts (test first) (list_all test options) all in
    elim (cases_Bool (same_option first option)) [
      | inl same ↦ ap test (sym (same_true the_type tt first option same)) ∙ parts.0
      | inr differs ↦ all_among test options parts.1 option (rw differs at among)
    ]

-- options of one word are one option, where no two of a form have one word
one_option : (options : List OptionName) → are_apart options ≡ true → (one other : OptionName) → IsAmong one options → IsAmong other options
    → pointwise nat_eq (option_word one) (option_word other) ≡ true → one ≡ other
one_option options distinct one other first second same =
    let row = all_among (λ one. list_all (told_apart one) options) options distinct one first in
    let test = all_among (told_apart one) options row other second in
    elim (cases_Bool (same_option one other)) [
      | inl is ↦ same_true the_type tt one other is
      | inr differs ↦ let bad : (false || not true) ≡ true = rw (differs, same) at test in absurd cc
    ]

-- the value that is found for an option is one that it may have
pub value_allowed : (options : List OptionName) → are_apart options ≡ true → (option : OptionName) → IsAmong option options
    → (values : List OptionValue) (text : List ℕ) → AreAllowed options values → value_among (option_word option) values ≡ Some text
    → is_allowed (option_entry option).allowed text ≡ true
unfolding AreAllowed
value_allowed options distinct option among [] text allowed found = absurd cc
value_allowed options distinct option among (value ∷ values) text allowed found =
    elim (cases_Bool (pointwise nat_eq (option_word value.option) (option_word option))) [
      | inl same ↦
          let is : value.option ≡ option = one_option options distinct value.option option allowed.0 among same in
          let first : Some value.text ≡ Some text = rw same at found in
          let text_is : value.text ≡ text = cc in
          subst (λ (t : List ℕ). is_allowed (option_entry option).allowed t ≡ true) text_is
          (subst (λ (o : OptionName). is_allowed (option_entry o).allowed value.text ≡ true) is allowed.1)
      | inr other ↦ value_allowed options distinct option among values text allowed.2 (rw other at found)
    ]

-- the option was given this value, among others
pub data HasValue (option : OptionName) (text : List ℕ) : List OptionValue → Type 0 where
  this_value : (value : OptionValue) (values : List OptionValue) → value.option ≡ option → value.text ≡ text
      → HasValue option text (value ∷ values)
  later_value : (value : OptionValue) {values : List OptionValue} → HasValue option text values → HasValue option text (value ∷ values)

-- the value that is found for an option was given to it
pub value_given_to : (options : List OptionName) → are_apart options ≡ true → (option : OptionName) → IsAmong option options
    → (values : List OptionValue) (text : List ℕ) → AreAllowed options values → value_among (option_word option) values ≡ Some text
    → HasValue option text values
unfolding AreAllowed
value_given_to options distinct option among [] text allowed found = absurd cc
value_given_to options distinct option among (value ∷ values) text allowed found =
    elim (cases_Bool (pointwise nat_eq (option_word value.option) (option_word option))) [
      | inl same ↦
          let first : Some value.text ≡ Some text = rw same at found in
          this_value value values (one_option options distinct value.option option allowed.0 among same) (cc)
      | inr other ↦ later_value value (value_given_to options distinct option among values text allowed.2 (rw other at found))
    ]

module _ (form : WordsForm) (named : list_all has_name form.options ≡ true) (words : List (List ℕ)) (place : ℕ) (given end : Given)
    (is : words_taken form place given words ≡ Ok end) where
  follows : (list : List (List ℕ)) (more : Given) → AreItems form.options (said_of more) more.due list end → Follow form.options list end more
  unfolding Follow
  follows list more rest = rest

  -- accepted words are those of items, which give the same
  pub are_items : AreItems form.options (said_of given) given.due words end
  are_items =
      accepted form named end (λ (g : Given) (list : List (List ℕ)). AreItems form.options (said_of g) g.due list end)
      (λ g same none full. subst (λ (o : Option OptionName). AreItems form.options (said_of g) o [] end) (sym none) ([], refl, tt, ap said_of same))
      (λ at text list g more read rest. one_more form.options list end form refl at text g more read (follows list more rest)) words place given is

  -- as many positional words as the form has
  pub all_positional : length end.positional ≡ form.positional
  all_positional =
      accepted form named end (λ (g : Given) (list : List (List ℕ)). length end.positional ≡ form.positional)
      (λ g same none full. ap (λ (e : Given). length e.positional) same ∙ full) (λ at text list g more read rest. rest) words place given is

  -- all values are those that their options may have, and the option that waits for its value is one of the form
  pub values_hold : HasAllowed form.options given → AreAllowed form.options end.values
  values_hold =
      accepted form named end (λ (g : Given) (list : List (List ℕ)). HasAllowed form.options g → AreAllowed form.options end.values)
      (λ g same none full have. subst (λ (e : Given). AreAllowed form.options e.values) (sym same) have.values)
      (λ at text list g more read rest have. rest (still form at text g more read have)) words place given is

-- so all words that are accepted are a command and the words of items
pub words_are : (form : WordsForm) → list_all has_name form.options ≡ true → (words : List (List ℕ)) (given : Given) → GivesWords form words given
    → (command : List ℕ) × (items : List Item) × (words ≡ command ∷ words_of items) × MayFollow form.options nothing_said items
    × (said_of given ≡ all_said nothing_said items)
words_are form named [] given gives = absurd gives
words_are form named (command ∷ later) given gives =
    let are = are_items form named later first_place none_given given gives in
    (command, are.0, ap (λ (words : List (List ℕ)). command ∷ words) are.1, are.2, are.3)
