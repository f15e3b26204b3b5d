-- How the words behind a command's own are read: from the left, and the first that may not stand where it does decides; then what is asked
-- of them together (this project's own). It serves every form of a command. Kinds of words stand in Kinds.antt, options in Options.antt.
use Rattle.std.specs.Prelude.{◌≡◌, ◌==◌, ℕ, ◌+◌, Bool, List, [], ◌∷◌, ◌++◌, length, Option, None, Some, is_some, option_map, Result, Ok, Err, nat_eq, nat_lt, if◌then◌else◌}
use Rattle.std.specs.Cmp.Lexicographic.{pointwise}
use Rattle.command_line.specs.Kinds.{Kind, alone, valued, hyphened, empty, plain, word_kind}
use Rattle.command_line.specs.Options.{option_entry, option_word}
use Rattle.command_line.specs.Values.{is_allowed, is_file_name}
use Rattle.command_line.specs.declared.option_name.OptionName.{OptionName}
use Rattle.command_line.specs.declared.refusal.WordsRefusal.{WordsRefusal}
use Rattle.command_line.specs.declared.refusal.WordsRefusal.TheVariants.{Repeat, Value, OptionAt, EmptyAt, Count, SameAt}

-- a word that stands for the name of a file, and its place; the command stands at place 1
pub record PlacedWord : Type 0 where
  pub place : ℕ
  pub text : List ℕ

-- the value that an option was given
pub record OptionValue : Type 0 where
  pub option : OptionName
  pub text : List ℕ

-- What words gave so far: the positional ones, in order; the values of options, in order; the names of files among both, in order; and
-- the option whose value is the next word.
pub record Given : Type 0 where
  pub positional : List (List ℕ)
  pub values : List OptionValue
  pub names : List PlacedWord
  pub due : Option OptionName

-- nothing was given yet
abbrev pub none_given : Given
none_given = record { positional = []; values = []; names = []; due = None }

-- What may stand behind a command's own word: the options that it knows, and how many positional words, of which so many in front are
-- names of files.
pub record WordsForm : Type 0 where
  pub options : List OptionName
  pub positional : ℕ
  pub files : ℕ

-- the value of the option with this word among these
abbrev pub value_among : List ℕ → List OptionValue → Option (List ℕ)
value_among word [] = None
value_among word (value ∷ values) = if pointwise nat_eq (option_word value.option) word then Some value.text else value_among word values

-- the value that an option was given
abbrev pub value_given : OptionName → Given → Option (List ℕ)
value_given option given = value_among (option_word option) given.values

-- a text more among the names of files, if it is one
abbrev pub names_with : Bool → ℕ → List ℕ → List PlacedWord → List PlacedWord
names_with is_name place text names = if is_name then names ++ record { place = place; text = text } ∷ [] else names

-- a text is added to the names of files, if it is one
abbrev pub name_added : Bool → ℕ → List ℕ → Given → Given
name_added is_name place text given = record given { names = names_with is_name place text given.names }

-- an option is given its value, which the word at this place has
abbrev pub with_value : OptionName → ℕ → List ℕ → Given → Given
with_value option place value given =
    name_added (is_file_name (option_entry option).allowed) place value
    (record given { values = given.values ++ record { option = option; text = value } ∷ []; due = None })

-- the value of an option
abbrev pub value_taken : OptionName → ℕ → List ℕ → Given → Result Given WordsRefusal
value_taken option place value given =
    if is_allowed (option_entry option).allowed value then Ok (with_value option place value given) else Err (Value option)

-- an option with its value
abbrev pub option_taken : OptionName → ℕ → List ℕ → Given → Result Given WordsRefusal
option_taken option place value given =
    if is_some (value_given option given) then Err (Repeat option) else value_taken option place value given

-- an option whose value is the next word
abbrev pub option_due : OptionName → Given → Result Given WordsRefusal
option_due option given =
    if is_some (value_given option given) then Err (Repeat option) else Ok (record given { due = Some option })

-- one positional word more
abbrev pub with_positional : WordsForm → ℕ → List ℕ → Given → Given
with_positional form place word given =
    name_added (nat_lt (length given.positional) form.files) place word (record given { positional = given.positional ++ word ∷ [] })

-- a positional word, at this place
abbrev pub positional_taken : WordsForm → ℕ → List ℕ → Given → Result Given WordsRefusal
positional_taken form place word given =
    if length given.positional == form.positional then Err Count else Ok (with_positional form place word given)

-- a word of this kind, at this place
abbrev pub kind_taken : WordsForm → ℕ → List ℕ → Given → Kind → Result Given WordsRefusal
kind_taken form place word given (alone option) = option_due option given
kind_taken form place word given (valued option value) = option_taken option place value given
kind_taken form place word given hyphened = Err (OptionAt place)
kind_taken form place word given empty = Err (EmptyAt place)
kind_taken form place word given plain = positional_taken form place word given

-- a word at this place, where the value of an option is due or none
abbrev pub due_taken : WordsForm → ℕ → List ℕ → Given → Option OptionName → Result Given WordsRefusal
due_taken form place word given None = kind_taken form place word given (word_kind form.options word)
due_taken form place word given (Some option) = value_taken option place word given

-- a word at this place
abbrev pub word_taken : WordsForm → ℕ → List ℕ → Given → Result Given WordsRefusal
word_taken form place word given = due_taken form place word given given.due

-- why a command may not end here, where the value of an option is due or none
abbrev pub end_reason : WordsForm → Given → Option OptionName → Option WordsRefusal
end_reason form given None = if length given.positional == form.positional then None else Some Count
end_reason form given (Some option) = Some (Value option)

-- why a word is missing behind all words
abbrev pub missing_reason : WordsForm → Given → Option WordsRefusal
missing_reason form given = end_reason form given given.due

-- the reason if there is one, and else this
abbrev pub unless_refused : {A : Type 0} → Option WordsRefusal → A → Result A WordsRefusal
unless_refused None asked = Ok asked
unless_refused (Some reason) asked = Err reason

-- the reason if there is one, and else what follows
abbrev pub then_taken : {A B : Type 0} → Result A WordsRefusal → (A → Result B WordsRefusal) → Result B WordsRefusal
then_taken (Ok given) next = next given
then_taken (Err reason) next = Err reason

-- the words of a command from this place on, behind what was given
abbrev pub words_taken : WordsForm → ℕ → Given → List (List ℕ) → Result Given WordsRefusal
words_taken form place given [] = unless_refused (missing_reason form given) given
words_taken form place given (word ∷ words) =
    then_taken (word_taken form place word given) (λ more. words_taken form (place + 1) more words)

-- the place of the first word behind a command's own
abbrev pub first_place : ℕ
first_place = 2

-- what a command of this form is given by all words, its own in front, if they may stand where they do
abbrev pub GivesWords : WordsForm → List (List ℕ) → Given → Type 0
GivesWords form [] given = ⊥
GivesWords form (command ∷ words) given = words_taken form first_place none_given words ≡ Ok given

-- the first reason, or else the second
abbrev pub reason_or : {A : Type 0} → Option A → Option A → Option A
reason_or None second = second
reason_or (Some first) second = Some first

-- the place of the first of these names that is this text
abbrev pub place_of : List ℕ → List PlacedWord → Option ℕ
place_of text [] = None
place_of text (word ∷ words) = if pointwise nat_eq text word.text then Some word.place else place_of text words

-- the first two equal names, by the place of the first and then of the second
abbrev pub first_same : List PlacedWord → Option WordsRefusal
first_same [] = None
first_same (name ∷ names) = reason_or (option_map (λ later. SameAt name.place later) (place_of name.text names)) (first_same names)

-- What accepted words say: the positional ones, in order, and the value that each option was given, if it was.
pub record Texts : Type 0 where
  pub positional : List (List ℕ)
  pub values : OptionName → Option (List ℕ)

-- what these words say
abbrev pub texts_given : Given → Texts
texts_given given = record { positional = given.positional; values = λ option. value_given option given }

-- the value of an option, or its default where it was given none
abbrev pub value_asked : OptionName → Texts → Option (List ℕ)
value_asked option texts = reason_or (texts.values option) (option_entry option).default

-- The form of a command: what may stand behind its own word, and what is asked of all words together, before and after the names of files
-- are compared.
pub record Form : Type 0 where
  pub words : WordsForm
  pub before_names : Texts → Option WordsRefusal
  pub after_names : Texts → Option WordsRefusal

-- why words that may stand where they do are refused together
abbrev pub together_reason : Form → Given → Option WordsRefusal
together_reason form given =
    reason_or (form.before_names (texts_given given)) (reason_or (first_same given.names) (form.after_names (texts_given given)))

-- what words say that gave this, or why they are refused
abbrev pub texts_judged : Form → Given → Result Texts WordsRefusal
texts_judged form given = unless_refused (together_reason form given) (texts_given given)

-- what the words behind a command's own say, or why they are refused
abbrev pub accepted_texts : Form → List (List ℕ) → Result Texts WordsRefusal
accepted_texts form words = then_taken (words_taken form.words first_place none_given words) (texts_judged form)

-- a call made of what the words behind a command's own say, or why they are refused
abbrev pub asked_by : {A : Type 0} → Form → (Texts → A) → List (List ℕ) → Result A WordsRefusal
asked_by form call words = then_taken (accepted_texts form words) (λ texts. Ok (call texts))

-- the words behind a command's own are accepted, and give this
pub record AreAccepted (form : Form) (words : List (List ℕ)) : Type 0 where
  pub given : Given
  pub taken : words_taken form.words first_place none_given words ≡ Ok given
  pub no_reason : together_reason form given ≡ None
