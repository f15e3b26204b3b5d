-- What clap makes of the arguments of a command that knows some options: it finds each by its name, by its word and by its place.
use Rattle.std.proofs.Common.{◌≡◌, ◌&&◌, ◌||◌, ◌+◌, not, ℕ, ◌<◌, Bool, true, false, List, [], ◌∷◌, ◌++◌, Some, cond, codes, get_or, length, take, refl, sym, ap, ◌∙◌, inl, inr, fold}
use Rattle.std.specs.Prelude.{count_by, is_some, map}
use Rattle.std.specs.List.{list_all, list_any}
use Rattle.std.specs.Str.{bytes_eq}
use Rattle.std.proofs.lemmas.Bool.{and_from, cases_Bool}
use Rattle.std.proofs.lemmas.List.{map-append, take_more}
use Rattle.std.proofs.lemmas.Slice.Eq.{bytes_eq-Decides}
use denote.Enum.Bare.{same_true}
use Rattle.clap.specs.Words.{App, Row, Rule, Shape, built, is_simple, with_rule}
use Rattle.clap.specs.Simple.{filled, filled_from, help_rule, is_buildable, is_ready, is_ready_leaf, new_shape, with_index}
use Rattle.clap.specs.Takes.{default_passes, is_given}
use Rattle.clap.specs.Walk.{arg_by_id, arg_by_index, arg_by_long, is_early_multiple, with_default}
use Rattle.command_line.specs.ClapWords.{argument_rule, option_rule, word_rule, words_app}
use Rattle.command_line.specs.Options.{option_entry, option_word, same_option}
use Rattle.command_line.specs.contracts.option_name.OptionName.{the_type}
use Rattle.command_line.specs.declared.option_name.OptionName.{OptionName}
use Rattle.command_line.proofs.Items.{IsAmong, IsKnown}

-- the argument of the positional words
abbrev pub positional_rule : Rule
positional_rule = with_index 1 (filled word_rule)

-- the argument of an option with this name
abbrev pub known_rule : List ℕ → Rule
known_rule name = filled (argument_rule (45 ∷ 45 ∷ name) name)

abbrev pub rule_of : OptionName → Rule
rule_of option = known_rule (option_entry option).name

-- those of the options, and the one with which clap offers help
abbrev pub later_rules : List OptionName → List Rule
later_rules options = map rule_of options ++ filled help_rule ∷ []

-- all arguments of a command
abbrev pub all_rules : List OptionName → List Rule
all_rules options = positional_rule ∷ later_rules options

filled_options : (place : ℕ) (options : List OptionName)
    → filled_from place (map option_rule options ++ help_rule ∷ []) ≡ later_rules options
filled_options place [] = refl
filled_options place (option ∷ options) = ap (λ (rules : List Rule). rule_of option ∷ rules) (filled_options place options)

-- the command that clap makes of these arguments
abbrev pub shape_with : List Rule → Shape
shape_with rules = record (new_shape (codes "pdfgen")) { rules = rules; is_built = true; disable_help_subcommand = true }

-- clap's command has these arguments
pub shape_is : (options : List OptionName) → (built (words_app options)).top ≡ shape_with (all_rules options)
shape_is options = ap (λ (rules : List Rule). shape_with (positional_rule ∷ rules)) (filled_options 2 options)

-- one option more
more_options : (options : List OptionName) (option : OptionName)
    → with_rule (words_app options) (option_rule option) ≡ words_app (options ++ option ∷ [])
more_options options option =
    ap (λ (rules : List Rule). record (words_app options) { top = record (words_app options).top { rules = word_rule ∷ rules } })
    (sym (map-append option_rule options (option ∷ [])))

-- a command that has the arguments of so many options, and the next
pub next_options : (options : List OptionName) (place : ℕ) (default : OptionName) (app next : App) → place < length options
    → app ≡ words_app (take place options) → next ≡ with_rule app (option_rule (get_or options place default))
    → next ≡ words_app (take (place + 1) options)
next_options options place default app next within so_far is =
    is ∙ ap (λ (a : App). with_rule a (option_rule (get_or options place default))) so_far
    ∙ more_options (take place options) (get_or options place default)
    ∙ ap (λ (list : List OptionName). words_app list) (sym (take_more options place default within))

-- Of these arguments each is found, none is required or has a default, and clap's command is a simple one.
pub record AreRules (options : List OptionName) (rules : List Rule) : Type 0 where
  pub by_place : arg_by_index rules 1 ≡ Some positional_rule
  pub by_id : arg_by_id rules (codes "positional") ≡ Some positional_rule
  pub by_name : (option : OptionName) → IsKnown options option → arg_by_long rules (option_entry option).name ≡ Some (rule_of option)
  pub by_word : (option : OptionName) → IsKnown options option → arg_by_id rules (option_word option) ≡ Some (rule_of option)
  pub no_defaults : (rows : List Row) → fold with_default rows rules ≡ rows
  pub defaults_pass : list_all default_passes rules ≡ true
  pub free : list_all (λ rule. rule.is_free) rules ≡ true
  pub none_required : (rows : List Row) → list_all (λ rule. not rule.required || is_given rule.id rows) rules ≡ true

or_true : (b : Bool) → (b || true) ≡ true
or_true true = refl
or_true false = refl

-- the name is that of one of these options
abbrev IsNameAmong : List ℕ → List OptionName → Type 0
IsNameAmong name options = list_any (λ other. bytes_eq (option_entry other).name name) options ≡ true

name_among : (option : OptionName) (options : List OptionName) → IsAmong option options → IsNameAmong (option_entry option).name options
name_among option [] among = absurd cc
name_among option (other ∷ options) among =
    elim (cases_Bool (same_option other option)) [
      | inl same ↦
          let is : (option_entry other).name ≡ (option_entry option).name =
          ap (λ (o : OptionName). (option_entry o).name) (same_true the_type tt other option same) in
          rw ((bytes_eq-Decides (option_entry other).name (option_entry option).name).1 is) refl
      | inr differs ↦
          rw (name_among option options (rw differs at among)) (or_true (bytes_eq (option_entry other).name (option_entry option).name))
    ]

-- the same name, the same argument
same_rule : (option : OptionName) (name : List ℕ) → bytes_eq (option_entry option).name name ≡ true → rule_of option ≡ known_rule name
same_rule option name same = ap known_rule ((bytes_eq-Decides (option_entry option).name name).0 same)

among_later : (option : OptionName) (options : List OptionName) (name : List ℕ) → bytes_eq (option_entry option).name name ≡ false
    → IsNameAmong name (option ∷ options) → IsNameAmong name options
among_later option options name differs among = rw differs at among

named_among : (options : List OptionName) (name : List ℕ) → IsNameAmong name options
    → arg_by_long (later_rules options) name ≡ Some (known_rule name)
named_among [] name among = absurd cc
named_among (option ∷ options) name among =
    elim (cases_Bool (bytes_eq (option_entry option).name name)) [
      | inl same ↦ rw same (ap Some (same_rule option name same))
      | inr differs ↦ rw differs (named_among options name (among_later option options name differs among))
    ]

worded_among : (options : List OptionName) (name : List ℕ) → IsNameAmong name options
    → arg_by_id (later_rules options) (45 ∷ 45 ∷ name) ≡ Some (known_rule name)
worded_among [] name among = absurd cc
worded_among (option ∷ options) name among =
    elim (cases_Bool (bytes_eq (option_entry option).name name)) [
      | inl same ↦ rw same (ap Some (same_rule option name same))
      | inr differs ↦ rw differs (worded_among options name (among_later option options name differs among))
    ]

same_cond : {A : Type 0} (b : Bool) (x : A) → cond b x x ≡ x
same_cond true x = refl
same_cond false x = refl

later_defaults : (options : List OptionName) (rows : List Row) → fold with_default rows (later_rules options) ≡ rows
later_defaults [] rows = simp same_cond refl
later_defaults (option ∷ options) rows = simp same_cond (later_defaults options rows)

later_pass : (options : List OptionName) → list_all default_passes (later_rules options) ≡ true
later_pass [] = refl
later_pass (option ∷ options) = later_pass options

later_free : (options : List OptionName) → list_all (λ rule. rule.is_free) (later_rules options) ≡ true
later_free [] = refl
later_free (option ∷ options) = later_free options

later_optional : (options : List OptionName) (rows : List Row)
    → list_all (λ rule. not rule.required || is_given rule.id rows) (later_rules options) ≡ true
later_optional [] rows = refl
later_optional (option ∷ options) rows = later_optional options rows

pub are_rules : (options : List OptionName) → AreRules options (all_rules options)
are_rules options = record {
  by_place = refl;
  by_id = refl;
  by_name = λ option known. named_among options (option_entry option).name (name_among option options known.among);
  by_word = λ option known. worded_among options (option_entry option).name (name_among option options known.among);
  no_defaults = λ rows. ap (λ (first : List Row). fold with_default first (later_rules options)) (same_cond _ rows) ∙ later_defaults options rows;
  defaults_pass = later_pass options;
  free = later_free options;
  none_required = λ rows. later_optional options rows;
}

simple_given : (options : List OptionName) → list_all (λ rule. rule.is_simple) (map option_rule options) ≡ true
simple_given [] = refl
simple_given (option ∷ options) = simple_given options

simple_later : (options : List OptionName) → list_all (λ rule. rule.is_simple) (later_rules options) ≡ true
simple_later [] = refl
simple_later (option ∷ options) = simple_later options

-- how many arguments have a place, behind the first
none_placed : (options : List OptionName) → fold (λ count rule. count + cond (is_some rule.index) 1 0) 1 (later_rules options) ≡ 1
none_placed [] = refl
none_placed (option ∷ options) = none_placed options

none_early : (count : ℕ) (options : List OptionName) → list_any (is_early_multiple count) (later_rules options) ≡ false
none_early count [] = refl
none_early count (option ∷ options) = none_early count options

ready : (options : List OptionName) → is_ready (shape_with (all_rules options)) ≡ true
ready options =
    let early = none_early (count_by (λ rule. is_some rule.index) (shape_with (all_rules options)).rules) options in
    simp (simple_later options, none_placed options, early) refl

-- clap's command is one of which its clauses give the matches
pub simple_app : (options : List OptionName) → is_simple (words_app options) ≡ true
simple_app options =
    and_from (is_buildable (words_app options))
    (is_ready (built (words_app options)).top && list_all is_ready_leaf (built (words_app options)).subs)
    (simp (simple_given options) refl)
    (and_from (is_ready (built (words_app options)).top) (list_all is_ready_leaf (built (words_app options)).subs)
    (ap is_ready (shape_is options) ∙ ready options) refl)
