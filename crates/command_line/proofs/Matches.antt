-- clap takes accepted words, and has for each argument what was given.
use Rattle.std.proofs.Common.{◌≡◌, ◌≢◌, ◌&&◌, ℕ, Bool, true, false, List, [], ◌∷◌, ◌++◌, Option, Some, None, is_some, codes, refl, sym, ap, subst, ◌∙◌, inl, inr, fold}
use Rattle.std.specs.Prelude.{nat_eq, option_map, option_and_then, slice_get, unwrap_or, if◌then◌else◌}
use Rattle.std.specs.Cmp.Lexicographic.{pointwise}
use Rattle.std.specs.Str.{bytes_eq}
use Rattle.std.proofs.lemmas.Bool.{cases_Bool}
use Rattle.std.proofs.lemmas.List.{append-nil}
use Rattle.std.proofs.lemmas.Slice.Eq.{bytes_eq-Decides}
use Rattle.clap.specs.Words.{Row, Rule, Shape, Text, is_simple, takes, matches_of, all_of, first_value, matched_of, raw_values, rows_of}
use Rattle.clap.specs.Walk.{Walk, idle, option, positional, nothing_held, rows_after, walk as clap_walk, walked, settled_rows, used, used_by_id, with_values, has_row, finished}
use Rattle.clap.specs.Takes.{entered_passes, level_passes, settle_passes, walk_passes, turn_passes}
use Rattle.clap.specs.Simple.{entered}
use Rattle.clap.specs.declared.builder.value_parser.Reading.{Reading}
use Rattle.clap.specs.declared.parser.matches.ValueSource.{ValueSource}
use Rattle.clap.specs.declared.parser.matches.Found.{Found}
use Rattle.clap.proofs.WalkLemmas.{first_value-rows, raw_values-rows}
use Rattle.command_line.specs.ClapWords.{texts_found, words_app}
use Rattle.command_line.specs.Options.{is_option_name, option_entry, option_word}
use Rattle.command_line.specs.Reading.{Given, OptionValue, texts_given, value_among}
use Rattle.command_line.specs.declared.option_name.OptionName.{OptionName}
use Rattle.command_line.proofs.Accepting.{said_of}
use Rattle.command_line.proofs.Items.{Item, lone, apart, attached, words_of, IsKnown, Said, nothing_said, said_value, said_with, MayCome, MayFollow, all_said}
use Rattle.command_line.proofs.Rows.{other_row, more_row, none_out, has_row-is, first_of-is}
use Rattle.command_line.proofs.Rules.{AreRules, all_rules, are_rules, known_rule, positional_rule, shape_is, shape_with, simple_app}
use Rattle.command_line.proofs.Walks.{Pending, at, attached_idle, attached_more, attached_passes_idle, attached_passes_more, cut_alone, cut_attached, goes_on, option_idle, option_more, option_passes_idle, option_passes_more, value_comes, value_passes, value_settles, word_idle, word_more, word_passes_idle, word_passes_more, word_settles}

-- the rows have what was said, and nothing else: of words that begin with two hyphens, as those of options do, and of positional ones
pub record Has (said : Said) (rows : List Row) : Type 0 where
  pub positional : unwrap_or (all_of (codes "positional") rows) [] ≡ said.positional
  pub values : (name : List ℕ) → all_of (45 ∷ 45 ∷ name) rows ≡ option_map (λ value. value ∷ []) (value_among (45 ∷ 45 ∷ name) said.values)

-- ---- values after one more

other_value : (word : List ℕ) (values : List OptionValue) (value : OptionValue) → pointwise nat_eq (option_word value.option) word ≡ false
    → value_among word (values ++ value ∷ []) ≡ value_among word values
other_value word [] value differs = rw differs refl
other_value word (first ∷ values) value differs =
    ap (λ (rest : Option (List ℕ)). if pointwise nat_eq (option_word first.option) word then Some first.text else rest)
    (other_value word values value differs)

new_value : (word : List ℕ) (values : List OptionValue) (value : OptionValue) → pointwise nat_eq (option_word value.option) word ≡ true
    → value_among word values ≡ None → value_among word (values ++ value ∷ []) ≡ Some value.text
new_value word [] value same none = rw same refl
new_value word (first ∷ values) value same none =
    elim (cases_Bool (pointwise nat_eq (option_word first.option) word)) [
      | inl is ↦ let bad = rw is at none in absurd cc
      | inr differs ↦ rw differs (new_value word values value same (rw differs at none))
    ]

-- ---- rows after one use of each argument

uses_word : (said : Said) (first : ℕ) (later : List ℕ) (rows : List Row) → Has said rows
    → Has (said_with said (lone first later)) (used positional_rule ((first ∷ later) ∷ []) rows)
uses_word said first later rows has = record {
  positional = ap (λ (vs : Option (List Text)). unwrap_or vs []) (more_row (codes "positional") _ _ ((first ∷ later) ∷ []) rows)
      ∙ ap (λ vs. vs ++ (first ∷ later) ∷ []) has.positional;
  values = λ name. ap (λ (row : Option Row). option_map (λ r. r.values) row)
      (other_row (codes "positional") _ _ ((first ∷ later) ∷ []) (45 ∷ 45 ∷ name) rows refl) ∙ has.values name;
}

-- what the rows have for an option, once one that was not given before has a value
option_row : (key : OptionName) (said : Said) (value : List ℕ) (rows : List Row) (how : Reading) (source : ValueSource) → Has said rows
    → value_among (option_word key) said.values ≡ None → (name : List ℕ)
    → all_of (45 ∷ 45 ∷ name) (with_values (option_word key) how source (value ∷ []) rows)
    ≡ option_map (λ value. value ∷ []) (value_among (45 ∷ 45 ∷ name) (said_value key value said).values)
option_row key said value rows how source has none name =
    let absent : all_of (option_word key) rows ≡ None =
    has.values (option_entry key).name ∙ ap (λ (o : Option (List ℕ)). option_map (λ v. v ∷ []) o) none in
    let new : OptionValue = record { option = key; text = value } in
    elim (cases_Bool (bytes_eq (option_entry key).name name)) [
      | inl same ↦
          let is : (option_entry key).name ≡ name = (bytes_eq-Decides (option_entry key).name name).0 same in
          subst (λ (n : List ℕ). all_of (45 ∷ 45 ∷ n) (with_values (option_word key) how source (value ∷ []) rows)
          ≡ option_map (λ v. v ∷ []) (value_among (45 ∷ 45 ∷ n) (said.values ++ new ∷ []))) is
          (more_row (option_word key) how source (value ∷ []) rows
          ∙ ap (λ (vs : Option (List Text)). Some (unwrap_or vs [] ++ value ∷ [])) absent
          ∙ sym (ap (λ (o : Option (List ℕ)). option_map (λ v. v ∷ []) o)
          (new_value (option_word key) said.values new ((bytes_eq-Decides (option_word key) (option_word key)).1 refl) none)))
      | inr differs ↦
          ap (λ (row : Option Row). option_map (λ r. r.values) row)
          (other_row (option_word key) how source (value ∷ []) (45 ∷ 45 ∷ name) rows differs)
          ∙ has.values name
          ∙ sym (ap (λ (o : Option (List ℕ)). option_map (λ v. v ∷ []) o) (other_value (45 ∷ 45 ∷ name) said.values new differs))
    ]

uses_option : (key : OptionName) (said : Said) (value : List ℕ) (rows : List Row) → Has said rows
    → value_among (option_word key) said.values ≡ None
    → Has (said_value key value said) (used (known_rule (option_entry key).name) (value ∷ []) rows)
uses_option key said value rows has none =
    let absent : all_of (option_word key) rows ≡ None =
    has.values (option_entry key).name ∙ ap (λ (o : Option (List ℕ)). option_map (λ v. v ∷ []) o) none in
    rw (none_out (option_word key) rows absent)
    record {
      positional = ap (λ (row : Option Row). unwrap_or (option_map (λ r. r.values) row) [])
          (other_row (option_word key) _ _ (value ∷ []) (codes "positional") rows refl) ∙ has.positional;
      values = option_row key said value rows _ _ has none;
    }

both_true : (a b : Bool) → a ≡ true → b ≡ true → (a && b) ≡ true
both_true a b first second = rw (first, second) refl

-- the words of items, by the first
words_split : (item : Item) (items : List Item) → words_of (item ∷ []) ++ words_of items ≡ words_of (item ∷ items)
words_split (lone first later) items = refl
words_split (apart key first later) items = refl
words_split (attached key value) items = refl

goes_on_alone : (name : List ℕ) → is_option_name name ≡ true → bytes_eq (45 ∷ 45 ∷ name) (45 ∷ 45 ∷ []) ≡ false
goes_on_alone name named = ap (λ (text : List ℕ). bytes_eq (45 ∷ 45 ∷ text) (45 ∷ 45 ∷ [])) (sym (append-nil name)) ∙ goes_on name named []

module _ (options : List OptionName) (rules : List Rule) (are : AreRules options rules) where
  -- the walk stands between two items
  pub data Stands (said : Said) : Walk → Type 0 where
    at_idle : (rows : List Row) (pending : Pending) → Has said (settled_rows rules pending rows)
        → settle_passes rules false (at rows pending idle).held ≡ true → Stands said (at rows pending idle)
    at_word : (rows : List Row) (pending : Pending) → Has said (settled_rows rules pending rows)
        → settle_passes rules false (at rows pending positional).held ≡ true → Stands said (at rows pending positional)

  -- an option that was not given has no row
  no_row : (key : OptionName) (said : Said) (rows : List Row) → Has said rows → value_among (option_word key) said.values ≡ None
      → has_row (option_word key) rows ≡ false
  no_row key said rows has none =
      has_row-is (option_word key) rows
      ∙ ap (λ (o : Option (List Text)). is_some o)
      (has.values (option_entry key).name ∙ ap (λ (o : Option (List ℕ)). option_map (λ v. v ∷ []) o) none)

  abbrev pub Ends : Said → Walk → List Text → Type 0
  Ends said walk words = Stands said (fold (walked rules []) walk words) × (walk_passes (shape_with rules) [] walk words ≡ true)

  one_word : (said : Said) (walk after : Walk) (word : Text) (words : List Text) → walked rules [] walk word ≡ after
      → turn_passes (shape_with rules) [] walk word ≡ true → Ends said after words → Ends said walk (word ∷ words)
  unfolding walk_passes
  one_word said walk after word words step passes ends = (
    subst (λ (w : Walk). Stands said (fold (walked rules []) w words)) (sym step) ends.0,
    both_true (turn_passes (shape_with rules) [] walk word) (walk_passes (shape_with rules) [] (walked rules [] walk word) words) passes
        (subst (λ (w : Walk). walk_passes (shape_with rules) [] w words ≡ true) (sym step) ends.1),
  )

  no_words : (said : Said) (walk : Walk) → Stands said walk → Ends said walk []
  unfolding walk_passes
  no_words said walk stands = (stands, refl)

  -- behind a positional word
  word_stands : (said : Said) (rows : List Row) (first : ℕ) (later : List ℕ) → Has said rows
      → Stands (said_with said (lone first later)) (at rows (Some (codes "positional", (first ∷ later) ∷ [])) positional)
  word_stands said rows first later has =
      at_word rows (Some (codes "positional", (first ∷ later) ∷ []))
      (subst (λ (rule : Option Rule). Has (said_with said (lone first later)) (used_by_id rule ((first ∷ later) ∷ []) rows)) (sym are.by_id)
      (uses_word said first later rows has))
      (word_settles options rules are rows first later)

  module _ (key : OptionName) (known : IsKnown options key) (said : Said) (rows : List Row) (has : Has said rows)
      (none : value_among (option_word key) said.values ≡ None) where
    -- behind an option's value that stands apart
    value_stands : (first : ℕ) (later : List ℕ) → first ≢ 45
        → Stands (said_value key (first ∷ later) said) (at rows (Some (option_word key, (first ∷ later) ∷ [])) idle)
    value_stands first later plain =
        at_idle rows (Some (option_word key, (first ∷ later) ∷ []))
        (subst (λ (rule : Option Rule). Has (said_value key (first ∷ later) said) (used_by_id rule ((first ∷ later) ∷ []) rows))
        (sym (are.by_word key known)) (uses_option key said (first ∷ later) rows has none))
        (value_settles options rules are rows (option_entry key).name (are.by_word key known) first later plain (no_row key said rows has none))

    -- an option's word and its value behind it
    value_ends : (first : ℕ) (later : List ℕ) (end : Said) (words : List Text) → first ≢ 45
        → Ends end (at rows (Some (option_word key, (first ∷ later) ∷ [])) idle) words
        → Ends end (at rows (Some (option_word key, [])) (option (option_word key))) ((first ∷ later) ∷ words)
    value_ends first later end words plain ends =
        one_word end _ _ _ words
        (value_comes options rules are rows (option_entry key).name (are.by_word key known) first later plain)
        (value_passes options rules are rows (option_entry key).name (are.by_word key known) first later plain) ends

  -- behind the words of an item
  item_ends : (said end : Said) (item : Item) (words : List Text) (walk : Walk) → Stands said walk → MayCome options said item
      → ((next : Walk) → Stands (said_with said item) next → Ends end next words) → Ends end walk (words_of (item ∷ []) ++ words)
  item_ends said end (lone first later) words _ (at_idle rows pending has passes) plain behind =
      one_word end _ _ _ words (word_idle options rules are rows pending first later plain)
      (word_passes_idle options rules are rows pending first later plain passes)
      (behind _ (word_stands said (settled_rows rules pending rows) first later has))
  item_ends said end (lone first later) words _ (at_word rows pending has passes) plain behind =
      one_word end _ _ _ words (word_more options rules are rows pending first later plain)
      (word_passes_more options rules are rows pending first later plain passes)
      (behind _ (word_stands said (settled_rows rules pending rows) first later has))
  item_ends said end (apart key first later) words _ (at_idle rows pending has passes) may behind =
      let cut = cut_alone (option_entry key).name may.0.named in
      let found = are.by_name key may.0 in
      one_word end _ _ _ ((first ∷ later) ∷ words)
      (option_idle options rules are rows (option_word key) (option_entry key).name (goes_on_alone (option_entry key).name may.0.named) found pending cut)
      (option_passes_idle options rules are rows (option_word key) (option_entry key).name (goes_on_alone (option_entry key).name may.0.named) found pending cut passes)
      (value_ends key may.0 said (settled_rows rules pending rows) has may.2 first later end words may.1
      (behind _ (value_stands key may.0 said (settled_rows rules pending rows) has may.2 first later may.1)))
  item_ends said end (apart key first later) words _ (at_word rows pending has passes) may behind =
      let cut = cut_alone (option_entry key).name may.0.named in
      let found = are.by_name key may.0 in
      one_word end _ _ _ ((first ∷ later) ∷ words)
      (option_more options rules are rows (option_word key) (option_entry key).name (goes_on_alone (option_entry key).name may.0.named) found pending cut)
      (option_passes_more options rules are rows (option_word key) (option_entry key).name (goes_on_alone (option_entry key).name may.0.named) found pending cut passes)
      (value_ends key may.0 said (settled_rows rules pending rows) has may.2 first later end words may.1
      (behind _ (value_stands key may.0 said (settled_rows rules pending rows) has may.2 first later may.1)))
  item_ends said end (attached key value) words _ (at_idle rows pending has passes) may behind =
      let cut = cut_attached (option_entry key).name may.0.named value in
      let found = are.by_name key may.0 in
      let goes = goes_on (option_entry key).name may.0.named (61 ∷ value) in
      let absent = no_row key said (settled_rows rules pending rows) has may.1 in
      one_word end _ _ _ words
      (attached_idle options rules are rows (option_word key ++ 61 ∷ value) (option_entry key).name goes found pending value cut)
      (attached_passes_idle options rules are rows (option_word key ++ 61 ∷ value) (option_entry key).name goes found pending value cut absent passes)
      (behind _ (at_idle _ None (uses_option key said value _ has may.1) refl))
  item_ends said end (attached key value) words _ (at_word rows pending has passes) may behind =
      let cut = cut_attached (option_entry key).name may.0.named value in
      let found = are.by_name key may.0 in
      let goes = goes_on (option_entry key).name may.0.named (61 ∷ value) in
      let absent = no_row key said (settled_rows rules pending rows) has may.1 in
      one_word end _ _ _ words
      (attached_more options rules are rows (option_word key ++ 61 ∷ value) (option_entry key).name goes found pending value cut)
      (attached_passes_more options rules are rows (option_word key ++ 61 ∷ value) (option_entry key).name goes found pending value cut absent passes)
      (behind _ (at_idle _ None (uses_option key said value _ has may.1) refl))

  pub all_words : (said : Said) (items : List Item) (walk : Walk) → Stands said walk → MayFollow options said items
      → Ends (all_said said items) walk (words_of items)
  all_words said [] walk stands may = no_words said walk stands
  all_words said (item ∷ items) walk stands may =
      subst (Ends (all_said (said_with said item) items) walk) (words_split item items)
      (item_ends said (all_said (said_with said item) items) item (words_of items) walk stands may.0
      (λ next there. all_words (said_with said item) items next there may.1))

  -- ---- the whole parse

  begins : Stands nothing_said (at [] None idle)
  begins = at_idle [] None (record { positional = refl; values = λ name. refl }) refl

  finished_at : (said : Said) (walk : Walk) → Stands said walk → Has said (finished rules walk.held)
  finished_at said _ (at_idle rows pending has passes) = subst (Has said) (sym (are.no_defaults (settled_rows rules pending rows))) has
  finished_at said _ (at_word rows pending has passes) = subst (Has said) (sym (are.no_defaults (settled_rows rules pending rows))) has

  -- the walk over all words of items
  abbrev pub walk_of : List Item → Walk
  walk_of items = fold (walked rules []) (at [] None idle) (words_of items)

  pub has_rows : (items : List Item) → MayFollow options nothing_said items → Has (all_said nothing_said items) (finished rules (walk_of items).held)
  has_rows items may = finished_at _ _ (all_words nothing_said items (at [] None idle) begins may).0

  settles : (said : Said) (walk : Walk) → Stands said walk → settle_passes rules false walk.held ≡ true
  settles said _ (at_idle rows pending has passes) = passes
  settles said _ (at_word rows pending has passes) = passes

  not_stopped : (said : Said) (walk : Walk) → Stands said walk → walk.stopped ≡ None
  not_stopped said _ (at_idle rows pending has passes) = refl
  not_stopped said _ (at_word rows pending has passes) = refl

  -- the words pass at clap's only level
  pub passes_all : (items : List Item) → MayFollow options nothing_said items → level_passes (shape_with rules) [] nothing_held (words_of items) false ≡ true
  passes_all items may =
      let ends = all_words nothing_said items (at [] None idle) begins may in
      both_true _ _ ends.1
      (both_true _ _ (settles _ _ ends.0)
      (both_true _ _ are.defaults_pass
      (rw (are.free, are.none_required (finished rules (walk_of items).held)) refl)))

  pub stops_nowhere : (items : List Item) → MayFollow options nothing_said items → (walk_of items).stopped ≡ None
  stops_nowhere items may = not_stopped _ _ (all_words nothing_said items (at [] None idle) begins may).0

module _ (options : List OptionName) (command : Text) (items : List Item) (may : MayFollow options nothing_said items) where
  pub has_matches : Has (all_said nothing_said items) (matches_of (words_app options) (command ∷ words_of items))
  has_matches =
      subst (λ (shape : Shape). Has (all_said nothing_said items) (rows_after shape.rules [] (words_of items))) (sym (shape_is options))
      (has_rows options (all_rules options) (are_rules options) items may)

  taken_by : Shape → Bool
  taken_by shape =
      let stop = (clap_walk shape.rules [] nothing_held (words_of items)).stopped in
      entered_passes (record { top = shape; subs = [] }) stop
      && level_passes shape [] nothing_held (words_of items) (is_some (entered (record { top = shape; subs = [] }) stop))

  taken_here : taken_by (shape_with (all_rules options)) ≡ true
  unfolding taken_by
  taken_here =
      rw (stops_nowhere options (all_rules options) (are_rules options) items may)
      (passes_all options (all_rules options) (are_rules options) items may)

  pub is_taken : takes (words_app options) (command ∷ words_of items) ≡ true
  unfolding taken_by
  is_taken =
      both_true (is_simple (words_app options)) _ (simple_app options)
      (subst (λ (shape : Shape). taken_by shape ≡ true) (sym (shape_is options)) taken_here)

first_value_of : (o : Option (List ℕ)) → option_and_then (λ vs. slice_get vs 0) (option_map (λ value. value ∷ []) o) ≡ o
first_value_of None = refl
first_value_of (Some value) = refl

-- what was found of accepted words is what they gave
pub texts_found_are : (found : Found) (said : Said) (given : Given) → Has said (rows_of found) → said_of given ≡ said
    → texts_found found ≡ texts_given given
texts_found_are found said given has same = λ i. record { positional = words i; values = λ key. values key i }
  where
    words : unwrap_or (option_map raw_values (matched_of found (codes "positional"))) [] ≡ given.positional
    words =
        ap (λ (texts : Option (List (List ℕ))). unwrap_or texts []) (raw_values-rows found (codes "positional"))
        ∙ has.positional ∙ sym (ap (λ (s : Said). s.positional) same)

    values : (key : OptionName) → first_value found (option_word key) ≡ value_among (option_word key) given.values
    values key =
        first_value-rows found (option_word key) ∙ first_of-is (option_word key) (rows_of found)
        ∙ ap (option_and_then (λ (vs : List Text). slice_get vs 0)) (has.values (option_entry key).name)
        ∙ first_value_of (value_among (option_word key) said.values)
        ∙ sym (ap (λ (s : Said). value_among (option_word key) s.values) same)
