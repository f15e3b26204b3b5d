-- clap's walk over one word of a command: any rows so far, any argument that is pending, and any arguments among which it finds those of
-- the words and of the options.
use Rattle.std.proofs.Common.{◌≡◌, ◌≢◌, ◌==◌, ◌&&◌, not, ℕ, Bool, true, false, List, [], ◌∷◌, ◌++◌, Option, Some, None, codes, refl, sym, ap, ◌∙◌}
use Rattle.std.specs.Prelude.{if◌then◌else◌}
use Rattle.std.specs.List.{list_any, after_first}
use Rattle.std.specs.Str.{bytes_eq}
use Rattle.std.proofs.lemmas.Bool.{ne_eqb}
use Rattle.std.proofs.lemmas.List.Folds.{list_any_at}
use Rattle.std.proofs.lemmas.Slice.Eq.{bytes_eq-Decides}
use Rattle.clap.specs.Lexer.{long_of, long_of_rest, name_and_value}
use Rattle.clap.specs.Words.{Row, Rule, Text}
use Rattle.clap.specs.Walk.{Walk, Waiting, idle, option, positional, walked, settled_rows, used, arg_by_id, arg_by_long, has_row}
use Rattle.clap.specs.Takes.{settle_passes, turn_passes}
use Rattle.clap.proofs.CutLemmas.{Lacks, after_first-at, before_first-Lacks, before_first-at, list_any-at}
use Rattle.clap.proofs.OnLiterals.{clap_on_literals}
use Rattle.command_line.specs.Options.{is_option_name}
use Rattle.command_line.specs.declared.option_name.OptionName.{OptionName}
use Rattle.command_line.proofs.Rules.{AreRules, known_rule, shape_with}

abbrev pub Pending : Type 0
Pending = Option (Text × List Text)

-- between two words
abbrev pub at : List Row → Pending → Waiting → Walk
at rows pending waiting = record {
  held = record { rows = rows; pending = pending; skip = 0 };
  waiting = waiting;
  position = 1;
  is_trailing = false;
  stopped = None;
}

and_false : (b : Bool) → (b && false) ≡ false
and_false true = refl
and_false false = refl

same_text : (text : Text) → bytes_eq text text ≡ true
same_text text = (bytes_eq-Decides text text).1 refl

-- the first byte of a name, and the bytes behind it, none of which is an equals sign
pub record IsName (name : List ℕ) : Type 0 where
  pub first : ℕ
  pub later : List ℕ
  pub is : name ≡ first ∷ later
  pub lacks : list_any (λ byte. byte == 61) name ≡ false

not_true : (b : Bool) → not b ≡ true → b ≡ false
not_true true is = sym is
not_true false is = refl

pub name_is : (name : List ℕ) → is_option_name name ≡ true → IsName name
name_is [] named = absurd cc
name_is (first ∷ later) named = record { first = first; later = later; is = refl; lacks = not_true _ named }

-- no byte of a name is an equals sign
lacking : (name : List ℕ) → list_any (λ byte. byte == 61) name ≡ false → Lacks 61 name
lacking name lacks place within same =
    let found = list_any_at (λ byte. byte == 61) name place 0 within (rw same refl) in
    let bad : true ≡ false = sym found ∙ lacks in absurd cc

module _ (options : List OptionName) (rules : List Rule) (are : AreRules options rules) (rows : List Row) where
  -- ---- a positional word

  module _ (pending : Pending) (first : ℕ) (later : List ℕ) (plain : first ≢ 45) where
    pub word_idle : walked rules [] (at rows pending idle) (first ∷ later)
        ≡ at (settled_rows rules pending rows) (Some (codes "positional", (first ∷ later) ∷ [])) positional
    unfolding clap_on_literals
    word_idle = let e : (first == 45) ≡ false = ne_eqb first 45 plain in simp (e, and_false, are.by_place) refl

    pub word_more : walked rules [] (at rows pending positional) (first ∷ later)
        ≡ at (settled_rows rules pending rows) (Some (codes "positional", (first ∷ later) ∷ [])) positional
    unfolding clap_on_literals
    word_more = let e : (first == 45) ≡ false = ne_eqb first 45 plain in simp (e, and_false, are.by_place) refl

    pub word_passes_idle : settle_passes rules false (at rows pending idle).held ≡ true
        → turn_passes (shape_with rules) [] (at rows pending idle) (first ∷ later) ≡ true
    unfolding clap_on_literals
    word_passes_idle passes = let e : (first == 45) ≡ false = ne_eqb first 45 plain in simp (e, and_false, are.by_place) passes

    pub word_passes_more : settle_passes rules false (at rows pending positional).held ≡ true
        → turn_passes (shape_with rules) [] (at rows pending positional) (first ∷ later) ≡ true
    unfolding clap_on_literals
    word_passes_more passes = let e : (first == 45) ≡ false = ne_eqb first 45 plain in simp (e, and_false, are.by_place) passes

  pub word_settles : (first : ℕ) (later : List ℕ)
      → settle_passes rules false (at rows (Some (codes "positional", (first ∷ later) ∷ [])) positional).held ≡ true
  unfolding clap_on_literals
  word_settles first later = simp are.by_id refl

  -- ---- a word that is an option's, as clap cuts it

  module _ (word name : Text) (goes_on : bytes_eq word (45 ∷ 45 ∷ []) ≡ false) (found : arg_by_long rules name ≡ Some (known_rule name))
      (pending : Pending) where
    module _ (cut : long_of word ≡ Some (name, None)) where
      pub option_idle : walked rules [] (at rows pending idle) word
          ≡ at (settled_rows rules pending rows) (Some (45 ∷ 45 ∷ name, [])) (option (45 ∷ 45 ∷ name))
      unfolding clap_on_literals
      option_idle = simp (goes_on, cut, found) refl

      pub option_more : walked rules [] (at rows pending positional) word
          ≡ at (settled_rows rules pending rows) (Some (45 ∷ 45 ∷ name, [])) (option (45 ∷ 45 ∷ name))
      unfolding clap_on_literals
      option_more = simp (goes_on, cut, found) refl

      pub option_passes_idle : settle_passes rules false (at rows pending idle).held ≡ true
          → turn_passes (shape_with rules) [] (at rows pending idle) word ≡ true
      unfolding clap_on_literals
      option_passes_idle passes = simp (goes_on, cut, found, passes) refl

      pub option_passes_more : settle_passes rules false (at rows pending positional).held ≡ true
          → turn_passes (shape_with rules) [] (at rows pending positional) word ≡ true
      unfolding clap_on_literals
      option_passes_more passes = simp (goes_on, cut, found, passes) refl

    module _ (value : Text) (cut : long_of word ≡ Some (name, Some value)) where
      pub attached_idle : walked rules [] (at rows pending idle) word
          ≡ at (used (known_rule name) (value ∷ []) (settled_rows rules pending rows)) None idle
      unfolding clap_on_literals
      attached_idle = simp (goes_on, cut, found) refl

      pub attached_more : walked rules [] (at rows pending positional) word
          ≡ at (used (known_rule name) (value ∷ []) (settled_rows rules pending rows)) None idle
      unfolding clap_on_literals
      attached_more = simp (goes_on, cut, found) refl

      module _ (absent : has_row (45 ∷ 45 ∷ name) (settled_rows rules pending rows) ≡ false) where
        pub attached_passes_idle : settle_passes rules false (at rows pending idle).held ≡ true
            → turn_passes (shape_with rules) [] (at rows pending idle) word ≡ true
        unfolding clap_on_literals
        attached_passes_idle passes = simp (goes_on, cut, found, passes, absent) refl

        pub attached_passes_more : settle_passes rules false (at rows pending positional).held ≡ true
            → turn_passes (shape_with rules) [] (at rows pending positional) word ≡ true
        unfolding clap_on_literals
        attached_passes_more passes = simp (goes_on, cut, found, passes, absent) refl

  -- ---- the value behind an option's word

  module _ (name : Text) (found : arg_by_id rules (45 ∷ 45 ∷ name) ≡ Some (known_rule name)) (first : ℕ) (later : List ℕ) (plain : first ≢ 45) where
    pub value_comes : walked rules [] (at rows (Some (45 ∷ 45 ∷ name, [])) (option (45 ∷ 45 ∷ name))) (first ∷ later)
        ≡ at rows (Some (45 ∷ 45 ∷ name, (first ∷ later) ∷ [])) idle
    unfolding clap_on_literals
    value_comes = let e : (first == 45) ≡ false = ne_eqb first 45 plain in simp (e, found, same_text name) refl

    pub value_passes : turn_passes (shape_with rules) [] (at rows (Some (45 ∷ 45 ∷ name, [])) (option (45 ∷ 45 ∷ name))) (first ∷ later) ≡ true
    unfolding clap_on_literals
    value_passes = let e : (first == 45) ≡ false = ne_eqb first 45 plain in simp e refl

    pub value_settles : has_row (45 ∷ 45 ∷ name) rows ≡ false
        → settle_passes rules false (at rows (Some (45 ∷ 45 ∷ name, (first ∷ later) ∷ [])) idle).held ≡ true
    unfolding clap_on_literals
    value_settles absent = simp (found, absent) refl

-- ---- how clap cuts an option's words

module _ (name : Text) (named : is_option_name name ≡ true) where
  pub goes_on : (more : List ℕ) → bytes_eq (45 ∷ 45 ∷ (name ++ more)) (45 ∷ 45 ∷ []) ≡ false
  goes_on more = let is = name_is name named in rw is.is refl

  pub cut_alone : long_of (45 ∷ 45 ∷ name) ≡ Some (name, None)
  cut_alone =
      let is = name_is name named in
      let front = before_first-Lacks 61 name (lacking name is.lacks) in
      let rest : long_of_rest name ≡ Some (name_and_value name) = rw is.is refl in
      rest ∙ ap Some (λ i. (front i, if is.lacks i then Some (after_first (λ byte. byte == 61) name) else None))

  pub cut_attached : (value : Text) → long_of (45 ∷ 45 ∷ (name ++ 61 ∷ value)) ≡ Some (name, Some value)
  cut_attached value =
      let is = name_is name named in
      let lacks = lacking name is.lacks in
      let front = before_first-at 61 name value lacks in
      let back = after_first-at 61 name value lacks in
      let there = list_any-at 61 name value in
      let rest : long_of_rest (name ++ 61 ∷ value) ≡ Some (name_and_value (name ++ 61 ∷ value)) = rw is.is refl in
      rest ∙ ap Some (λ i. (front i, if there i then Some (back i) else None))
