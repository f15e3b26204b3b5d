-- What words ask for that a command of some form is given.
use Rattle.std.proofs.Common.{◌≡◌, ◌-◌, ◌≤◌, ℕ, true, List, [], ◌∷◌, Option, Some, None, Result, Ok, Err, length, take, drop, refl, sym, ap, subst, ◌∙◌, arith}
use Rattle.std.specs.List.{list_all}
use Rattle.std.proofs.lemmas.List.{take_all}
use Rattle.command_line.specs.Commands.{bytes_of_words}
use Rattle.command_line.specs.Options.{has_name}
use Rattle.command_line.specs.Reading.{AreAccepted, Form, Given, GivesWords, Texts, WordsForm, accepted_texts, first_place, none_given, reason_or, texts_given, texts_judged, then_taken, together_reason, unless_refused, words_taken}
use Rattle.command_line.specs.Taken.{IsFaultOf}
use denote.Ref.{Bor}
use Rattle.command_line.proofs.Accepting.{all_positional}
use Rattle.command_line.specs.declared.fault.WordsFault.{WordsFault}
use Rattle.command_line.specs.declared.fault.WordsFault.TheVariants.{Refused, NoMemory}
use Rattle.command_line.specs.declared.refusal.WordsRefusal.{WordsRefusal}

-- the words behind the first
abbrev pub behind_first : List (Bor (List ℕ)) → List (Bor (List ℕ))
behind_first words = take (length words - 1) (drop 1 words)

-- the first word, and those behind it
pub first_and_later : (words : List (Bor (List ℕ))) → 1 ≤ length words
    → (command : List ℕ) × (bytes_of_words words ≡ command ∷ bytes_of_words (behind_first words))
first_and_later [] some = absurd (omega arith)
first_and_later (first ∷ later) some =
    (first.now, ap (λ (rest : List (Bor (List ℕ))). first.now ∷ bytes_of_words rest) (sym (take_all (length (first ∷ later) - 1) later (omega arith))))

-- what the words of a call give
pub gives_words : (form : WordsForm) (words later : List (List ℕ)) (command : List ℕ) (given : Given) → words ≡ command ∷ later
    → words_taken form first_place none_given later ≡ Ok given → GivesWords form words given
gives_words form words later command given are taken = subst (λ (list : List (List ℕ)). GivesWords form list given) (sym are) taken

module _ (form : Form) (words : List (List ℕ)) where
  abbrev taken_by : Result Given WordsRefusal
  taken_by = words_taken form.words first_place none_given words

  -- words that may stand where they do are refused together
  pub texts_refused : (given : Given) (reason : WordsRefusal) → taken_by ≡ Ok given → together_reason form given ≡ Some reason
      → accepted_texts form words ≡ Err reason
  texts_refused given reason taken refused =
      ap (λ (outcome : Result Given WordsRefusal). then_taken outcome (texts_judged form)) taken
      ∙ ap (λ (found : Option WordsRefusal). unless_refused found (texts_given given)) refused

  -- words that may not are refused, too
  pub words_fault : (fault : WordsFault) → IsFaultOf taken_by fault → IsFaultOf (accepted_texts form words) fault
  words_fault (Refused reason) taken = ap (λ (outcome : Result Given WordsRefusal). then_taken outcome (texts_judged form)) taken
  words_fault (NoMemory _) taken = tt

  -- they are accepted
  pub texts_accepted : (accepted : AreAccepted form words) → accepted_texts form words ≡ Ok (texts_given accepted.given)
  texts_accepted accepted =
      ap (λ (outcome : Result Given WordsRefusal). then_taken outcome (texts_judged form)) accepted.taken
      ∙ ap (λ (found : Option WordsRefusal). unless_refused found (texts_given accepted.given)) accepted.no_reason

-- What accepted words gave: the other way round.
pub record IsGiven (form : Form) (words : List (List ℕ)) (texts : Texts) : Type 0 where
  pub given : Given
  pub taken : words_taken form.words first_place none_given words ≡ Ok given
  pub no_reason : together_reason form given ≡ None
  pub said : texts_given given ≡ texts

pub is_given : (form : Form) (words : List (List ℕ)) (texts : Texts) → accepted_texts form words ≡ Ok texts → IsGiven form words texts
is_given form words texts accepted = by_taken (words_taken form.words first_place none_given words) refl accepted
  where
    by_reason : (given : Given) → words_taken form.words first_place none_given words ≡ Ok given → (reason : Option WordsRefusal)
        → together_reason form given ≡ reason → unless_refused reason (texts_given given) ≡ Ok texts → IsGiven form words texts
    by_reason given taken (Some reason) refused is = absurd cc
    by_reason given taken None none is = record { given = given; taken = taken; no_reason = none; said = cc }

    by_taken : (found : Result Given WordsRefusal) → words_taken form.words first_place none_given words ≡ found
        → then_taken found (texts_judged form) ≡ Ok texts → IsGiven form words texts
    by_taken (Err reason) taken is = absurd cc
    by_taken (Ok given) taken is = by_reason given taken (together_reason form given) refl is

-- as many positional words as the form has
pub all_texts_there : (form : Form) → list_all has_name form.words.options ≡ true → (words : List (List ℕ)) (texts : Texts)
    → accepted_texts form words ≡ Ok texts → length texts.positional ≡ form.words.positional
all_texts_there form named words texts accepted =
    let is = is_given form words texts accepted in
    sym (ap (λ (t : Texts). length t.positional) is.said)
    ∙ all_positional form.words named words first_place none_given is.given is.taken

-- no reason, and so no first and no second one
pub no_first : {A : Type 0} (first second : Option A) → reason_or first second ≡ None → first ≡ None
no_first None second none = refl
no_first (Some first) second none = absurd cc

pub no_second : {A : Type 0} (first second : Option A) → reason_or first second ≡ None → second ≡ None
no_second None second none = none
no_second (Some first) second none = absurd cc
