-- Which words ask for a ladder.
use Rattle.std.proofs.Common.{◌≡◌, ◌==◌, ◌+◌, ℕ, Bool, true, List, [], ◌∷◌, None, Some, Ok, refl, ap, inl, inr, ◌∙◌}
use Rattle.std.specs.Prelude.{codes, if◌then◌else◌}
use Rattle.std.proofs.lemmas.Bool.{cases_Bool}
use Rattle.command_line.specs.Kinds.{Kind, plain, other_kind}
use Rattle.command_line.specs.MakeForm.{make_call, make_form, stages_spelled}
use Rattle.command_line.specs.Reading.{Texts, first_place, kind_taken, none_given, reason_or, texts_judged, then_taken, unless_refused, words_taken}
use Rattle.command_line.specs.Values.{is_plain, is_within, number}
use Rattle.command_line.specs.Words.{make, asked_call}
use Rattle.pd_base.specs.declared.limits.TheConstants.{MOST_STAGES}
use Rattle.command_line.specs.declared.forms.make.TheConstants.{MOST_STAGES_DIGITS}
use Rattle.command_line.specs.declared.refusal.WordsRefusal.TheVariants.{Stages}
use Rattle.command_line.proofs.Numbers.{allowed_is_plain}

-- a plain text is a plain word
plain_is : (text : List ℕ) → is_plain text ≡ true → other_kind text ≡ plain
plain_is [] is = absurd cc
plain_is (first ∷ later) is =
    elim (cases_Bool (first == 45)) [
      | inl same ↦ let bad = rw same at is in absurd cc
      | inr other ↦ rw other refl
    ]

-- what `make` and one word say
abbrev pub said_by : List ℕ → Texts
said_by text = record { positional = text ∷ []; values = λ option. None }

-- `make` and the text of a number from 1 to 1,000 ask for a ladder of so many stages
pub stages_are_asked : (text : List ℕ) → is_within 1 MOST_STAGES (stages_spelled text) ≡ true
    → asked_call (codes "make" ∷ text ∷ []) ≡ Ok (make (make_call (said_by text)))
stages_are_asked text within =
    ap (λ (kind : Kind). then_taken (then_taken (then_taken (then_taken (kind_taken make_form.words first_place text none_given kind)
    (λ more. words_taken make_form.words (first_place + 1) more [])) (texts_judged make_form)) (λ texts. Ok (make_call texts))) (λ call. Ok (make call)))
    (plain_is text (allowed_is_plain (number 1 MOST_STAGES MOST_STAGES_DIGITS) text within))
    ∙ ap (λ (lawful : Bool). then_taken (then_taken (unless_refused (reason_or (if lawful then None else Some Stages) None) (said_by text)) (λ texts. Ok (make_call texts))) (λ call. Ok (make call))) within
