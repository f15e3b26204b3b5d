-- The numbers that accepted words of `replay`, of `rfreplay` and of `make` ask for are within their limits.
use Rattle.std.proofs.Common.{◌≡◌, ◌≤◌, ℕ, List, [], Option, Some, None, Ok, get_or, sym, ap, subst, inl, inr}
use Rattle.std.specs.Prelude.{if◌then◌else◌, unwrap_or}
use Rattle.std.proofs.lemmas.Bool.{cases_Bool}
use Rattle.command_line.specs.MakeForm.{HasMakeNumbers, make_call, make_form, stages_reason, stages_spelled}
use Rattle.command_line.specs.ReplayForm.{HasReplayNumbers, replay_call, replay_form}
use Rattle.command_line.specs.RiseFallReplayForm.{HasRiseFallReplayNumbers, rise_fall_replay_call, rise_fall_replay_form}
use Rattle.command_line.specs.Reading.{Texts, accepted_texts}
use Rattle.command_line.specs.Times.{time_reason, time_spelled}
use Rattle.command_line.specs.Values.{is_within}
use Rattle.pd_base.specs.declared.limits.TheConstants.{MOST_STAGES}
use Rattle.command_line.specs.declared.forms.replay.TheConstants.{REPLAY_FILES}
use Rattle.command_line.specs.declared.forms.rise_fall_replay.TheConstants.{RISE_FALL_REPLAY_FILES}
use Rattle.command_line.specs.declared.refusal.WordsRefusal.{WordsRefusal}
use Rattle.command_line.specs.declared.time.TheConstants.{MOST_TIME}
use Rattle.command_line.proofs.Asking.{is_given, no_first}
use Rattle.command_line.proofs.Numbers.{IsNumberWithin, number_within}

-- a number that is not refused
lawful_number : (least greatest : ℕ) (found : Option ℕ) (reason : WordsRefusal) → (if is_within least greatest found then None else Some reason) ≡ None
    → IsNumberWithin least greatest found
lawful_number least greatest found reason none =
    elim (cases_Bool (is_within least greatest found)) [
      | inl within ↦ number_within least greatest found within
      | inr outside ↦ let bad = rw outside at none in absurd cc
    ]

-- the number where one is spelled
number_is : (least greatest : ℕ) (found : Option ℕ) → (is : IsNumberWithin least greatest found) → unwrap_or found 0 ≡ is.value
number_is least greatest found is = ap (λ (number : Option ℕ). unwrap_or number 0) is.spelled

-- a time that is not refused
small_time : (text : List ℕ) → time_reason text ≡ None → unwrap_or (time_spelled text) 0 ≤ MOST_TIME
small_time text none =
    let number = lawful_number 0 MOST_TIME (time_spelled text) _ none in
    subst (λ n. n ≤ MOST_TIME) (sym (number_is 0 MOST_TIME (time_spelled text) number)) number.below

pub replay_numbers : (words : List (List ℕ)) (texts : Texts) → accepted_texts replay_form words ≡ Ok texts → HasReplayNumbers (replay_call texts)
replay_numbers words texts accepted =
    let is = is_given replay_form words texts accepted in
    let text = get_or is.given.positional REPLAY_FILES [] in
    subst (λ (t : Texts). HasReplayNumbers (replay_call t)) is.said
    (record { small_time = small_time text (no_first (time_reason text) _ is.no_reason) })

pub rise_fall_replay_numbers : (words : List (List ℕ)) (texts : Texts) → accepted_texts rise_fall_replay_form words ≡ Ok texts
    → HasRiseFallReplayNumbers (rise_fall_replay_call texts)
rise_fall_replay_numbers words texts accepted =
    let is = is_given rise_fall_replay_form words texts accepted in
    let text = get_or is.given.positional RISE_FALL_REPLAY_FILES [] in
    subst (λ (t : Texts). HasRiseFallReplayNumbers (rise_fall_replay_call t)) is.said
    (record { small_time = small_time text (no_first (time_reason text) _ is.no_reason) })

pub make_numbers : (words : List (List ℕ)) (texts : Texts) → accepted_texts make_form words ≡ Ok texts → HasMakeNumbers (make_call texts)
make_numbers words texts accepted =
    let is = is_given make_form words texts accepted in
    let text = get_or is.given.positional 0 [] in
    let number = lawful_number 1 MOST_STAGES (stages_spelled text) _ (no_first (stages_reason text) _ is.no_reason) in
    subst (λ (t : Texts). HasMakeNumbers (make_call t)) is.said
    (record {
      some_stages = subst (λ n. 1 ≤ n) (sym (number_is 1 MOST_STAGES (stages_spelled text) number)) number.above;
      few_stages = subst (λ n. n ≤ MOST_STAGES) (sym (number_is 1 MOST_STAGES (stages_spelled text) number)) number.below;
    })
