-- Words that ask for gen ask for check, with `check` in place of `gen`: for the same call, whose numbers are lawful and whose names differ.
use Rattle.std.proofs.Common.{◌≡◌, ◌⊎◌, ⊎_elim, inl, inr, ℕ, List, ◌∷◌, Result, Ok, Err, codes, refl, sym, ap, ◌∙◌}
use Rattle.command_line.specs.declared.refusal.WordsRefusal.{WordsRefusal}
use Rattle.command_line.specs.RunForm.{run_call, run_form}
use Rattle.command_line.specs.Reading.{Texts, accepted_texts, then_taken}
use Rattle.command_line.specs.Words.{asked_call, check, gen, Call, HasRunNumbers, RunCall}
use Rattle.command_line.proofs.RunNumbers.{run_numbers}
use Rattle.commands.specs.LaterCalls.{HasNamesApart}
use Rattle.commands.proofs.AskedNames.{names_differ}

-- what words ask for that say this, by the command
abbrev outcome_by : (RunCall → Call) → Result Texts WordsRefusal → Result Call WordsRefusal
outcome_by command said = then_taken (then_taken said (λ texts. Ok (run_call texts))) (λ call. Ok (command call))

-- the words with gen's own word in front ask for a call of gen, and those with check's own for the same call of check
pub record AskForRun (words : List (List ℕ)) : Type 0 where
  pub call : RunCall
  pub by_gen : asked_call (codes "gen" ∷ words) ≡ Ok (gen call)
  pub by_check : asked_call (codes "check" ∷ words) ≡ Ok (check call)
  pub numbers : HasRunNumbers call
  pub names : HasNamesApart call

-- or they are refused
abbrev pub AreRefusedByGen : List (List ℕ) → Type 0
AreRefusedByGen words = (reason : WordsRefusal) × (asked_call (codes "gen" ∷ words) ≡ Err reason)

module _ (words : List (List ℕ)) where
  by_gen_is : asked_call (codes "gen" ∷ words) ≡ outcome_by gen (accepted_texts run_form words)
  by_gen_is = refl

  by_check_is : asked_call (codes "check" ∷ words) ≡ outcome_by check (accepted_texts run_form words)
  by_check_is = refl

  by_said : (said : Result Texts WordsRefusal) → accepted_texts run_form words ≡ said → AreRefusedByGen words ⊎ AskForRun words
  by_said (Err reason) is = inl (reason, by_gen_is ∙ ap (outcome_by gen) is)
  by_said (Ok texts) is = inr (record {
    call = run_call texts;
    by_gen = by_gen_is ∙ ap (outcome_by gen) is;
    by_check = by_check_is ∙ ap (outcome_by check) is;
    numbers = run_numbers words texts is;
    names = names_differ words texts is;
  })

  pub asked_alike : AreRefusedByGen words ⊎ AskForRun words
  asked_alike = by_said (accepted_texts run_form words) refl

-- words of gen that ask for this run ask for it
pub asks_for : (words : List (List ℕ)) (call : RunCall) → asked_call (codes "gen" ∷ words) ≡ Ok (gen call)
    → (asked : AskForRun words) × (asked.call ≡ call)
asks_for words call is =
    ⊎_elim
    (λ (refused : AreRefusedByGen words).
    let never : Ok (gen call) ≡ Err refused.0 = sym is ∙ refused.1 in absurd cc)
    (λ (asked : AskForRun words).
    let same : Ok (gen asked.call) ≡ Ok (gen call) = sym asked.by_gen ∙ is in (asked, cc))
    (asked_alike words)
