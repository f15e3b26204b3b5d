-- The refusals of words, each for its reason: what the line on err says (this project's own).
use Rattle.std.specs.Prelude.{ℕ, List, ◌++◌, codes, decimal}
use Rattle.command_line.specs.Options.{option_word}
use Rattle.command_line.specs.declared.refusal.WordsRefusal.{WordsRefusal}
use Rattle.command_line.specs.declared.refusal.WordsRefusal.TheVariants.{Command, Repeat, Value, OptionAt, EmptyAt, Count, Scan, SameAt, Product, Time, Stages}
use Rattle.calls.specs.CauseAndText.{refusal_for}
use Rattle.calls.specs.declared.cause.Cause.TheVariants as cause
use Rattle.calls.specs.declared.refusal.Refusal.{Refusal}

-- words that are refused for what this says
abbrev pub wrong_words : List ℕ → Refusal
wrong_words reason = refusal_for cause.Words (codes "words: " ++ reason)

abbrev pub words_refusal : WordsRefusal → Refusal
words_refusal Command = wrong_words (codes "command")
words_refusal (Repeat option) = wrong_words (codes "repeat " ++ option_word option)
words_refusal (Value option) = wrong_words (codes "value " ++ option_word option)
words_refusal (OptionAt place) = wrong_words (codes "option at " ++ decimal place)
words_refusal (EmptyAt place) = wrong_words (codes "empty at " ++ decimal place)
words_refusal Count = wrong_words (codes "count")
words_refusal Scan = wrong_words (codes "scan")
words_refusal (SameAt first second) = wrong_words (codes "same at " ++ decimal first ++ codes " " ++ decimal second)
words_refusal (Product product) = wrong_words (codes "product " ++ decimal product)
words_refusal Time = wrong_words (codes "value TIME")
words_refusal Stages = wrong_words (codes "value N")
