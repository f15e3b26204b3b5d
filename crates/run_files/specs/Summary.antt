-- The line that `gen` prints on out, and the counts in it (this project's own format).
use Rattle.std.specs.Prelude.{ℕ, List, ◌++◌, length, count_by, codes, decimal}
use Rattle.runs.specs.declared.run.Run.{Run}
use Rattle.runs.specs.Verdicts.{verdicts_of, is_robust, is_nonrobust, is_untestable, is_aborted}
use Rattle.text_pieces.specs.Tokens.{line}

-- how many paths there are, and how many faults have each verdict
abbrev pub counts_text : Run → List ℕ
counts_text run =
    let verdicts = verdicts_of run.paths in
    codes "paths " ++ decimal (length run.paths) ++ codes " robust " ++ decimal (count_by is_robust verdicts)
    ++ codes " nonrobust " ++ decimal (count_by is_nonrobust verdicts) ++ codes " untestable " ++ decimal (count_by is_untestable verdicts)
    ++ codes " aborted " ++ decimal (count_by is_aborted verdicts)

-- the whole line
abbrev pub summary_text : Run → List ℕ
summary_text run = line (counts_text run)
