-- The line that `make` prints on out (this project's own format).
use Rattle.std.specs.Prelude.{ℕ, List, [], ◌∷◌, ◌++◌, codes, decimal}
use Rattle.netlist.specs.Circuit.{Circuit, line_count}
use Rattle.netlist.specs.Pins.{pin_total}
use Rattle.runs.specs.declared.run.ListedPath.{ListedPath}
use Rattle.runs.specs.declared.run.Run.{Run}
use Rattle.text_pieces.specs.Tokens.{line}
use Rattle.run_files.specs.Summary.{counts_text}

-- the length of the first path that is listed, which is the longest, or 0 where none is
abbrev pub first_length : List ListedPath → ℕ
first_length [] = 0
first_length (listed ∷ paths) = listed.length

-- the stages, lines and pins of a ladder, the counts of a run of it, and how long its longest path is
abbrev pub ladder_line : ℕ → Circuit → Run → List ℕ
ladder_line stages c run =
    line (codes "ladder " ++ decimal stages ++ codes " lines " ++ decimal (line_count c) ++ codes " pins " ++ decimal (pin_total c)
    ++ codes " " ++ counts_text run ++ codes " longest " ++ decimal (first_length run.paths))
