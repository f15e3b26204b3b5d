-- A report has more bytes than faults, so these are few.
use Rattle.std.proofs.Common.{◌≡◌, ℕ, ◌+◌, ◌*◌, ◌<◌, ◌≤◌, ◌^◌, List, [], ◌∷◌, length, ap, arith}
use Rattle.std.specs.Prelude.{flat_map}
use Rattle.std.specs.List.{join_with_byte}
use Rattle.std.proofs.lemmas.List.{length-append}
use Rattle.netlist.specs.Circuit.{Circuit}
use Rattle.pd_base.specs.declared.limits.TheConstants.{MOST_BYTES}
use Rattle.runs.specs.declared.run.ListedPath.{ListedPath}
use Rattle.text_pieces.specs.Tokens.{comma}
use Rattle.run_files.specs.ReportText.{header_fields, path_rows, report_rows, row_line}
use Rattle.commands.specs.SpelledRuns.{SpellsReport}
use Rattle.commands.proofs.TestCounts.{line_long}

-- each row has a byte at least
rows_long : (rows : List (List (List ℕ))) → length rows ≤ length (flat_map row_line rows)
rows_long [] = omega arith
rows_long (row ∷ rows) =
    let behind = rows_long rows in
    let longer = line_long (join_with_byte comma row) (flat_map row_line rows) in
    omega arith

-- and each listed path has two
two_rows_each : (c : Circuit) (number : ℕ) (paths : List ListedPath) → length (report_rows c number paths) ≡ 2 * length paths
two_rows_each c number [] = omega arith
two_rows_each c number (listed ∷ paths) =
    let behind = two_rows_each c (number + 1) paths in
    omega (arith, length-append (path_rows c number listed) (report_rows c (number + 1) paths))

-- a report that is read has faults with numbers of 32 bits
pub few_faults : (c : Circuit) (text : List ℕ) (paths : List ListedPath) → length text ≤ MOST_BYTES → SpellsReport c text paths
    → 2 * length paths < 2 ^ 32
few_faults c text paths within spells =
    let long = rows_long (header_fields ∷ report_rows c 1 paths) in
    let two = two_rows_each c 1 paths in
    let same = ap length spells.is_text in
    omega arith
