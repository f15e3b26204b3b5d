-- A report is read where its first line and then the lines of its paths are.
use Rattle.std.proofs.Common.{◌≡◌, ◌<◌, ◌+◌, ◌^◌, ℕ, List, [], ◌∷◌, ◌++◌, Option, Some, None, IfSome, Result, Ok, Err, option_map, All, refl, sym, ap, subst, ◌∙◌, flat_map}
use Rattle.std.specs.Global.{Vec}
use Rattle.std.specs.List.{AllByRecursion}
use Rattle.std.proofs.lemmas.List.Elements.{All-from_recursion, recursion_from_All}
use Rattle.std.proofs.lemmas.Option.{none-some, same_Some}
use Rattle.pd_base.specs.declared.fault.Direction.TheVariants.{Rise, Fall}
use Rattle.netlist.specs.Circuit.{Circuit}
use Rattle.runs.specs.declared.run.ListedPath.{ListedPath}
use Rattle.runs.specs.Lawful.{AreNumbered, IsNameable, Named, named_with, none_named}
use Rattle.runs.specs.Verdicts.{verdicts_of}
use Rattle.text_pieces.specs.LineFiles.{headed, lines_text, state_after, AreLines, IsWhole}
use Rattle.text_pieces.specs.Reads.{Reads}
use Rattle.text_pieces.proofs.Headings.{bad_behind, headed_once, heading_missing}
use Rattle.text_pieces.specs.Tokens.{line}
use Rattle.run_files.specs.ReportForm.{fall_line, lines_told, report_form, report_heading, report_headings, report_start, rise_line, HasSmallNumbers, IsSpelledReport}
use Rattle.run_files.specs.ReportReading.{PathLinesAnswer, ReportAnswer}
use Rattle.run_files.specs.ReportText.{fault_fields, report_rows, report_text, row_line}
use Rattle.run_files.specs.declared.fault.TextFault.{TextFault}
use Rattle.run_files.specs.declared.fault.TextFault.TheVariants.{Malformed, NoMemory}
use Rattle.text_pieces.specs.LineFiles.{IsFirstBadLine}
use Rattle.run_files.proofs.ReportLines.{between}

-- what a path of a report keeps to, beside the numbers of its verdicts
pub record IsKept (c : Circuit) (listed : ListedPath) : Type 0 where
  pub nameable : IsNameable c listed.path
  pub length : listed.length < 2 ^ 64
  pub rise : HasSmallNumbers listed.rise
  pub fall : HasSmallNumbers listed.fall

module _ (c : Circuit) where
  -- the rows of paths are their lines
  rows_are_lines : (number : ℕ) (named : Named) (paths : List ListedPath)
      → flat_map row_line (report_rows c number paths) ≡ lines_text (report_form c) (between number named) (lines_told paths)
  rows_are_lines number named [] = refl
  rows_are_lines number named (listed ∷ paths) =
      ap (λ (rest : List ℕ). row_line (fault_fields c number listed Rise listed.rise) ++ (row_line (fault_fields c number listed Fall listed.fall) ++ rest))
      (rows_are_lines (number + 1) (named_with (named_with named listed.rise) listed.fall) paths)

  -- paths that keep to this, and whose verdicts name on, may stand line by line
  paths_fit : (number : ℕ) (named : Named) (paths : List ListedPath) → AllByRecursion (IsKept c) paths → AreNumbered named (verdicts_of paths)
      → AreLines (report_form c) (between number named) (lines_told paths)
  paths_fit number named [] kept numbered = tt
  paths_fit number named (listed ∷ paths) kept numbered = (
    record {
      path = record { nameable = kept.0.nameable; small = kept.0.length };
      agrees = tt;
      verdict = record { names = numbered.0; small = kept.0.rise };
    },
    (
      record {
        path = record { nameable = kept.0.nameable; small = kept.0.length };
        agrees = (refl, refl);
        verdict = record { names = numbered.1.0; small = kept.0.fall };
      },
      paths_fit (number + 1) (named_with (named_with named listed.rise) listed.fall) paths kept.1 numbered.1.1,
    ),
  )

  -- behind them no line waits
  none_waits : (number : ℕ) (named : Named) (paths : List ListedPath)
      → (state_after (report_form c) (between number named) (lines_told paths)).waiting ≡ None
  none_waits number named [] = refl
  none_waits number named (listed ∷ paths) = none_waits (number + 1) (named_with (named_with named listed.rise) listed.fall) paths

  -- and the other way round
  paths_kept : (number : ℕ) (named : Named) (paths : List ListedPath) → AreLines (report_form c) (between number named) (lines_told paths)
      → AllByRecursion (IsKept c) paths × AreNumbered named (verdicts_of paths)
  paths_kept number named [] fit = (tt, tt)
  paths_kept number named (listed ∷ paths) fit =
      let rest = paths_kept (number + 1) (named_with (named_with named listed.rise) listed.fall) paths fit.1.1 in (
        (
          record {
            nameable = fit.0.path.nameable;
            length = fit.0.path.small;
            rise = fit.0.verdict.small;
            fall = fit.1.0.verdict.small;
          },
          rest.0,
        ),
        (fit.0.verdict.names, (fit.1.0.verdict.names, rest.1)),
      )

  all_kept : (paths : List ListedPath) → AllByRecursion (λ listed. IsNameable c listed.path) paths
      → AllByRecursion (λ (listed : ListedPath). listed.length < 2 ^ 64) paths → AllByRecursion (λ listed. HasSmallNumbers listed.rise) paths
      → AllByRecursion (λ listed. HasSmallNumbers listed.fall) paths → AllByRecursion (IsKept c) paths
  all_kept [] a b d e = tt
  all_kept (listed ∷ paths) a b d e = (
    record { nameable = a.0; length = b.0; rise = d.0; fall = e.0 },
    all_kept paths a.1 b.1 d.1 e.1,
  )

  -- a report's lines are whole
  pub whole_lines : (paths : List ListedPath) → IsSpelledReport c paths → IsWhole (report_form c) report_start (lines_told paths)
  whole_lines paths spelled = record {
    each =
        paths_fit 1 none_named paths
        (all_kept paths (recursion_from_All (λ listed. IsNameable c listed.path) paths spelled.lawful.nameable)
        (recursion_from_All (λ (listed : ListedPath). listed.length < 2 ^ 64) paths spelled.lengths)
        (recursion_from_All (λ listed. HasSmallNumbers listed.rise) paths spelled.rises)
        (recursion_from_All (λ listed. HasSmallNumbers listed.fall) paths spelled.falls))
        spelled.lawful.numbered;
    ends = none_waits 1 none_named paths;
  }

  kept_spelled : (paths : List ListedPath) → AllByRecursion (IsKept c) paths → All (IsKept c) paths
  kept_spelled paths kept = All-from_recursion (IsKept c) paths kept

  lines_whole : (paths : List ListedPath) → IsWhole (report_form c) report_start (lines_told paths) → IsSpelledReport c paths
  lines_whole paths whole =
      let parts = paths_kept 1 none_named paths whole.each in
      let each = kept_spelled paths parts.0 in
      record {
        lawful = record { nameable = λ k d within. (each k d within).nameable; numbered = parts.1 };
        lengths = λ k d within. (each k d within).length;
        rises = λ k d within. (each k d within).rise;
        falls = λ k d within. (each k d within).fall;
      }

  -- the lines tell the paths
  pub paths_once : (paths others : List ListedPath) → lines_told paths ≡ lines_told others → paths ≡ others
  paths_once [] [] same = refl
  paths_once [] (other ∷ others) same = absurd cc
  paths_once (listed ∷ paths) [] same = absurd cc
  paths_once (listed ∷ paths) (other ∷ others) same =
      let rise : rise_line listed ≡ rise_line other = cc in
      let fall : fall_line listed ≡ fall_line other = cc in
      let rest : lines_told paths ≡ lines_told others = cc in
      let more = paths_once paths others rest in
      (λ i. record {
        path = (rise i).path;
        length = (rise i).length;
        rise = (rise i).verdict;
        fall = (fall i).verdict;
      } ∷ more i)

  pub text_is : (paths : List ListedPath) → report_text c paths ≡ headed report_headings (lines_text (report_form c) report_start (lines_told paths))
  text_is paths = ap (λ (rest : List ℕ). headed report_headings rest) (rows_are_lines 1 none_named paths)

  -- without the first line nothing is read
  pub no_heading_answer : (text : List ℕ) → Reads (λ (rest : List ℕ). line report_heading ++ rest) (λ rest. Unit {0}) text None
      → ReportAnswer c text (Err (Malformed 1))
  no_heading_answer text reads =
      let lacks = heading_missing (report_form c) report_start report_heading [] text reads in
      (record { found = tt; only = λ paths spelled is. absurd (lacks.none _ (is ∙ text_is paths)) }, lacks.bad)

  module _ (text rest : List ℕ) (headings : text ≡ headed report_headings rest) where
    -- behind the heading the lines are read
    pub report_read : (read : Option (List ListedPath))
        → Reads (lines_text (report_form c) report_start) (IsWhole (report_form c) report_start) rest (option_map lines_told read)
        → Reads (report_text c) (IsSpelledReport c) text read
    report_read read reads = record { found = found read reads; only = only read reads }
      where
        found : (read : Option (List ListedPath))
            → Reads (lines_text (report_form c) report_start) (IsWhole (report_form c) report_start) rest (option_map lines_told read)
            → IfSome read (λ paths. IsSpelledReport c paths × (text ≡ report_text c paths))
        found None reads = tt
        found (Some paths) reads =
            (lines_whole paths reads.found.0, headings ∙ ap (headed report_headings) reads.found.1 ∙ sym (text_is paths))

        same_lines : (paths : List ListedPath) → text ≡ report_text c paths → rest ≡ lines_text (report_form c) report_start (lines_told paths)
        same_lines paths is = headed_once report_headings rest _ (sym headings ∙ is ∙ text_is paths)

        only : (read : Option (List ListedPath))
            → Reads (lines_text (report_form c) report_start) (IsWhole (report_form c) report_start) rest (option_map lines_told read)
            → (paths : List ListedPath) → IsSpelledReport c paths → text ≡ report_text c paths → read ≡ Some paths
        only None reads paths spelled is = absurd (none-some _ (reads.only (lines_told paths) (whole_lines paths spelled) (same_lines paths is)))
        only (Some found) reads paths spelled is =
            ap Some
            (paths_once found paths (same_Some _ _ (reads.only (lines_told paths) (whole_lines paths spelled) (same_lines paths is))))

    -- what is answered of the lines is answered of the file
    pub lines_answer : (answer : Result (Vec ListedPath) TextFault) → PathLinesAnswer c rest answer → ReportAnswer c text answer
    lines_answer (Ok paths) lines = report_read (Some paths.items) lines
    lines_answer (Err (Malformed number)) lines = (
      report_read None lines.0,
      subst (λ (n : ℕ). IsFirstBadLine (report_form c) report_start report_headings text n) (sym lines.1.1)
          (bad_behind (report_form c) report_start report_headings text rest lines.1.0 headings lines.1.2),
    )
    lines_answer (Err (NoMemory _)) lines = tt
