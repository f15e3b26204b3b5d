-- What is read of a report (this project's own format).
use Rattle.std.specs.Prelude.{◌≡◌, ⊤, ℕ, ◌+◌, List, [], ◌∷◌, decimal, Option, Some, None, Result, Ok, Err}
use Rattle.std.specs.Borrow.{Bor}
use Rattle.std.specs.Global.{Vec}
use Rattle.pd_base.specs.declared.fault.Direction.{Direction}
use Rattle.netlist.specs.Circuit.{Circuit, gate_at}
use Rattle.netlist.specs.Names.{name_at}
use Rattle.pd_base.specs.declared.ids.GateId.{GateId}
use Rattle.runs.specs.declared.run.ListedPath.{ListedPath}
use Rattle.runs.specs.Lawful.{Named}
use Rattle.text_pieces.specs.Tokens.{comma, direction_word}
use Rattle.text_pieces.specs.LineFiles.{lines_text, IsFirstBadLine, IsWhole, LacksForm}
use Rattle.text_pieces.specs.Cuts.{pieces_left}
use Rattle.text_pieces.specs.Reads.{Reads}
use Rattle.run_files.specs.ReportForm.{IsSpelledReport, ReportLine, lines_told, report_form, report_headings, report_start}
use Rattle.run_files.specs.ReportText.{report_text, steps_text}
use Rattle.run_files.specs.declared.fault.TextFault.{TextFault}
use Rattle.run_files.specs.declared.fault.TextFault.TheVariants.{Malformed, NoMemory}
use Rattle.run_files.specs.declared.report_fields.PathFields.{PathFields}
use Rattle.run_files.specs.declared.report_fields.VerdictFields.{VerdictFields}
use Rattle.run_files.specs.declared.report_verdicts.NamedSoFar.{NamedSoFar}
use Rattle.run_files.specs.declared.report_lines.ToldRise.{ToldRise}
use Rattle.run_files.specs.declared.report_paths.MeasuredPath.{MeasuredPath}

-- What a reader of reports answers of a text: the lawful paths whose report it is; or, where it is that of no lawful paths, the first line
-- that lacks its form; or that memory ran out.
abbrev pub ReportAnswer : Circuit → List ℕ → Result (Vec ListedPath) TextFault → Type 0
ReportAnswer c text (Ok paths) = Reads (report_text c) (IsSpelledReport c) text (Some paths.items)
ReportAnswer c text (Err (Malformed number)) =
    Reads (report_text c) (IsSpelledReport c) text None × IsFirstBadLine (report_form c) report_start report_headings text number
ReportAnswer c text (Err (NoMemory _)) = ⊤

-- what is answered of the lines behind the first
abbrev pub PathLinesAnswer : Circuit → List ℕ → Result (Vec ListedPath) TextFault → Type 0
PathLinesAnswer c text (Ok paths) =
    Reads (lines_text (report_form c) report_start) (IsWhole (report_form c) report_start) text (Some (lines_told paths.items))
PathLinesAnswer c text (Err (Malformed number)) =
    Reads (lines_text (report_form c) report_start) (IsWhole (report_form c) report_start) text None
    × ((above : ℕ) × (number ≡ above + 1) × LacksForm (report_form c) report_start text above)
PathLinesAnswer c text (Err (NoMemory _)) = ⊤

-- the fields of a line for a transition, where what it tells of the path and what is behind it are these
abbrev pub fields_with : ℕ → Direction → (List ℕ × List ℕ × List ℕ) × List (List ℕ) → List (List ℕ)
fields_with number direction read = decimal number ∷ direction_word direction ∷ read.0.0 ∷ read.0.1 ∷ read.0.2 ∷ read.1

-- the fields that tell of a path, which are lent
abbrev pub path_lent : PathFields → List ℕ × List ℕ × List ℕ
path_lent fields = (fields.length.now, fields.source.now, fields.steps.now)

-- these, with the fields that are left
abbrev pub fields_lent : PathFields × Option (Bor (List ℕ)) → (List ℕ × List ℕ × List ℕ) × List (List ℕ)
fields_lent read = (path_lent read.0, pieces_left comma read.1)

-- the four fields of a verdict
abbrev pub four_fields : List ℕ × List ℕ × List ℕ × List ℕ → List (List ℕ)
four_fields fields = fields.0 ∷ fields.1 ∷ fields.2 ∷ fields.3 ∷ []

-- which are lent
abbrev pub verdict_lent : VerdictFields → List ℕ × List ℕ × List ℕ × List ℕ
verdict_lent fields = (fields.word.now, fields.test.now, fields.robust_proof.now, fields.nonrobust_proof.now)

-- what the verdicts of the lines so far have named
abbrev pub named_by : NamedSoFar → Named
named_by named = record { tests = named.tests; proofs = named.proofs }

-- the texts of the fields that tell of a path
abbrev pub measured_texts : Circuit → MeasuredPath → List ℕ × List ℕ × List ℕ
measured_texts c measured = (decimal measured.length, name_at c measured.path.source.0, steps_text c measured.path.steps)

-- the name of a gate
abbrev pub gate_name : Circuit → GateId → List ℕ
gate_name c gate = (gate_at c gate.0).name

-- what the line for the rising transition tells
abbrev pub rise_told : ToldRise → ReportLine
rise_told told = record { path = told.measured.path; length = told.measured.length; verdict = told.verdict }
