-- The report line by line: which line may come next, and what it leaves (this project's own format). Whoever reads it, or asks whether it
-- can be written, cites `report_form`.
use Rattle.std.specs.Prelude.{◌≡◌, ⊤, ℕ, ◌+◌, ◌<◌, ◌^◌, List, [], ◌∷◌, decimal, Option, Some, None, All}
use Rattle.std.specs.List.{join_with_byte}
use Rattle.pd_base.specs.Route.{Route}
use Rattle.pd_base.specs.declared.fault.Direction.{Direction}
use Rattle.pd_base.specs.declared.fault.Direction.TheVariants.{Rise, Fall}
use Rattle.netlist.specs.Circuit.{Circuit}
use Rattle.netlist.specs.Names.{name_at}
use Rattle.runs.specs.declared.run.ListedPath.{ListedPath}
use Rattle.runs.specs.declared.run.Verdict.{Verdict}
use Rattle.runs.specs.declared.run.Verdict.TheVariants.{Robust, Nonrobust, Untestable, Aborted}
use Rattle.runs.specs.Lawful.{IsLawfulReport, IsNameable, Named, NamesOn, named_with, none_named}
use Rattle.text_pieces.specs.Tokens.{comma, direction_word}
use Rattle.text_pieces.specs.LineFiles.{Form}
use Rattle.run_files.specs.ReportText.{header_fields, steps_text, verdict_fields}

-- what one line tells: a path, its length, and the verdict for one transition
pub record ReportLine : Type 0 where
  pub path : Route
  pub length : ℕ
  pub verdict : Verdict

-- What lines leave: the number of the path of which a line is due, its line for the rising transition where that stands already, and what
-- the verdicts have named.
pub record ReportState : Type 0 where
  pub number : ℕ
  pub waiting : Option ReportLine
  pub named : Named

-- a report begins with the first path
abbrev pub report_start : ReportState
report_start = record { number = 1; waiting = None; named = none_named }

-- the rising transition comes first
abbrev pub due_direction : Option ReportLine → Direction
due_direction None = Rise
due_direction (Some rise) = Fall

-- the fields of what a line tells of a path: its length, its source and its steps
abbrev pub path_fields : Circuit → Route → ℕ → List (List ℕ) → List (List ℕ)
path_fields c path length rest = decimal length ∷ name_at c path.source.0 ∷ steps_text c path.steps ∷ rest

-- the fields of a line: path number, transition, and what is told of the path and of the verdict
abbrev pub line_fields : Circuit → ℕ → Direction → ReportLine → List (List ℕ)
line_fields c number direction told =
    decimal number ∷ direction_word direction ∷ path_fields c told.path told.length (verdict_fields told.verdict)

-- both lines of a path agree in it and in its length
abbrev pub AgreesWith : Option ReportLine → ReportLine → Type 0
AgreesWith None told = ⊤
AgreesWith (Some rise) told = (told.path ≡ rise.path) × (told.length ≡ rise.length)

-- the numbers in a verdict have 32 bits
abbrev pub HasSmallNumbers : Verdict → Type 0
HasSmallNumbers (Robust test) = test < 2 ^ 32
HasSmallNumbers (Nonrobust test proof) = (test < 2 ^ 32) × (proof < 2 ^ 32)
HasSmallNumbers (Untestable proof) = proof < 2 ^ 32
HasSmallNumbers (Aborted robust nonrobust) = (robust < 2 ^ 32) × (nonrobust < 2 ^ 32)

-- the verdict names what may be named next, by numbers that the program keeps
pub record IsNextVerdict (named : Named) (verdict : Verdict) : Type 0 where
  pub names : NamesOn named verdict
  pub small : HasSmallNumbers verdict

-- a path that can be named, with a length that the program keeps
pub record IsTellable (c : Circuit) (path : Route) (length : ℕ) : Type 0 where
  pub nameable : IsNameable c path
  pub small : length < 2 ^ 64

-- the line may come next
pub record IsNextLine (c : Circuit) (state : ReportState) (told : ReportLine) : Type 0 where
  pub path : IsTellable c told.path told.length
  pub agrees : AgreesWith state.waiting told
  pub verdict : IsNextVerdict state.named told.verdict

-- what a line leaves, by whether it is the first or the second of its path
abbrev pub state_with : ℕ → Option ReportLine → ReportLine → Named → ReportState
state_with number None told named = record { number = number; waiting = Some told; named = named }
state_with number (Some rise) told named = record { number = number + 1; waiting = None; named = named }

-- the lines of the paths of this circuit, two for each; the text may end behind each path's second
abbrev pub report_form : Circuit → Form ReportState ReportLine
report_form c = record {
  text_of = λ state told. join_with_byte comma (line_fields c state.number (due_direction state.waiting) told);
  Fits = IsNextLine c;
  next = λ state told. state_with state.number state.waiting told (named_with state.named told.verdict);
  Ends = λ state. state.waiting ≡ None;
}

-- the line in front of them
abbrev pub report_heading : List ℕ
report_heading = join_with_byte comma header_fields

abbrev pub report_headings : List (List ℕ)
report_headings = report_heading ∷ []

-- a path's line for the rising transition, and the one for the falling one
abbrev pub rise_line : ListedPath → ReportLine
rise_line listed = record { path = listed.path; length = listed.length; verdict = listed.rise }

abbrev pub fall_line : ListedPath → ReportLine
fall_line listed = record { path = listed.path; length = listed.length; verdict = listed.fall }

-- the lines of paths
abbrev pub lines_told : List ListedPath → List ReportLine
lines_told [] = []
lines_told (listed ∷ paths) = rise_line listed ∷ fall_line listed ∷ lines_told paths

-- The listed paths that a report of this circuit may have. That numbers have the program's bits is known of each value of the program, and
-- is said here of any value.
pub record IsSpelledReport (c : Circuit) (paths : List ListedPath) : Type 0 where
  pub lawful : IsLawfulReport c paths
  pub lengths : All (λ listed. listed.length < 2 ^ 64) paths
  pub rises : All (λ listed. HasSmallNumbers listed.rise) paths
  pub falls : All (λ listed. HasSmallNumbers listed.fall) paths
