-- The text of the report: a header, then two lines per listed path, of fields joined by commas (this project's own format).
use Rattle.std.specs.Prelude.{ℕ, ◌+◌, List, [], ◌∷◌, ◌++◌, map, flat_map, codes, decimal}
use Rattle.std.specs.List.{join_with_byte}
use Rattle.pd_base.specs.declared.fault.Direction.{Direction}
use Rattle.pd_base.specs.declared.fault.Direction.TheVariants.{Rise, Fall}
use Rattle.pd_base.specs.declared.ids.PinRef.{PinRef}
use Rattle.netlist.specs.Circuit.{Circuit, gate_at}
use Rattle.netlist.specs.Names.{name_at}
use Rattle.runs.specs.declared.run.Verdict.{Verdict}
use Rattle.runs.specs.declared.run.Verdict.TheVariants.{Robust, Nonrobust, Untestable, Aborted}
use Rattle.runs.specs.declared.run.ListedPath.{ListedPath}
use Rattle.text_pieces.specs.Tokens.{space, comma, line, direction_word}

-- what stands where there is nothing to say
abbrev pub nothing : List ℕ
nothing = codes "-"

-- a step: the gate's name, a colon, the pin's number
abbrev pub step_text : Circuit → PinRef → List ℕ
step_text c step = (gate_at c step.gate.0).name ++ codes ":" ++ decimal step.pin

-- the steps with single spaces between
abbrev pub steps_text : Circuit → List PinRef → List ℕ
steps_text c [] = nothing
steps_text c (step ∷ steps) = join_with_byte space (map (step_text c) (step ∷ steps))

-- a verdict's word, then its test, its robust proof and its nonrobust proof
abbrev pub verdict_fields : Verdict → List (List ℕ)
verdict_fields (Robust test) = codes "robust" ∷ decimal test ∷ nothing ∷ nothing ∷ []
verdict_fields (Nonrobust test proof) = codes "nonrobust" ∷ decimal test ∷ decimal proof ∷ nothing ∷ []
verdict_fields (Untestable proof) = codes "untestable" ∷ nothing ∷ nothing ∷ decimal proof ∷ []
verdict_fields (Aborted robust nonrobust) = codes "aborted" ∷ nothing ∷ decimal robust ∷ decimal nonrobust ∷ []

-- the fields of one line: path number, transition, length, source, steps, and the verdict's
abbrev pub fault_fields : Circuit → ℕ → ListedPath → Direction → Verdict → List (List ℕ)
fault_fields c number listed direction verdict =
    decimal number ∷ direction_word direction ∷ decimal listed.length ∷ name_at c listed.path.source.0
    ∷ steps_text c listed.path.steps ∷ verdict_fields verdict

-- the names of the columns, on the first line
abbrev pub header_fields : List (List ℕ)
header_fields = codes "path" ∷ codes "direction" ∷ codes "length" ∷ codes "source" ∷ codes "steps" ∷ codes "verdict"
    ∷ codes "test" ∷ codes "robust_proof" ∷ codes "nonrobust_proof" ∷ []

-- a path's line for each transition, the rising one first
abbrev pub path_rows : Circuit → ℕ → ListedPath → List (List (List ℕ))
path_rows c number listed =
    fault_fields c number listed Rise listed.rise ∷ fault_fields c number listed Fall listed.fall ∷ []

-- the lines of the paths, numbered on from this number
abbrev pub report_rows : Circuit → ℕ → List ListedPath → List (List (List ℕ))
report_rows c number [] = []
report_rows c number (listed ∷ paths) = path_rows c number listed ++ report_rows c (number + 1) paths

-- fields joined by commas, ended by LF
abbrev pub row_line : List (List ℕ) → List ℕ
row_line fields = line (join_with_byte comma fields)

-- the whole file
abbrev pub report_text : Circuit → List ListedPath → List ℕ
report_text c paths = flat_map row_line (header_fields ∷ report_rows c 1 paths)
