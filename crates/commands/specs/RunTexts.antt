-- What `gen` and `check` read: NET, DELAYS and, for a skewed load, SCAN, which tell what a run is of; and, by `check`, its three claim files
-- (this project's own).
use Rattle.std.specs.Prelude.{ℕ, ◌+◌, List, [], ◌∷◌, ◌++◌}
use Rattle.command_line.specs.Modes.{RunMode, enhanced, broadside, skewed}
use Rattle.command_line.specs.Words.{RunCall}
use Rattle.calls.specs.Work.{Stage}
use Rattle.commands.specs.InputRequirements.{Requirement, input_at, input_stages, scan_stages}

-- SCAN is read for a skewed load, and has to give the chains of the circuit
abbrev pub launch_stages : {Own : Type 0} → RunMode → List (Stage (Requirement Own))
launch_stages enhanced = []
launch_stages broadside = []
launch_stages (skewed scan) = scan_stages 2 scan

-- NET and DELAYS are read and judged, and then what the mode needs
abbrev pub run_input_stages : {Own : Type 0} → RunCall → List (Stage (Requirement Own))
run_input_stages call = input_stages call.net call.delays ++ launch_stages call.mode

-- the inputs that tell what a run is of, where NET and DELAYS have these bytes and this was read for the mode
abbrev pub front_inputs : List ℕ → List ℕ → List (List ℕ) → List (List ℕ)
front_inputs net delays scans = net ∷ delays ∷ scans

-- the bytes of the files of a run; `scans` are those of SCAN, where it is read
pub record RunTexts : Type 0 where
  pub net : List ℕ
  pub delays : List ℕ
  pub scans : List (List ℕ)
  pub tests : List ℕ
  pub report : List ℕ
  pub proofs : List ℕ

-- how many inputs are read before the claim files
abbrev pub claims_place : RunMode → ℕ
claims_place enhanced = 2
claims_place broadside = 2
claims_place (skewed scan) = 3

-- what is read for the mode among these inputs
abbrev pub scans_of : RunMode → List (List ℕ) → List (List ℕ)
scans_of enhanced inputs = []
scans_of broadside inputs = []
scans_of (skewed scan) inputs = input_at inputs 2 ∷ []

-- the files of a run in this mode among these inputs
abbrev pub run_texts_of : RunMode → List (List ℕ) → RunTexts
run_texts_of mode inputs = record {
  net = input_at inputs 0;
  delays = input_at inputs 1;
  scans = scans_of mode inputs;
  tests = input_at inputs (claims_place mode);
  report = input_at inputs (claims_place mode + 1);
  proofs = input_at inputs (claims_place mode + 2);
}

-- they are read in this order
abbrev pub inputs_of : RunTexts → List (List ℕ)
inputs_of texts = front_inputs texts.net texts.delays texts.scans ++ texts.tests ∷ texts.report ∷ texts.proofs ∷ []
