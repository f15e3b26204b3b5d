-- What a call of `gen` left behind, as calls of other commands find it later (this project's own).
use Rattle.std.specs.Prelude.{◌≡◌, ◌≢◌, ℕ, List, [], ◌∷◌, map, All, AllPairs, Ok, Some, codes}
use Rattle.pd_io.specs.Folder.{bytes_at, Folder}
use Rattle.pd_io.specs.Seen.{Outside}
use Rattle.command_line.specs.Modes.{RunMode, enhanced, broadside, skewed}
use Rattle.command_line.specs.Words.{ReplayCall, RiseFallReplayCall, RunCall, asked_call, gen}
use Rattle.calls.specs.Work.{Work}
use Rattle.calls.specs.Passing.{Pass}
use Rattle.calls.specs.Calls.{IsDone}
use Rattle.commands.specs.Gen.{gen_work}
use Rattle.delay_annotation.specs.declared.setting.Columns.TheVariants.{RiseAndFall}
use Rattle.commands.specs.InputRequirements.{delays_stages, input_stages}
use Rattle.commands.specs.Replay.{replay_work}
use Rattle.commands.specs.RiseFallReplay.{rise_fall_replay_work}

-- the name of the scan file that a mode reads, if it reads one
abbrev pub scan_names : RunMode → List (List ℕ)
scan_names enhanced = []
scan_names broadside = []
scan_names (skewed scan) = scan ∷ []

-- the names of the files of a run
abbrev pub run_names : RunCall → List (List ℕ)
run_names call = call.net ∷ call.delays ∷ call.tests ∷ call.report ∷ call.proofs ∷ scan_names call.mode

-- what the scan file holds that a run's mode reads, if it reads one
abbrev pub scans_in : RunCall → Folder → List (List ℕ)
scans_in call now = map (λ name. bytes_at now.held name) (scan_names call.mode)

-- no two of them are the same
abbrev pub HasNamesApart : RunCall → Type 0
HasNamesApart call = AllPairs (λ a b. a ≢ b) (run_names call)

-- this work was done, and the files told then that they held this
pub record IsLeftBy (work : Work) (left : Folder) : Type 0 where
  pub old : Outside
  pub new : Outside
  pub done : IsDone work old new
  pub told : new.files.folder ≡ Some left

-- some words asked gen for this run, its work was done, and the files told then that they held this
pub record WasLeftByGen (call : RunCall) (left : Folder) : Type 0 where
  pub words : List (List ℕ)
  pub asked : asked_call (codes "gen" ∷ words) ≡ Ok (gen call)
  pub left_by : IsLeftBy (gen_work call) left

-- one name holds now what another one held then
abbrev pub HoldsAs : Folder → List ℕ → Folder → List ℕ → Type 0
HoldsAs now name then other = bytes_at now.held name ≡ bytes_at then.held other

-- these names hold what they held
abbrev pub HaveKept : List (List ℕ) → Folder → Folder → Type 0
HaveKept names then now = All (λ name. HoldsAs now name then name) names

-- a call of `replay` finds in NET what such a call of `gen` found there, in TESTS what that call wrote, and accepts NET and DELAYS
pub record FindsTests (call : RunCall) (left : Folder) (replay : ReplayCall) (now : Folder) : Type 0 where
  pub net : HoldsAs now replay.net left call.net
  pub tests : HoldsAs now replay.tests left call.tests
  pub inputs : List (List ℕ)
  pub accepted : Pass (replay_work replay) (Some now) (input_stages replay.net replay.delays) [] inputs

-- a call of `rfreplay` finds in NET what such a call of `gen` found there, in TESTS and REPORT what that call wrote, and accepts NET and DELAYS
pub record FindsTestsAndReport (call : RunCall) (left : Folder) (replay : RiseFallReplayCall) (now : Folder) : Type 0 where
  pub net : HoldsAs now replay.net left call.net
  pub tests : HoldsAs now replay.tests left call.tests
  pub report : HoldsAs now replay.report left call.report
  pub inputs : List (List ℕ)
  pub accepted : Pass (rise_fall_replay_work replay) (Some now) (delays_stages RiseAndFall replay.net replay.delays) [] inputs
