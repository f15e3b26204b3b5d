-- How the pairs of a run are launched, by its mode and what was read for it (this project's own).
use Rattle.std.specs.Prelude.{◌≡◌, ℕ, List, [], ◌∷◌}
use Rattle.pd_base.specs.declared.ids.LineId.{LineId}
use Rattle.netlist.specs.Circuit.{Circuit}
use Rattle.scan_order.specs.ScanFile.{HasChains}
use Rattle.command_line.specs.Modes.{RunMode, enhanced, broadside, skewed}
use Rattle.commands.specs.declared.launch.Launch.{Launch}
use Rattle.commands.specs.declared.launch.Launch.TheVariants as launches

-- pairs are launched by the last shift of the chains of this scan file
pub record IsShiftedBy (c : Circuit) (scan : List ℕ) (launch : Launch) : Type 0 where
  pub chains : List (List LineId)
  pub has : HasChains c scan chains
  pub is : launch ≡ launches.Skewed chains

-- so pairs are launched in this mode, where these inputs were read for it
abbrev pub HasLaunch : RunMode → Circuit → List (List ℕ) → Launch → Type 0
HasLaunch enhanced c [] launch = launch ≡ launches.Enhanced
HasLaunch broadside c [] launch = launch ≡ launches.Broadside
HasLaunch (skewed name) c (scan ∷ []) launch = IsShiftedBy c scan launch
HasLaunch mode c inputs launch = ⊥
