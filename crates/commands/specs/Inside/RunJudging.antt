-- What was found of the inputs that tell what a run is of, as the functions say it that read and judge them (this project's own).
use Rattle.std.specs.Prelude.{◌≡◌, ℕ, List}
use Rattle.pd_base.specs.declared.ids.LineId.{LineId}
use Rattle.pd_io.specs.Seen.{FilesSeen}
use Rattle.netlist.specs.Circuit.{Circuit}
use Rattle.netlist.specs.Waves.{Delays}
use Rattle.command_line.specs.Modes.{RunMode, enhanced, broadside, skewed}
use Rattle.command_line.specs.Words.{RunCall}
use Rattle.calls.specs.declared.ending.Ending.{Ending}
use Rattle.commands.specs.Inside.InputJudging.{FailsToGiveChains, FailsToGiveDelays, FailsToGiveNet, GivesChains, GivesDelays, GivesNet}
use Rattle.commands.specs.declared.launch.Launch.{Launch}
use Rattle.commands.specs.declared.launch.Launch.TheVariants as launches

-- this launch needs no file, and none was read
pub record NeedsNone (needs_none launch : Launch) (old new : FilesSeen) : Type 0 where
  pub is : launch ≡ needs_none
  pub unread : new ≡ old

-- SCAN was read, and gives the chains by whose last shift pairs are launched
pub record GivesSkewed (name : List ℕ) (c : Circuit) (launch : Launch) (old new : FilesSeen) : Type 0 where
  pub chains : List (List LineId)
  pub gives : GivesChains name c chains old new
  pub is : launch ≡ launches.Skewed chains

-- so pairs are launched in this mode
abbrev pub GivesLaunch : RunMode → Circuit → Launch → FilesSeen → FilesSeen → Type 0
GivesLaunch enhanced c launch old new = NeedsNone launches.Enhanced launch old new
GivesLaunch broadside c launch old new = NeedsNone launches.Broadside launch old new
GivesLaunch (skewed scan) c launch old new = GivesSkewed scan c launch old new

-- how they are is not told: SCAN gives no chains
abbrev pub FailsToGiveLaunch : RunMode → Circuit → Ending → FilesSeen → FilesSeen → Type 0
FailsToGiveLaunch enhanced c ending old new = ⊥
FailsToGiveLaunch broadside c ending old new = ⊥
FailsToGiveLaunch (skewed scan) c ending old new = FailsToGiveChains scan c ending old new

-- NET gives this circuit, DELAYS these delays to its pins, and so pairs are launched; each was judged before the next one was read
pub record GivesInputs (call : RunCall) (c : Circuit) (given : Delays) (launch : Launch) (old new : FilesSeen) : Type 0 where
  pub behind_net : FilesSeen
  pub net : GivesNet call.net c old behind_net
  pub behind_delays : FilesSeen
  pub delays : GivesDelays call.delays c given behind_net behind_delays
  pub launched : GivesLaunch call.mode c launch behind_delays new

-- one of them gives nothing
pub data FailsToGiveInputs (call : RunCall) (ending : Ending) (old new : FilesSeen) : Type 0 where
  no_net : FailsToGiveNet call.net ending old new → FailsToGiveInputs call ending old new
  no_delays : (c : Circuit) (behind_net : FilesSeen) → GivesNet call.net c old behind_net
      → FailsToGiveDelays call.delays c ending behind_net new → FailsToGiveInputs call ending old new
  no_launch : (c : Circuit) (given : Delays) (behind_net behind_delays : FilesSeen) → GivesNet call.net c old behind_net
      → GivesDelays call.delays c given behind_net behind_delays → FailsToGiveLaunch call.mode c ending behind_delays new
      → FailsToGiveInputs call ending old new
