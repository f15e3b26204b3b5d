-- What is claimed of a run (this project's own).
use Rattle.std.specs.Prelude.{ℕ, List, Option, Some, None}
use Rattle.pd_base.specs.Route.{Route}
use Rattle.netlist.specs.Circuit.{Circuit}
use Rattle.netlist.specs.Order.{AreFirst}
use Rattle.netlist.specs.Waves.{Delays}
use Rattle.runs.specs.declared.run.Run.{Run}
use Rattle.good_runs.specs.GoodRun.{IsGoodRun}
use Rattle.claim_check.specs.declared.claim.Claim.{Claim}
use Rattle.claim_check.specs.declared.claim.Claim.TheVariants.{Holds, Fails}
use Rattle.claim_check.specs.declared.claim.Flaw.{Flaw}
use Rattle.claim_check.specs.Flaws.{IsFirstFlaw}
use Rattle.claim_check.specs.Right.{IsRightAt}

-- a claim tells of a run: that it is good, or that this is its first flaw, beside the first paths of the circuit
abbrev pub TellsOfRun : Circuit → Delays → ℕ → ℕ → Run → Claim → Type 0
TellsOfRun c delays count budget run Holds = IsGoodRun c delays count budget run
TellsOfRun c delays count budget run (Fails item reason) =
    (first : List Route) × AreFirst c delays count first × IsFirstFlaw (IsRightAt c delays budget first run) item reason

-- the claim that tells a flaw, if there is one
abbrev pub claim_of : Option Flaw → Claim
claim_of None = Holds
claim_of (Some flaw) = Fails flaw.item flaw.reason
